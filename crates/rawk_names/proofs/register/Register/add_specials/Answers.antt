use Rattle.std.proofs.Common.{◌≡◌, ℕ, take, ap, ◌∙◌, arith}
use Rattle.rawk_special.specs.Special.{field_count_name, special_names}
use Rattle.rawk_names.specs.Items.{start, with_globals, with_variable, empty}
use Rattle.rawk_names.proofs.register.Register.add_specials.Goals as goal

pub returns : goal.returns
unfolding start
returns c =
    let n : c.loop-number.number ≡ 11 = omega arith in
    c.loop-number.invariant ∙ ap (λ (k : ℕ). with_globals (take k special_names) (with_variable 0 field_count_name empty)) n
