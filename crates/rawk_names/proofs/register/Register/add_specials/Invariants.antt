use Rattle.std.proofs.Common.{◌≡◌, take}
use Rattle.rawk_special.specs.Special.{field_count_name, special_names}
use Rattle.rawk_names.specs.Noted.{shown}
use Rattle.rawk_names.specs.Items.{with_globals, with_variable, empty}
use Rattle.rawk_names.proofs.register.Register.add_specials.Given as goal

abbrev pub invariant-loop-number : goal.invariant-loop-number
invariant-loop-number l = shown l.self ≡ with_globals (take l.number special_names) (with_variable 0 field_count_name empty)
