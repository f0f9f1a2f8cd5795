use Rattle.std.proofs.Common.{◌≡◌, ◌-◌, ◌<◌, Some, length, arith, rules, sym, ◌∙◌, subst}
use Rattle.std.specs.Prelude.{slice_get}
use Rattle.rawk_ere_tree.proofs.KeptLemmas.{there, last_there}
use Rattle.rawk_ere_tree.proofs.code.number_of.Goals as goal

pub returns-then-eq-clause-number : goal.returns-then-eq-clause-number
returns-then-eq-clause-number c =
    let same : c.index.result.now ≡ c.args.set.now = search rules in
    let within : c.len-count.result - 1 < length c.args.sets.now.items = omega (arith, c.if-count-gt0.true, c.len-count.ensures, c.args.sets.now.ok.0) in
    there c.args.sets.now.items c.in_ok-number.number (c.len-count.result - 1) c.index.result.now c.args.set.now c.in_ok-number.ensures within (sym c.index.ensures ∙ same)

pub returns-clause-number : goal.returns-clause-number
returns-clause-number c = subst (λ l. slice_get l c.in_ok-number-2.number ≡ Some c.args.set.now) (sym c.in_ok-push.ensures.items) (last_there c.args.sets.now.items c.in_ok-number-2.number c.args.set.now (c.in_ok-number-2.ensures ∙ c.len-count.ensures ∙ c.args.sets.now.ok.0))
