use Rattle.std.proofs.Common.{◌≡◌, ℤ, rules, SFits, subst, w64}
use Rattle.std.proofs.lemmas.Int.{to_z-of_z}
use Rattle.std.specs.Bool.{OnTrue}
use Rattle.rawk_value.specs.declared.value.Value.TheVariants.{Number}
use Rattle.rawk_frames.proofs.Nested.{same_lent, unwritten_lent, written_lent}
use Rattle.rawk_frames.proofs.frames.renumber_at.Goals as goal

pub returns-in-Holds-clause-done : goal.returns-in-Holds-clause-done
returns-in-Holds-clause-done c =
    let n = c.args.n in
    let fits : SFits w64 n = search rules in
    let done = subst (λ (z : ℤ). OnTrue c.renumber.result (c.renumber.new.value ≡ Number z)) (to_z-of_z w64 n fits) c.renumber.ensures.done in
    written_lent c.args.locals.now.now c.args.place c.renumber.new.value (Number n) c.requires c.renumber.result done

pub returns-in-Holds-clause-other : goal.returns-in-Holds-clause-other
returns-in-Holds-clause-other c =
    unwritten_lent c.args.locals.now.now c.args.place c.lend_oldest.result.now _ c.renumber.new.value c.requires c.lend_oldest.ensures.value c.in-Holds.is c.renumber.result c.renumber.ensures.other

pub returns-in-Names-clause-other : goal.returns-in-Names-clause-other
returns-in-Names-clause-other c = same_lent c.args.locals.now.now c.args.place c.lend_oldest.result.now c.requires c.lend_oldest.ensures.value
