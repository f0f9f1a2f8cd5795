use Rattle.std.proofs.Common.{◌≡◌, ℤ, rules, SFits, set, subst, w64}
use Rattle.std.proofs.lemmas.Int.{to_z-of_z}
use Rattle.std.specs.Bool.{OnTrue}
use Rattle.rawk_value.specs.declared.value.Value.TheVariants.{Number}
use Rattle.rawk_slots.specs.Stacked.{live_slots, live_values}
use Rattle.rawk_frames.specs.declared.frames.Local.TheVariants.{Holds}
use Rattle.rawk_frames.proofs.Nested.{local_written}
use Rattle.rawk_frames.proofs.frames.renumber_local_of.Goals as goal

pub returns-in-Some-clause-done : goal.returns-in-Some-clause-done
returns-in-Some-clause-done c =
    let n = c.args.n in
    let fits : SFits w64 n = search rules in
    let old = live_slots c.args.locals.now.now in
    let new = live_slots c.renumber_at.new.locals.now in
    let done = subst (λ (z : ℤ). OnTrue c.renumber_at.result (new ≡ set old c.in-Some.place (Holds (Number z)))) (to_z-of_z w64 n fits) c.renumber_at.ensures.done in
    local_written c.args.number (live_values c.args.frames.now.now) old new c.in-Some.place (Holds (Number n)) c.in-Some.ensures.found c.renumber_at.result done
