use Rattle.std.proofs.Common.{◌∙◌, arith}
use Rattle.rawk_slots.specs.Stacked.{live_slots, live_values}
use Rattle.rawk_frames.proofs.Nested.{place_found, place_past, length_values}
use Rattle.rawk_frames.proofs.frames.place_of.Goals as goal

pub returns-then-place-count-clause-found : goal.returns-then-place-count-clause-found
returns-then-place-count-clause-found c =
    let all = c.len-count.ensures ∙ length_values c.args.locals.now.now in
    place_found c.args.base (live_values c.args.frames.now.now) (live_slots c.args.locals.now.now) c.len-count.result c.args.number c.saturating_add-place.result c.requires all (omega arith) (omega (arith, c.saturating_add-place.ensures, c.if-place-count.true)) c.if-place-count.true

pub returns-clause-absent : goal.returns-clause-absent
returns-clause-absent c =
    let all = c.len-count.ensures ∙ length_values c.args.locals.now.now in
    place_past c.args.base (live_values c.args.frames.now.now) (live_slots c.args.locals.now.now) c.len-count.result c.args.number c.requires all (omega (arith, c.saturating_add-place.ensures, c.if-place-count.false))
