use Rattle.rawk_slots.specs.Stacked.{live_slots, live_values}
use Rattle.rawk_frames.proofs.Nested.{local_longer}
use Rattle.rawk_frames.proofs.frames.append_local_of.Goals as goal

pub returns-in-Some-clause-did : goal.returns-in-Some-clause-did
returns-in-Some-clause-did c =
    local_longer c.args.number (live_values c.args.frames.now.now) (live_slots c.args.locals.now.now) _ c.in-Some.place c.args.more.now c.in-Some.ensures.found c.append_at.result c.append_at.ensures.did
