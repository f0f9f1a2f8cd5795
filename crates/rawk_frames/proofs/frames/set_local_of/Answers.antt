use Rattle.std.proofs.Common.{◌∙◌, ap, List}
use Rattle.rawk_slots.specs.Stacked.{live_slots, live_values}
use Rattle.rawk_frames.specs.declared.frames.Local.{Local}
use Rattle.rawk_frames.specs.LaidFrames.{frames_from}
use Rattle.rawk_frames.proofs.Nested.{local_set}
use Rattle.rawk_frames.proofs.frames.set_local_of.Goals as goal

pub returns-in_ok-set_oldest-in-Some-clause-did : goal.returns-in_ok-set_oldest-in-Some-clause-did
returns-in_ok-set_oldest-in-Some-clause-did g c =
    let acts = live_values c.args.frames.now.now in
    ap (λ (ls : List Local). frames_from acts ls) c.in_ok-set_oldest-in-Some.ensures.did
    ∙ local_set c.args.number acts (live_slots c.args.locals.now.now) c.in-Some.place c.args.local c.in-Some.ensures.found
