use Rattle.std.proofs.Common.{ap}
use Rattle.rawk_slots.specs.Stacked.{live_slots, live_values}
use Rattle.rawk_frames.specs.LaidFrames.{frames_of}
use Rattle.rawk_frames.proofs.Nested.{left_frame}
use Rattle.rawk_frames.proofs.frames.Frames.leave.Goals as goal

pub returns-clause-left : goal.returns-clause-left
returns-clause-left c =
    let s = c.self.inside in
    rw (← ap (λ w. frames_of w.now) c.self.view_is)
    (left_frame (live_values s.frames.now) (live_values c.drop_newest.new.self.now) (live_slots s.locals.now) (live_slots c.truncate.new.self.now) c.in_ok-activation.field-0.now c.in_ok-activation.ensures c.drop_newest.ensures.did c.truncate.ensures.did)
