use Rattle.std.proofs.Common.{None, Some}
use Rattle.rawk_slots.specs.Stacked.{live_slots, live_values}
use Rattle.rawk_frames.proofs.Nested.{frame_at}
use Rattle.rawk_frames.proofs.frames.frame_of.Goals as goal

pub returns-in-Some : goal.returns-in-Some
returns-in-Some c = frame_at (live_values c.args.frames.now.now) (live_slots c.args.locals.now.now) c.args.number (Some c.in-Some.activation.now) c.in-Some.ensures

pub returns-in-None : goal.returns-in-None
returns-in-None c = frame_at (live_values c.args.frames.now.now) (live_slots c.args.locals.now.now) c.args.number None c.in-None.ensures
