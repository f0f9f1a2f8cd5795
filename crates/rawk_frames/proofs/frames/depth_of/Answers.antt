use Rattle.std.proofs.Common.{◌∙◌, sym}
use Rattle.rawk_slots.specs.Stacked.{live_slots, live_values}
use Rattle.rawk_frames.proofs.Nested.{length_frames}
use Rattle.rawk_frames.proofs.frames.depth_of.Goals as goal

pub returns : goal.returns
returns c = c.len.ensures ∙ sym (length_frames (live_values c.args.frames.now.now) (live_slots c.args.locals.now.now))
