use Rattle.std.proofs.Common.{ap}
use Rattle.rawk_frames.specs.FramesBack.{FitsFrames}
use Rattle.rawk_frames.proofs.frames.Frames.undo.Goals as goal

pub invariant_of-self : goal.invariant_of-self
invariant_of-self c =
    let s = c.self.inside in
    let g = c.args.group.now in
    let fits : FitsFrames g (record { frames = s.frames.now; locals = s.locals.now }) = rw (ap (λ w. w.now) c.self.view_is) c.requires in
    record { now = rw (c.undo_if.ensures.now, c.undo_if-2.ensures.now) fits.nested; begins = c.newest_base-self-inside.ensures }
