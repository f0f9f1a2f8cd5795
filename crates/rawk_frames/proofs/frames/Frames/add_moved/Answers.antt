use Rattle.std.proofs.Common.{ap}
use Rattle.rawk_slots.specs.Stacked.{live_values}
use Rattle.rawk_frames.specs.declared.frames.Local.TheVariants.{Holds}
use Rattle.rawk_frames.specs.LaidFrames.{frames_of}
use Rattle.rawk_frames.proofs.Nested.{more_added, none_added}
use Rattle.rawk_frames.proofs.frames.Frames.add_moved.Goals as goal

pub returns-clause-done : goal.returns-clause-done
returns-clause-done c =
    let s = c.self.inside in
    rw (← ap (λ w. frames_of w.now) c.self.view_is)
    (more_added c.add_moved_to.result (live_values s.frames.now) s.locals.now c.add_moved_to.new.locals.now (Holds c.args.value.now) c.self.invariant.now c.add_moved_to.ensures.done)

pub returns-clause-other : goal.returns-clause-other
returns-clause-other c =
    let s = c.self.inside in
    rw (← ap (λ w. frames_of w.now) c.self.view_is)
    (none_added c.add_moved_to.result (live_values s.frames.now) s.locals.now c.add_moved_to.new.locals.now c.add_moved_to.ensures.other)
