use Rattle.std.proofs.Common.{refl, ◌∙◌}
use Rattle.rawk_debug.specs.Sessions.{stand}
use Rattle.rawk_debug.proofs.Searches.{back_twice, back_keeps}
use Rattle.rawk_debug.proofs.session.Session.rewind.Goals as goal

pub all-preserved : goal.all-preserved
all-preserved g c =
    let old = stand g.M.Stepper.position c.args.self.now in
    let mid = stand g.M.Stepper.position c.all.self in
    let moved = c.if-not-retreat.ensures in
    record {
      same = back_twice old mid _ c.all.invariant.same (moved.moved refl) refl refl;
      kept = back_keeps old mid _ c.all.invariant.same (moved.moved refl) (moved.kept refl);
      narrows = λ input may. c.all.invariant.narrows input (moved.narrows input may);
      reads_nothing = λ input may. moved.reads_nothing input (c.all.invariant.reads_nothing input may);
      idle = moved.idle ∙ c.all.invariant.idle;
    }
