use Rattle.std.proofs.Common.{ap}
use Rattle.rawk_arrays.specs.ArraysLaws.{IsSameArrays-grown, arrays_lead_back-grown}
use Rattle.rawk_arrays.proofs.arrays.ArraysReversible.apply.Goals as goal

pub returns-in-Ok-clause-back : goal.returns-in-Ok-clause-back
returns-in-Ok-clause-back c = λ more h.
    let start = rw (ap (λ w. w.start) c.forget.ensures.now) at c.change.ensures.start in
    let same = IsSameArrays-grown c.args.self.now.now c.change.new.self.start start c.forget.ensures.laid in
    arrays_lead_back-grown c.change.new.self.now more.now c.args.self.now.now c.finish.result c.finish.ensures.fits c.finish.ensures.laid (rw c.finish.ensures.back same) (rw (ap (λ w. w.now) c.finish.ensures.now) at h)

pub returns-in-Err-clause-err : goal.returns-in-Err-clause-err
returns-in-Err-clause-err c =
    let start = rw (ap (λ w. w.start) c.forget.ensures.now) at c.change.ensures.start in
    rw (ap (λ w. w.now) c.undo_step.ensures.now) (IsSameArrays-grown c.args.self.now.now c.change.new.self.start start c.forget.ensures.laid)
