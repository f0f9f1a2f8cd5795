use Rattle.std.proofs.Common.{ap}
use Rattle.rawk_frames.specs.FramesLaws.{IsSameKeys-grown, keys_lead_back-grown}
use Rattle.rawk_frames.proofs.keys_left.KeysLeftReversible.apply.Goals as goal

pub returns-in-Ok-clause-back : goal.returns-in-Ok-clause-back
returns-in-Ok-clause-back c = λ more h.
    let start = rw (ap (λ w. w.start) c.forget.ensures.now) at c.change.ensures.start in
    let same = IsSameKeys-grown c.args.self.now.now c.change.new.self.start start c.forget.ensures.live in
    keys_lead_back-grown c.change.new.self.now more.now c.args.self.now.now c.finish.result c.finish.ensures.fits (rw c.finish.ensures.back same) (rw (ap (λ w. w.now) c.finish.ensures.now) at h)
