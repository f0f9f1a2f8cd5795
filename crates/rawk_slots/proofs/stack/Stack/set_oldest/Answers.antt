use Rattle.std.proofs.Common.{◌∙◌, ap, slice_set, take}
use Rattle.std.proofs.Math.Seq.{take-set-lt}
use Rattle.rawk_slots.specs.Stacked.{live_slots}
use Rattle.rawk_slots.proofs.stack.Stack.set_oldest.Goals as goal

pub returns-in_ok-write-clause-did : goal.returns-in_ok-write-clause-did
returns-in_ok-write-clause-did g c =
    let s = c.self.inside in
    ap (take s.live) c.in_ok-write.ensures.did
    ∙ (take-set-lt s.live s.slots.now c.args.number c.args.value c.if-number-self.true ∙ ap (λ w. slice_set (live_slots w.now) c.args.number c.args.value) c.self.view_is)
