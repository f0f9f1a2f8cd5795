use Rattle.std.proofs.Common.{◌≡◌, ◌∙◌, ap, sym, length, arith}
use Rattle.rawk_slots.specs.BackLaws.{length-back}
use Rattle.rawk_slots.proofs.stack.Stack.finish.Goals as goal

pub returns-clause-fits : goal.returns-clause-fits
returns-clause-fits g c =
    let s = c.self.inside in
    let same : length s.slots.start ≡ length s.slots.now = sym (ap length c.finish.ensures.back) ∙ length-back s.slots.now c.finish.result.entries.items in
    rw (← ap (λ w. w.now) c.self.view_is) (record { places = c.finish.ensures.below; live = omega (arith, c.self.invariant.start) })
