use Rattle.std.proofs.Common.{◌≡◌, ◌∙◌, ap, sym, length, arith}
use Rattle.rawk_slots.specs.BackLaws.{length-back}
use Rattle.rawk_slots.proofs.stack.Stack.finish_behind.Goals as goal

pub returns-clause-within : goal.returns-clause-within
returns-clause-within g c =
    let s = c.self.inside in
    let did = c.finish_behind.ensures.did in
    let same : length s.slots.start ≡ length s.slots.now = sym (ap length did.back) ∙ length-back s.slots.now did.entries in
    rw (← ap (λ w. w.now) c.self.view_is) (omega (arith, same, c.self.invariant.start))
