use Rattle.std.proofs.Common.{◌∙◌, ap, drop, take, reverse}
use Rattle.rawk_slots.specs.Stacked.{live_values}
use Rattle.rawk_slots.proofs.Stacks.{drop-live}
use Rattle.rawk_slots.proofs.stack.Stack.drop_newest.Goals as goal

pub returns-clause-did : goal.returns-clause-did
returns-clause-did g c =
    let s = c.self.inside in
    ap (λ k. reverse (take k s.slots.now)) c.saturating_sub-self-inside.ensures
    ∙ (drop-live s.slots.now s.live c.args.count c.self.invariant.now ∙ ap (λ w. drop c.args.count (live_values w.now)) c.self.view_is)
