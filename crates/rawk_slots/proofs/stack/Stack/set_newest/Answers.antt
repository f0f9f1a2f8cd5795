use Rattle.std.proofs.Common.{◌∙◌, ap, slice_set, reverse, take, List}
use Rattle.rawk_slots.specs.Stacked.{live_values}
use Rattle.rawk_slots.proofs.Stacks.{set-newest}
use Rattle.rawk_slots.proofs.stack.Stack.set_newest.Goals as goal

pub returns-in_ok-write-clause-did : goal.returns-in_ok-write-clause-did
returns-in_ok-write-clause-did g c =
    let s = c.self.inside in
    ap (λ (xs : List g.row.T.Denot). reverse (take s.live xs)) c.in_ok-write.ensures.did
    ∙ (set-newest s.slots.now s.live c.args.value c.if-self-gt0.true c.self.invariant.now ∙ ap (λ w. slice_set (live_values w.now) 0 c.args.value) c.self.view_is)
