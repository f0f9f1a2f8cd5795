use Rattle.std.proofs.Common.{◌∙◌, ap, arith, reverse, take}
use Rattle.rawk_slots.specs.Stacked.{live_values}
use Rattle.rawk_slots.proofs.Stacks.{newest-range}
use Rattle.rawk_slots.proofs.stack.Stack.newest_values.Goals as goal

pub returns : goal.returns
returns g c =
    let s = c.self.inside in
    c.between.ensures
    ∙ (newest-range s.slots.now s.live c.min-size.result c.args.count c.self.invariant.now (λ few. omega (arith, few, c.min-size.ensures)) (λ all. omega (arith, all, c.min-size.ensures))
    ∙ ap (λ j. reverse (take c.args.count (live_values j.now))) c.self.view_is)
