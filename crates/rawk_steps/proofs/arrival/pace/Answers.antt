use Rattle.std.specs.Prelude.{◌+◌}
use Rattle.rawk_operands.specs.Moving.{moving}
use Rattle.rawk_steps.proofs.Arrivals.{step_arrives}
use Rattle.rawk_steps.proofs.arrival.pace.Goals as goal

pub returns-in-Ok-clause-did : goal.returns-in-Ok-clause-did
returns-in-Ok-clause-did g c =
    step_arrives g.R.Source.may_give c.args.code.now c.travel.new.tape c.in-Ok.to (c.args.point.now + c.args.more) c.args.limit.now (moving c.args.store.now) (moving c.travel.new.store) (moving c.enter_point.new.store)
    c.in-Ok.ensures.stops c.requires.running c.in-Ok.ensures.keeps c.in-Ok.ensures.did c.enter_point.ensures.did
