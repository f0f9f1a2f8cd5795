use Rattle.rawk_operands.specs.Moving.{moving}
use Rattle.rawk_operate.proofs.Subscripts.{has_faults, has_put}
use Rattle.rawk_operate.specs.Done.{led_by}
use Rattle.rawk_operate.proofs.elements.put_has.Goals as goal

pub returns-in-Err-clause-did : goal.returns-in-Err-clause-did
returns-in-Err-clause-did g c = has_faults c.args.array c.args.from.now (moving c.args.store.now) c.in_ok-found.found c.in-Err.fault (led_by c.faulted.result) c.in_ok-found.ensures c.in-Err.is c.faulted.ensures

pub returns-in_ok-put-in-Ok-clause-did : goal.returns-in_ok-put-in-Ok-clause-did
returns-in_ok-put-in-Ok-clause-did g c =
    has_put c.args.array c.args.from.now (moving c.args.store.now) (moving c.drop_taken.new.store) (moving c.put.new.store) c.in_ok-found.found c.in-Ok.there c.flag.result c.in_ok-found.ensures c.in-Ok.is c.flag.ensures c.drop_taken.ensures.did c.in_ok-put-in-Ok.ensures.did
