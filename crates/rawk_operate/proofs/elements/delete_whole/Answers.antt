use Rattle.std.proofs.Common.{ap}
use Rattle.rawk_arrays.specs.Laid.{arrays_of}
use Rattle.rawk_operands.specs.Moving.{moving, moving_of}
use Rattle.rawk_operate.proofs.Subscripts.{delete_faults, element_deleted}
use Rattle.rawk_operate.specs.Done.{led_by}
use Rattle.rawk_operate.proofs.elements.delete_whole.Goals as goal

pub returns-in-Err-clause-did : goal.returns-in-Err-clause-did
returns-in-Err-clause-did g c = delete_faults c.args.array c.args.from.now (moving c.args.store.now) c.in_ok-subscript.subscript c.in-Err.fault (led_by c.faulted.result) c.in_ok-subscript.ensures c.in-Err.is c.faulted.ensures

pub returns-in_ok-delete_element-in-Ok-clause-did : goal.returns-in_ok-delete_element-in-Ok-clause-did
returns-in_ok-delete_element-in-Ok-clause-did g c =
    element_deleted c.args.array c.args.from.now (moving c.args.store.now) (moving c.delete_element.new.self) (moving c.drop_taken.new.store) c.in_ok-subscript.subscript c.in-Ok.key c.as_slice.result.now (arrays_of c.delete_element.new.self.arrays.now) c.in_ok-subscript.ensures c.in-Ok.is
    c.as_slice.ensures c.in_ok-delete_element-in-Ok.ensures.did (ap moving_of c.delete_element.ensures.rest) c.drop_taken.ensures.did
