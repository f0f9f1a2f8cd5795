use Rattle.std.proofs.Common.{◌∙◌, ap, subst, sym}
use Rattle.rawk_operators.specs.Borrowed.{borrowed_value}
use Rattle.rawk_code.specs.declared.code.Op.TheVariants as does
use Rattle.rawk_code.specs.declared.code.Instr.TheVariants as instr
use Rattle.rawk_operate.specs.declared.transfer.Transfer.TheVariants as transfer
use Rattle.rawk_operate.specs.Done.{led_by, Done}
use Rattle.rawk_operands.specs.Moving.{Moving, moving}
use Rattle.rawk_operate.proofs.Subscripts.{element_faults, element_put, subscript_in}
use Rattle.rawk_operate.proofs.elements.put_element_whole.Goals as goal

pub returns-in-Err-clause-did : goal.returns-in-Err-clause-did
returns-in-Err-clause-did g c = element_faults c.args.array c.args.from.now (moving c.args.store.now) c.in_ok-subscript.subscript c.in-Err.fault (led_by c.faulted.result) c.in_ok-subscript.ensures c.in-Err.is c.faulted.ensures

pub returns-in_ok-put-in-Ok-clause-did : goal.returns-in_ok-put-in-Ok-clause-did
returns-in_ok-put-in-Ok-clause-did g c =
    let m = moving c.spot_of.new.store in
    let before = c.in_ok-subscript.ensures ∙ ap (λ (y : Moving). subscript_in c.args.from.now y) (sym c.spot_of.ensures.same) in
    subst (λ (y : Moving). Done (instr.Do (does.ElementAt c.args.array c.args.from.now)) y transfer.Next (moving c.put.new.store)) c.spot_of.ensures.same
    (element_put c.args.array c.args.from.now m (moving c.touch_spot.new.store) (moving c.drop_taken.new.store) (moving c.put.new.store) c.in_ok-subscript.subscript c.in-Ok.key c.in_ok-spot-in-Ok.spot.place (borrowed_value c.spot_borrowed.result) c.in_ok-value-in-Ok.value
    before c.in-Ok.is c.in_ok-spot-in-Ok.ensures.place c.spot_borrowed.ensures c.in_ok-value-in-Ok.ensures c.in_ok-touch_spot-in-Ok.ensures.did c.drop_taken.ensures.did c.in_ok-put-in-Ok.ensures.did)
