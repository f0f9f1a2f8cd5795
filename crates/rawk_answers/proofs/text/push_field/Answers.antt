use Rattle.std.proofs.Common.{◌-◌, sym}
use Rattle.rawk_value.specs.declared.value.Value.TheVariants.{Uninitialized}
use Rattle.rawk_answers.proofs.Absent.{absent_is, past_zero}
use Rattle.rawk_answers.proofs.text.push_field.Goals as goal

pub returns-in-None : goal.returns-in-None
returns-in-None g c =
    let absent = absent_is (g.M.Stepper.held c.args.machine.now).state.fields (c.args.number - 1) Uninitialized (sym c.in-None.ensures) in
    let above = c.if-number-eq0.false in
    rw (past_zero _ above) (rw absent c.push_text.ensures)
