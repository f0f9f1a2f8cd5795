use Rattle.std.proofs.Common.{sym}
use Rattle.rawk_value.specs.declared.value.Value.TheVariants.{Uninitialized}
use Rattle.rawk_answers.proofs.Absent.{absent_is}
use Rattle.rawk_answers.proofs.text.push_global.Goals as goal

pub returns-in-None : goal.returns-in-None
returns-in-None g c =
    let absent = absent_is (g.M.Stepper.held c.args.machine.now).state.globals c.args.number Uninitialized (sym c.in-None.ensures) in
    rw absent c.push_text.ensures
