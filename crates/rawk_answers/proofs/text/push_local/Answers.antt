use Rattle.std.proofs.Common.{sym}
use Rattle.rawk_value.specs.declared.value.Value.TheVariants.{Uninitialized}
use Rattle.rawk_frames.specs.declared.frames.Local.TheVariants.{Holds}
use Rattle.rawk_frames.specs.Frame.{locals_now}
use Rattle.rawk_answers.proofs.Absent.{absent_is}
use Rattle.rawk_answers.proofs.text.push_local.Goals as goal

pub returns-in-None : goal.returns-in-None
returns-in-None g c =
    let absent = absent_is (locals_now (g.M.Stepper.held c.args.machine.now).state.frames) c.args.number (Holds Uninitialized) (sym c.in-None.ensures) in
    rw absent c.push_text-in-None.ensures
