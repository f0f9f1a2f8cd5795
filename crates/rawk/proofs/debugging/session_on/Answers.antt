use Rattle.rawk.proofs.Sessions.{held_on}
use Rattle.rawk.proofs.debugging.session_on.Goals as goal

pub returns-clause-held : goal.returns-clause-held
returns-clause-held g c =
    held_on g.D.Dialog.is_read g.M.Stepper.position g.M.Stepper.may_be g.M.Stepper.held g.M.Stepper.work g.M.Device.Source.may_give g.M.Device.Source.over g.M.Device.Source.handed (g.D.Dialog.asks c.args.dialog c.args.commands.now c.hold-over.new.commands) g.W.Sink.may_hold c.args.machine c.into_machine-machine.result c.new-session.result c.hold-over.new.session c.args.sink.now c.hold-over.new.sink c.hold-over.result c.into_source-source.result
    c.new-session.ensures.stand c.new-session.ensures.machine g.met.M.Device.Source.gives_some c.hold-over.ensures.speaks c.hold-over.ensures.narrows c.hold-over.ensures.draws c.into_machine-machine.ensures
    (record { comes = c.known.ensures.comes; read_failed = c.known.ensures.read_failed; stands = c.known.ensures.stands }) c.into_source-source.ensures
