use Rattle.rawk_names.specs.Noted.{shown}
use Rattle.rawk_names.specs.Items.{parameter_checked, parameters_checked}
use Rattle.rawk_names.proofs.Parts.{part_more, parameters_checked-push}
use Rattle.rawk_names.proofs.register.Register.check_parameters.Goals as goal

pub loop-parameter-preserved : goal.loop-parameter-preserved
loop-parameter-preserved c =
    part_more parameters_checked parameter_checked parameters_checked-push c.args.parameters.now c.loop-parameter.parameter-index c.parameter-item.result (shown c.args.self.now) (shown c.loop-parameter.self) (shown c.check_parameter.new.self)
    c.loop-parameter-test.true c.parameter-item.is c.loop-parameter.invariant c.in_ok-check_parameter.ensures
