use Rattle.rawk_names.specs.Noted.{shown}
use Rattle.rawk_names.specs.Items.{parameter_defined, parameters_defined}
use Rattle.rawk_names.proofs.Parts.{part_more, parameters_defined-push}
use Rattle.rawk_names.proofs.register.Register.define_parameters.Goals as goal

pub loop-parameter-preserved : goal.loop-parameter-preserved
loop-parameter-preserved c =
    part_more (parameters_defined c.args.scope) (parameter_defined c.args.scope) (parameters_defined-push c.args.scope) c.args.parameters.now c.loop-parameter.parameter-index c.parameter-item.result (shown c.args.self.now) (shown c.loop-parameter.self) (shown c.define_parameter.new.self)
    c.loop-parameter-test.true c.parameter-item.is c.loop-parameter.invariant c.in_ok-define_parameter.ensures
