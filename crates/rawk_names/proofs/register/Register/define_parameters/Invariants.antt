use Rattle.std.proofs.Common.{◌≡◌, take}
use Rattle.rawk_names.specs.Noted.{shown}
use Rattle.rawk_names.specs.Items.{parameters_defined}
use Rattle.rawk_names.proofs.register.Register.define_parameters.Given as goal

abbrev pub invariant-loop-parameter : goal.invariant-loop-parameter
invariant-loop-parameter l = shown l.self ≡ parameters_defined l.scope (take l.parameter-index l.parameters) (shown l.fn.self)
