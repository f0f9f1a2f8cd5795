use Rattle.rawk_resolution.specs.Meant.{sense_of}
use Rattle.rawk_syntax.proofs.Layings.{no_return_value, return_value}
use Rattle.rawk_syntax.proofs.statements.settle_return.Goals as goal

pub returns-in-None : goal.returns-in-None
returns-in-None c = no_return_value (sense_of c.args.scope.now) c.args.site c.args.value.now c.in-None.is

pub returns-in_ok-value-in-Some : goal.returns-in_ok-value-in-Some
returns-in_ok-value-in-Some c = return_value (sense_of c.args.scope.now) c.args.site c.args.value.now c.in-Some.e c.get.result.now c.in_ok-value-in-Some.value c.in-Some.is c.get.ensures c.in_ok-value-in-Some.ensures
