use Rattle.rawk_resolution.specs.Meant.{sense_of}
use Rattle.rawk_syntax.proofs.Layings.{missing_tests, given_tests}
use Rattle.rawk_syntax.proofs.statements.settle_test.Goals as goal

pub returns-in-None-clause-settled : goal.returns-in-None-clause-settled
returns-in-None-clause-settled c =
    missing_tests (sense_of c.args.scope.now) c.args.test.now c.in-None.is

pub returns-in-Some-clause-settled : goal.returns-in-Some-clause-settled
returns-in-Some-clause-settled c =
    given_tests (sense_of c.args.scope.now) c.settle_expr.result c.args.test.now c.in-Some.e c.get.result.now c.in-Some.is c.get.ensures c.settle_expr.ensures
