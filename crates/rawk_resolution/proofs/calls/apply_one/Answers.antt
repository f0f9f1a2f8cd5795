use Rattle.rawk_resolution.proofs.Applications.{one_applies}
use Rattle.rawk_resolution.proofs.calls.apply_one.Goals as goal

pub returns-in-Some-clause-applies : goal.returns-in-Some-clause-applies
returns-in-Some-clause-applies c =
    one_applies c.args.function c.in-Some.unary c.args.argument c.in_ok-operand.operand c.in-Some.ensures c.in_ok-operand.ensures.ok
