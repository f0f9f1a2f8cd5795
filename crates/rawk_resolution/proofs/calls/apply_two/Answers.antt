use Rattle.rawk_resolution.proofs.Applications.{two_applies}
use Rattle.rawk_resolution.proofs.calls.apply_two.Goals as goal

pub returns-in_ok-links-in-Some-clause-applies : goal.returns-in_ok-links-in-Some-clause-applies
returns-in_ok-links-in-Some-clause-applies c =
    two_applies c.args.function c.in-Some.joiner c.args.first c.args.second c.in_ok-operand.operand c.in_ok-operand.right c.in_ok-links-in-Some.links
    c.in-Some.ensures c.in_ok-operand.ensures.first c.in_ok-operand.ensures.second c.in_ok-links-in-Some.ensures
