use Rattle.rawk_resolution.proofs.Applications.{bare_applies}
use Rattle.rawk_resolution.proofs.calls.apply_bare.Goals as goal

pub returns-clause-applies : goal.returns-clause-applies
returns-clause-applies c =
    bare_applies c.args.function c.in-Some.unary c.in_ok-record.record c.in_ok-number.number c.in-Some.ensures c.in_ok-record.ensures.ok c.in_ok-number.ensures.ok
