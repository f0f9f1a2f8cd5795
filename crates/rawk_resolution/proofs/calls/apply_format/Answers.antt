use Rattle.rawk_resolution.proofs.Applications.{format_applies}
use Rattle.rawk_resolution.proofs.calls.apply_format.Goals as goal

pub returns-clause-applies : goal.returns-clause-applies
returns-clause-applies c =
    format_applies c.args.arguments.items c.in-Some.format c.in_ok-format.format c.in-Some.arguments c.in-Some.ensures c.in_ok-format.ensures.ok
