use Rattle.rawk_names.specs.Named.{known}
use Rattle.rawk_names.specs.Noted.{shown}
use Rattle.rawk_syntax.proofs.Readings.{unflawed, misnamed_exact}
use Rattle.rawk_syntax.proofs.names.resolved_names.Goals as goal

pub returns-in-Ok-clause-exact : goal.returns-in-Ok-clause-exact
returns-in-Ok-clause-exact c = unflawed (shown c.args.register) (known c.in-Ok.names) c.in-Ok.ensures.named c.requires

pub returns-in-Err-clause-exact : goal.returns-in-Err-clause-exact
returns-in-Err-clause-exact c = misnamed_exact (shown c.args.register) c.in-Err.refused c.parse_error_of.result c.requires c.in-Err.ensures.refused c.parse_error_of.ensures
