use Rattle.rawk_resolution.specs.Meant.{sense_of}
use Rattle.rawk_syntax.proofs.Layings.{bare_exit, status_exit}
use Rattle.rawk_syntax.proofs.statements.settle_exit.Goals as goal

pub returns-in-None : goal.returns-in-None
returns-in-None c = bare_exit (sense_of c.args.scope.now) c.args.site c.args.status.now c.in-None.is

pub returns-in_ok-status-in-Some : goal.returns-in_ok-status-in-Some
returns-in_ok-status-in-Some c = status_exit (sense_of c.args.scope.now) c.args.site c.args.status.now c.in-Some.e c.get.result.now c.in_ok-status-in-Some.status c.in-Some.is c.get.ensures c.in_ok-status-in-Some.ensures
