use Rattle.rawk_commands.specs.Reading.{reading}
use Rattle.rawk_debug.specs.Sessions.{stand}
use Rattle.rawk_debug.proofs.Refused.{refused}
use Rattle.rawk_debug.proofs.transcript.carry_out.Goals as goal

pub returns-in-Err-clause-carries : goal.returns-in-Err-clause-carries
returns-in-Err-clause-carries g c input may = refused input (reading c.args.line.now) c.in-Err.reason (stand g.M.Stepper.position c.args.session.now) c.in-Err.ensures
