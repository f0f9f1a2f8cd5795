use Rattle.rawk_debug.proofs.Backward.{goes_back, runs}
use Rattle.rawk_debug.proofs.session.Session.execute.Goals as goal

pub returns-in-Move-clause-reads_nothing : goal.returns-in-Move-clause-reads_nothing
returns-in-Move-clause-reads_nothing g c = λ back. c.go.ensures.reads_nothing (goes_back c.args.command c.in-Move.way c.in-Move.goal c.in-Move.is back)

pub returns-in-Run-clause-reads_nothing : goal.returns-in-Run-clause-reads_nothing
returns-in-Run-clause-reads_nothing g c = λ back. absurd (runs c.args.command c.in-Run.is back)
