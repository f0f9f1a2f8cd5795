use Rattle.rawk.proofs.running.run.Goals as goal

pub returns-clause-reported : goal.returns-clause-reported
returns-clause-reported g c = (c.run_from-finished.result.source, c.run_from-finished.ensures.reported)
