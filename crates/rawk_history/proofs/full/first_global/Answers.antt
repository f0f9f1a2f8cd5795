use Rattle.rawk_history.proofs.Saved.{began_first}
use Rattle.rawk_history.proofs.full.first_global.Goals as goal

pub returns-in-Some : goal.returns-in-Some
returns-in-Some c = began_first c.args.marks.now c.in-Some.mark.now c.args.live c.in-Some.ensures.value
