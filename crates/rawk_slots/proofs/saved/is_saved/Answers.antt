use Rattle.std.proofs.Common.{get_or}
use Rattle.rawk_slots.proofs.Backs.{saved_test, no_test}
use Rattle.rawk_slots.proofs.saved.is_saved.Goals as goal

pub returns-then-mark-saved : goal.returns-then-mark-saved
returns-then-mark-saved g c = saved_test c.args.saved.now (get_or c.args.marks.now c.args.place 0) c.args.place c.index-saved-mark.result c.if-mark-saved.true

pub returns-else-mark-saved : goal.returns-else-mark-saved
returns-else-mark-saved g c = no_test c.args.saved.now (get_or c.args.marks.now c.args.place 0) c.args.place c.if-mark-saved.false
