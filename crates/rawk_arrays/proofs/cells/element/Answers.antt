use Rattle.std.proofs.Common.{◌∙◌, sym}
use Rattle.rawk_arrays.specs.PlaceLaws.{found_slot, absent_none}
use Rattle.rawk_arrays.proofs.cells.element.Goals as goal

pub returns-in-Some : goal.returns-in-Some
returns-in-Some c = c.filled.ensures ∙ sym (found_slot c.args.array c.args.key.now c.args.index.now c.args.cells.now.now c.in-Some.number c.requires c.in-Some.ensures)

pub returns-in-None : goal.returns-in-None
returns-in-None c = sym (absent_none c.args.array c.args.key.now c.args.index.now c.args.cells.now.now c.requires.array_key c.in-None.ensures)
