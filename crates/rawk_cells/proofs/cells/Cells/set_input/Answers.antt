use Rattle.std.proofs.Common.{List, ap}
use Rattle.rawk_value.specs.declared.value.Value.{Value}
use Rattle.rawk_slots.specs.Journaled.{Journaled}
use Rattle.rawk_cells.proofs.Puts.{unset_slot}
use Rattle.rawk_cells.proofs.cells.Cells.set_input.Goals as goal

pub returns-then-is_none-clause-err : goal.returns-then-is_none-clause-err
returns-then-is_none-clause-err g c =
    unset_slot c.set_input.result c.self.inside.slots.now c.args.self.now.now c.args.place c.lend.result.now c.set_input.new.self c.lend.ensures.value
    (ap (λ (j : Journaled (List Value)). j.now) c.self.view_is) c.set_input.ensures.err
