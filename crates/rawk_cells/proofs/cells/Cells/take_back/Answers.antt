use Rattle.std.proofs.Common.{◌∙◌, ap, List}
use Rattle.rawk_value.specs.declared.value.Value.{Value}
use Rattle.rawk_slots.specs.Journaled.{Journaled}
use Rattle.rawk_cells.specs.Cells.{cut_at, added_at}
use Rattle.rawk_cells.proofs.Puts.{again}
use Rattle.rawk_cells.proofs.cells.Cells.take_back.Goals as goal

pub returns-clause-newer : goal.returns-clause-newer
returns-clause-newer c =
    let a = c.args.appended.now in
    ap (λ (j : Journaled (List Value)). added_at a.place a.more j.now) c.cut.ensures
    ∙ (ap (λ (j : Journaled (List Value)). added_at a.place a.more (cut_at a.place a.count j.now)) c.forget.ensures
    ∙ (ap (λ (j : Journaled (List Value)). added_at a.place a.more (cut_at a.place a.count j.now)) c.self.view_is ∙ again a c.args.self.now.now c.requires))
