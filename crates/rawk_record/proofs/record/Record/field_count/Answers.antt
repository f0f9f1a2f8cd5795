use Rattle.std.proofs.Common.{◌≡◌, ◌∙◌, arith, ap, sym, length}
use Rattle.rawk_record.specs.Drafts.{values_of}
use Rattle.rawk_record.specs.Helds.{shown_in}
use Rattle.rawk_record.specs.Shown.{Shown}
use Rattle.rawk_record.specs.declared.held.Held.{Held}
use Rattle.rawk_record.proofs.Values.{length-values}
use Rattle.rawk_record.proofs.record.Record.field_count.Goals as goal

pub returns-in-Wide-clause-value : goal.returns-in-Wide-clause-value
returns-in-Wide-clause-value c =
    let p = c.in-Wide.parts in
    let fields : length (values_of p) ≡ length c.args.self.now.fields = ap (λ (h : Held). length (shown_in h).fields) (sym c.in-Wide.is) ∙ ap (λ (x : Shown). length x.fields) c.self.view_is in
    omega (arith, p.pieces.ok.0, length-values p.text.items p.pieces.items p.kept.items, fields)
