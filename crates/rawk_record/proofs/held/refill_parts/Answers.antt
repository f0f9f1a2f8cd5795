use Rattle.std.proofs.Common.{◌≡◌, ◌∙◌, ◌++◌, ap, List, ℕ}
use Rattle.rawk_pieces.specs.Pieces.{split_by}
use Rattle.rawk_record.proofs.Values.{values-cut}
use Rattle.rawk_record.proofs.held.refill_parts.Goals as goal

pub returns-in-Ok-clause-did : goal.returns-in-Ok-clause-did
returns-in-Ok-clause-did c =
    let text : c.extend_from_slice.new.self.items ≡ c.args.text.now = c.in_ok-extend_from_slice.ensures.items ∙ ap (λ (x : List ℕ). x ++ c.args.text.now) c.clear-3.ensures.items in
    let fields = values-cut c.extend_from_slice.new.self.items c.args.text.now c.deref.result.now c.cut.new.pieces.items c.clear.new.self.items (split_by c.args.separator c.args.newline) c.clear.ensures.items text c.deref.ensures.value c.in-Ok.ensures.fields in
    λ i. record { text = text i; fields = fields i }
