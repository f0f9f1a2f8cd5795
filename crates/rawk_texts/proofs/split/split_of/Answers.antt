use Rattle.std.proofs.Common.{◌≡◌, List, ap, ◌∙◌, subst, sym, Result, Ok}
use Rattle.std.specs.Prelude.{pos, slice_range}
use Rattle.std.proofs.lemmas.List.{length-map}
use Rattle.rawk_value.specs.declared.fault.Fault.{Fault}
use Rattle.rawk_value.specs.declared.value.Value.TheVariants.{Number}
use Rattle.rawk_value.specs.Values.{Bytes, text_of}
use Rattle.rawk_pieces.specs.Pieces.{texts}
use Rattle.rawk_pieces.specs.declared.pieces.Piece.{Piece}
use Rattle.rawk_pieces.specs.declared.pieces.Fields.{Fields}
use Rattle.rawk_operators.specs.Borrowed.{borrowed_value}
use Rattle.rawk_operators.specs.Operators.{parts_between}
use Rattle.rawk_operators.specs.Separations.{Separates}
use Rattle.rawk_arrays.specs.Laid.{arrays_of}
use Rattle.rawk_store.specs.State.{array_in, fill_elements}
use Rattle.rawk_operands.specs.Moving.{moving, simple_in}
use Rattle.rawk_texts.proofs.Splits.{parts_at_once, split_of_makes}
use Rattle.rawk_texts.proofs.split.split_of.Goals as goal

pub returns-in_ok-put-in-Ok-clause-did : goal.returns-in_ok-put-in-Ok-clause-did
returns-in_ok-put-in-Ok-clause-did g c =
    let m = moving c.args.store.now in
    let how = c.args.how in
    let text = text_of (simple_in c.args.text.now m) in
    let bytes = c.text_borrowed-bytes.result.now in
    let between = text_of (borrowed_value c.simple_borrowed-between.result) in
    let pieces = c.in-Ok.fields.pieces.items in
    let array = array_in c.args.array m.frames in
    let same : bytes ≡ text = c.text_borrowed-bytes.ensures ∙ ap text_of c.simple_borrowed-from.ensures in
    let made = subst (λ (r : Result Fields Fault). Separates bytes (parts_between how bytes between) r) c.in-Ok.is c.in_ok-made.ensures.parts in
    let parts : parts_at_once how c.args.text.now c.args.by.now m ≡ Ok (texts bytes pieces) =
    sym (ap (λ (t : Bytes). parts_between how t between) same ∙ ap (λ (t : Bytes). parts_between how text t) (ap text_of c.simple_borrowed-between.ensures)) ∙ made.0 in
    split_of_makes how c.args.array c.args.text.now c.args.by.now m (moving c.put.new.store) (texts bytes pieces) c.in_ok-count-in-Ok.count (arrays_of c.fill_elements.new.arrays.now) parts
    (c.in_ok-count-in-Ok.ensures ∙ ap (λ k. Number (pos k)) (c.len.ensures ∙ c.in-Ok.fields.pieces.ok.0 ∙ sym (length-map pieces (λ (p : Piece). slice_range bytes p.start p.end))))
    (c.in_ok-fill_elements-in-Ok.ensures.did ∙ ap (λ (ps : List Piece). fill_elements array (texts bytes ps) m.arrays) c.deref.ensures.value)
    c.in_ok-put-in-Ok.ensures.did
