use Rattle.std.proofs.Common.{List, ap, ◌∙◌, subst, sym, Result}
use Rattle.std.specs.Prelude.{pos}
use Rattle.std.proofs.lemmas.List.{length-map}
use Rattle.std.specs.Prelude.{slice_range}
use Rattle.rawk_value.specs.declared.fault.Fault.{Fault}
use Rattle.rawk_value.specs.declared.value.Value.TheVariants.{Number}
use Rattle.rawk_value.specs.Values.{Bytes, text_of}
use Rattle.rawk_pieces.specs.Pieces.{texts}
use Rattle.rawk_pieces.specs.declared.pieces.Piece.{Piece}
use Rattle.rawk_pieces.specs.declared.pieces.Fields.{Fields}
use Rattle.rawk_operators.specs.Separations.{Separates}
use Rattle.rawk_arrays.specs.Laid.{arrays_of}
use Rattle.rawk_store.specs.State.{array_in, fill_elements}
use Rattle.rawk_operands.specs.Moving.{left_in, moving}
use Rattle.rawk_texts.proofs.Splits.{parts_in, split_faults, split_makes}
use Rattle.rawk_operate.specs.Done.{led_by}
use Rattle.rawk_texts.proofs.split.split.Goals as goal

pub returns-in-Err-clause-did : goal.returns-in-Err-clause-did
returns-in-Err-clause-did g c =
    let from = c.args.from.now in
    let m = moving c.args.store.now in
    split_faults c.args.how c.args.array from m c.in-Err.fault (led_by c.faulted.result) (subst (λ (r : Result Fields Fault). Separates (text_of (left_in from m)) (parts_in c.args.how from m) r) c.in-Err.is c.in_ok-made.ensures) c.faulted.ensures

pub returns-in_ok-put-in-Ok-clause-did : goal.returns-in_ok-put-in-Ok-clause-did
returns-in_ok-put-in-Ok-clause-did g c =
    let from = c.args.from.now in
    let m = moving c.args.store.now in
    let text = text_of (left_in from m) in
    let pieces = c.in-Ok.fields.pieces.items in
    let array = array_in c.args.array m.frames in
    let made = subst (λ (r : Result Fields Fault). Separates text (parts_in c.args.how from m) r) c.in-Ok.is c.in_ok-made.ensures in
    split_makes c.args.how c.args.array from m (moving c.drop_taken.new.store) (moving c.put.new.store) (texts text pieces) c.in_ok-count-in-Ok.count (arrays_of c.fill_elements.new.arrays.now) made.0
    (c.in_ok-count-in-Ok.ensures ∙ ap (λ k. Number (pos k)) (c.len.ensures ∙ c.in-Ok.fields.pieces.ok.0 ∙ sym (length-map pieces (λ (p : Piece). slice_range text p.start p.end))))
    (c.in_ok-fill_elements-in-Ok.ensures.did
    ∙ ap (λ (t : Bytes). fill_elements array (texts t c.deref.result.now) m.arrays) (c.text_borrowed-text.ensures ∙ ap text_of c.below_borrowed.ensures)
    ∙ ap (λ (ps : List Piece). fill_elements array (texts text ps) m.arrays) c.deref.ensures.value)
    c.drop_taken.ensures.did c.in_ok-put-in-Ok.ensures.did
