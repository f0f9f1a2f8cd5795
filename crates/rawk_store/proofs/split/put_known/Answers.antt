use Rattle.std.proofs.Common.{◌≡◌, ℕ, suc, ◌+◌, ◌<◌, ◌∙◌, true, false, Bool, List, arith, ap, sym, drop, drop-cons, get_or, length}
use Rattle.std.specs.Bool.{OnTrue}
use Rattle.std.specs.Prelude.{pos, slice_range}
use Rattle.rawk_value.specs.Values.{Bytes, text_of}
use Rattle.rawk_value.specs.declared.value.Value.TheVariants.{Number, Input}
use Rattle.rawk_pieces.specs.declared.pieces.Piece.{Piece}
use Rattle.rawk_pieces.specs.Pieces.{texts}
use Rattle.rawk_arrays.specs.Elements.{Elements, with_element}
use Rattle.rawk_store.specs.State.{numbered}
use Rattle.rawk_store.proofs.split.put_known.Goals as goal

then_same : {A : Type 0} (b : Bool) (x y z : A) → OnTrue b (x ≡ y) → OnTrue b (y ≡ z) → OnTrue b (x ≡ z)
then_same true x y z e f = e ∙ f
then_same false x y z e f = tt

-- where the next piece is put, the pieces behind it are left to put
next : (a place : ℕ) (text : Bytes) (pieces : List Piece) (d : Piece) (old new last : List Elements) → place < length pieces →
    new ≡ with_element a (text_of (Number (pos (place + 1)))) (Input (slice_range text (get_or pieces place d).start (get_or pieces place d).end)) old →
    numbered a (place + 1) (texts text (drop place pieces)) old ≡ last → numbered a (place + 1 + 1) (texts text (drop (place + 1) pieces)) new ≡ last
next a place text pieces d old new last lt put h =
    let made : List Elements = with_element a (text_of (Number (pos (place + 1)))) (Input (slice_range text (get_or pieces place d).start (get_or pieces place d).end)) old in
    let one : place + 1 ≡ suc place = omega arith in
    let two : place + 1 + 1 ≡ suc (place + 1) = omega arith in
    ap (numbered a (place + 1 + 1) (texts text (drop (place + 1) pieces))) put
    ∙ (ap (λ (n : ℕ). numbered a n (texts text (drop (place + 1) pieces)) made) two
    ∙ (ap (λ (n : ℕ). numbered a (suc (place + 1)) (texts text (drop n pieces)) made) one
    ∙ (sym (ap (λ (ps : List Piece). numbered a (place + 1) (texts text ps) old) (drop-cons pieces place d lt)) ∙ h)))

pub loop-place-preserved : goal.loop-place-preserved
loop-place-preserved g c =
    let within : c.loop-place.place < length c.args.pieces.now = omega (arith, c.loop-place-test.true, c.loop-place.auto.place-end) in
    let lt : c.loop-place.place < c.args.run.count = omega (arith, within, c.requires.few) in
    let put = c.in_ok-put_text_at.ensures.did c.args.array _ (c.loop-place.invariant.places c.loop-place.place lt) in
    record {
      rest = next c.args.array c.loop-place.place c.args.text.now c.args.pieces.now _ _ _ _ within put c.loop-place.invariant.rest;
      places = c.in_ok-put_text_at.ensures.places c.args.array c.args.run c.loop-place.invariant.places;
      start = then_same _ _ _ _ c.put_text_at.ensures.start c.loop-place.invariant.start;
    }
