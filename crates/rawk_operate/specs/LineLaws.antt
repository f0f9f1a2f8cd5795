-- A line that is written, from piece to piece.
use Rattle.std.proofs.Common.{◌≡◌, ℕ, ◌+◌, ◌<◌, suc, Bool, true, false, List, [], ◌∷◌, ◌++◌, length, map, reverse, take, refl, sym, ap, ◌∙◌, arith, append_assoc}
use Rattle.std.proofs.lemmas.List.{append-nil}
use Rattle.rawk_value.specs.declared.value.Value.{Value}
use Rattle.rawk_value.specs.Values.{Bytes, text_of}
use Rattle.rawk_store.specs.State.{joined}
use Rattle.rawk_operands.specs.Borrowed.{popped_value}
use Rattle.rawk_operands.specs.BorrowedLaws.{operand_then}
use Rattle.rawk_operate.specs.Line.{piece_of, pieces_behind}

-- a list of texts joined is the first one, and then the others behind it
pub joined-pieces : (separator : Bytes) (ts : List Bytes) → joined separator ts ≡ pieces_behind separator true ts
joined-pieces separator [] = refl
joined-pieces separator (t ∷ []) = sym (append-nil t)
joined-pieces separator (t ∷ u ∷ more) =
    append_assoc t separator (joined separator (u ∷ more)) ∙ ap (λ (x : Bytes). t ++ x) (ap (λ (x : Bytes). separator ++ x) (joined-pieces separator (u ∷ more)) ∙ sym (append_assoc separator u (pieces_behind separator false more)))

-- one piece more, the first of those left
pub piece_then : (separator : Bytes) (leads : Bool) (whole now next t : Bytes) (ts : List Bytes) → whole ≡ now ++ pieces_behind separator leads (t ∷ ts) → next ≡ now ++ piece_of separator leads t → whole ≡ next ++ pieces_behind separator false ts
piece_then separator leads whole now next t ts h e =
    h ∙ sym (append_assoc now (piece_of separator leads t) (pieces_behind separator false ts)) ∙ ap (λ (x : Bytes). x ++ pieces_behind separator false ts) (sym e)

abbrev pub texts_left : List Value → ℕ → List Bytes
texts_left vs n = map text_of (reverse (take n vs))

-- one operand printed
pub operand_printed : (separator : Bytes) (leads : Bool) (start now next t : Bytes) (vs : List Value) (m n : ℕ) (all more : List Bytes) → m ≡ n + 1 → n < length vs → t ≡ text_of (popped_value n vs) →
    start ++ pieces_behind separator true (all ++ more) ≡ now ++ pieces_behind separator leads (texts_left vs m ++ more) → next ≡ now ++ piece_of separator leads t →
    start ++ pieces_behind separator true (all ++ more) ≡ next ++ pieces_behind separator false (texts_left vs n ++ more)
operand_printed separator leads start now next t vs m n all more em h et inv e =
    let one : texts_left vs m ≡ t ∷ texts_left vs n =
    ap (texts_left vs) (let k : m ≡ suc n = omega arith in k) ∙ ap (λ (l : List Value). map text_of l) (operand_then vs n h) ∙ ap (λ (x : Bytes). x ∷ texts_left vs n) (sym et) in
    piece_then separator leads (start ++ pieces_behind separator true (all ++ more)) now next t (texts_left vs n ++ more) (inv ∙ ap (λ (l : List Bytes). now ++ pieces_behind separator leads (l ++ more)) one) e
