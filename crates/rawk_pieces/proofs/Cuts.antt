-- The runs and parts of the rest of a text.
use Rattle.std.proofs.Common.{◌≡◌, ◌≢◌, min, max, not, nat_lt, ◌||◌, ◌≤◌, ◌<◌, ◌+◌, ◌-◌, ℕ, Bool, true, false, cond, List, [], ◌∷◌, length, ◌++◌, take, drop, get_or, slice_range, arith, subst, sym, ◌∙◌, ap, refl, inl, inr}
use Rattle.std.specs.List.{slice_split, filter, All}
use Rattle.std.proofs.lemmas.List.{length-drop, length-take-le, get_or-drop, get_or-take, drop_more, drop_all, take-append-drop, drop-drop, get_or_default, append-nil, append_assoc, map_push, map-append, take_more}
use Rattle.std.proofs.lemmas.Bool.{cases_lt, cases_Bool, ne_eqb, lt-ltb, le-ltb}
use Rattle.std.proofs.lemmas.List.Splits.{slice_split_none, slice_split_at}
use Rattle.std.specs.Int.{bit_at}
use Rattle.std.proofs.lemmas.Nat.Bits.{bit_at-zero}
use Rattle.rawk_pieces.specs.Laws.{AllInRange-push}
use Rattle.rawk_pieces.specs.Masks.{IsMaskFrom}
use Rattle.rawk_pieces.specs.Pieces.{texts, AllInRange, IsCut, runs_by, run_piece, has_bytes, singles}
use Rattle.rawk_pieces.specs.declared.pieces.Piece.{Piece}

-- a text is a front part and the rest
pub cut_in_two : (text : List ℕ) (start end : ℕ) → start ≤ end → end ≤ length text → drop start text ≡ slice_range text start end ++ drop end text
cut_in_two text start end low high =
    let e : start + (end - start) ≡ end = omega arith in
    sym (take-append-drop (end - start) (drop start text)) ∙ ap (λ (x : List ℕ). take (end - start) (drop start text) ++ x) (drop-drop (end - start) start text ∙ ap (λ k. drop k text) e)

-- the bytes of a part
pub All-part : (p : ℕ → Bool) (b : Bool) (text : List ℕ) (start end : ℕ) → start ≤ end → end ≤ length text → ((k : ℕ) → start ≤ k → k < end → p (get_or text k 0) ≡ b) → All (λ x. p x ≡ b) (slice_range text start end)
All-part p b text start end low high all k d l =
    let m : end - start ≤ length (drop start text) = omega (arith, length-drop start text) in
    let k_low : k < end - start = omega (arith, length-take-le (end - start) (drop start text) m) in
    let in_text : start + k < length text = omega arith in
    rw (get_or-take, get_or-drop) (rw (get_or_default text (start + k) d 0 in_text) (all (start + k) (omega arith) (omega arith)))

-- the part up to the first separator
pub slice_split-part : (p : ℕ → Bool) (text : List ℕ) (start end : ℕ) → start ≤ end → end < length text → ((k : ℕ) → start ≤ k → k < end → p (get_or text k 0) ≡ false) → p (get_or text end 0) ≡ true → slice_split p (drop start text) ≡ slice_range text start end ∷ slice_split p (drop (end + 1) text)
slice_split-part p text start end low high none here =
    ap (slice_split p) (cut_in_two text start end low (omega arith) ∙ ap (λ (x : List ℕ). slice_range text start end ++ x) (drop_more text end 0 high))
    ∙ slice_split_at p _ _ _ (All-part p false text start end low (omega arith) none) here

-- the last part
pub slice_split-last : (p : ℕ → Bool) (text : List ℕ) (start end : ℕ) → start ≤ end → end ≡ length text → ((k : ℕ) → start ≤ k → k < end → p (get_or text k 0) ≡ false) → slice_split p (drop start text) ≡ slice_range text start end ∷ []
slice_split-last p text start end low e none =
    let nil : drop end text ≡ [] = drop_all end text (omega arith) in
    let whole : drop start text ≡ slice_range text start end = cut_in_two text start end low (omega arith) ∙ (ap (λ (x : List ℕ). slice_range text start end ++ x) nil ∙ append-nil _) in
    ap (slice_split p) whole ∙ slice_split_none p _ (All-part p false text start end low (omega arith) none)

-- a part that is not empty has bytes
pub has_bytes-part : (text : List ℕ) (start end : ℕ) → start < end → end ≤ length text → has_bytes (slice_range text start end) ≡ true
has_bytes-part text start end low high =
    let some : length (slice_range text start end) ≢ 0 = omega (arith, length-take-le (end - start) (drop start text), length-drop start text) in
    ap not (ne_eqb (length (slice_range text start end)) 0 some)

-- one byte more
pub singles-step : (text : List ℕ) (old new : List Piece) (start : ℕ) → new ≡ old ++ record { start = start; end = start + 1 } ∷ [] → texts text old ≡ singles (take start text) → start < length text → texts text new ≡ singles (take (start + 1) text)
singles-step text old new start e so_far inside =
    let n : start + 1 - start ≡ 1 = omega arith in
    let one : slice_range text start (start + 1) ≡ get_or text start 0 ∷ [] = rw (n, drop_more text start 0 inside) refl in
    ap (texts text) e ∙ (map_push (λ (q : Piece). slice_range text q.start q.end) old _ ∙ (ap (λ (x : List (List ℕ)). x ++ slice_range text start (start + 1) ∷ []) so_far ∙ (ap (λ (x : List ℕ). singles (take start text) ++ x ∷ []) one ∙ (sym (map_push (λ x. x ∷ []) (take start text) (get_or text start 0)) ∙ ap singles (sym (take_more text start 0 inside))))))

-- a run is kept where it has bytes
kept_piece : (text : List ℕ) (start end : ℕ) (more : List (List ℕ)) → start ≤ end → end ≤ length text → filter has_bytes (slice_range text start end ∷ more) ≡ texts text (run_piece false start end) ++ filter has_bytes more
kept_piece text start end more low high =
    elim (cases_lt start end) [
      | inl lt ↦
          let some : has_bytes (slice_range text start end) ≡ true = has_bytes-part text start end lt high in
          let test : nat_lt start end ≡ true = lt-ltb start end lt in
          ap (λ b. cond b (slice_range text start end ∷ filter has_bytes more) (filter has_bytes more)) some
          ∙ sym (ap (λ b. texts text (cond b (record { start = start; end = end } ∷ []) []) ++ filter has_bytes more) test)
      | inr ge ↦
          let none : end - start ≡ 0 = omega arith in
          let test : nat_lt start end ≡ false = le-ltb start end ge in
          ap (λ n. filter has_bytes (take n (drop start text) ∷ more)) none
          ∙ sym (ap (λ b. texts text (cond b (record { start = start; end = end } ∷ []) []) ++ filter has_bytes more) test)
    ]

-- a run that ends at a separator
pub run-step : (b : Bool) (p : ℕ → Bool) (text : List ℕ) (start end : ℕ) → start ≤ end → end < length text → ((k : ℕ) → start ≤ k → k < end → p (get_or text k 0) ≡ false) → p (get_or text end 0) ≡ true →
    runs_by b p (drop start text) ≡ texts text (run_piece b start end) ++ runs_by b p (drop (end + 1) text)
run-step true p text start end low high none here = slice_split-part p text start end low high none here
run-step false p text start end low high none here = ap (filter has_bytes) (slice_split-part p text start end low high none here) ∙ kept_piece text start end (slice_split p (drop (end + 1) text)) low (omega arith)

-- the last run
run-last : (b : Bool) (p : ℕ → Bool) (text : List ℕ) (start : ℕ) → start ≤ length text → ((k : ℕ) → start ≤ k → k < length text → p (get_or text k 0) ≡ false) →
    runs_by b p (drop start text) ≡ texts text (run_piece b start (length text))
run-last true p text start low none = slice_split-last p text start (length text) low refl none
run-last false p text start low none =
    ap (filter has_bytes) (slice_split-last p text start (length text) low refl none) ∙ (kept_piece text start (length text) [] low (omega arith) ∙ append-nil _)

texts-run : (text : List ℕ) (old new run : List Piece) → new ≡ old ++ run → texts text new ≡ texts text old ++ texts text run
texts-run text old new run e = ap (texts text) e ∙ map-append (λ (q : Piece). slice_range text q.start q.end) old run

in_range-run : (b : Bool) (text : List ℕ) (old new : List Piece) (start end : ℕ) → new ≡ old ++ run_piece b start end → AllInRange text old → start ≤ end → end ≤ length text → AllInRange text new
in_range-run b text old new start end e all low high =
    elim (cases_Bool (b || nat_lt start end)) [
      | inl t ↦ AllInRange-push text old new start end (e ∙ ap (λ c. old ++ cond c (record { start = start; end = end } ∷ []) []) t) all low high
      | inr f ↦ subst (AllInRange text) (sym (e ∙ (ap (λ c. old ++ cond c (record { start = start; end = end } ∷ []) []) f ∙ append-nil old))) all
    ]

-- more bytes that are no separators
pub IsCut-skip : (p : ℕ → Bool) (b : Bool) (text : List ℕ) (pieces : List Piece) (start n m : ℕ) → IsCut p b text pieces start n → n ≤ m → m ≤ length text → ((k : ℕ) → n ≤ k → k < m → p (get_or text k 0) ≡ false) → IsCut p b text pieces start m
IsCut-skip p b text pieces start n m c low high more = record {
  so_far = c.so_far;
  low = omega (arith, c.low);
  high = high;
  none = λ k l h. elim (cases_lt k n) [ inl lt ↦ c.none k l lt | inr ge ↦ more k ge h ];
  in_range = c.in_range;
}

-- a separator
pub IsCut-end : (p : ℕ → Bool) (b : Bool) (text : List ℕ) (old new : List Piece) (start end : ℕ) → IsCut p b text old start end → end < length text → p (get_or text end 0) ≡ true → new ≡ old ++ run_piece b start end → IsCut p b text new (end + 1) (end + 1)
IsCut-end p b text old new start end c inside here e = record {
  so_far =
      ap (λ (x : List (List ℕ)). x ++ runs_by b p (drop (end + 1) text)) (texts-run text old new (run_piece b start end) e)
      ∙ (append_assoc (texts text old) (texts text (run_piece b start end)) (runs_by b p (drop (end + 1) text))
      ∙ (ap (λ (x : List (List ℕ)). texts text old ++ x) (sym (run-step b p text start end c.low inside c.none here)) ∙ c.so_far));
  low = omega arith;
  high = omega arith;
  none = λ k l h. absurd (omega arith);
  in_range = in_range-run b text old new start end e c.in_range c.low (omega arith);
}

-- the end of the text
pub IsCut-last : (p : ℕ → Bool) (b : Bool) (text : List ℕ) (old new : List Piece) (start : ℕ) → IsCut p b text old start (length text) → new ≡ old ++ run_piece b start (length text) → (texts text new ≡ runs_by b p text) × AllInRange text new
IsCut-last p b text old new start c e = (
  texts-run text old new (run_piece b start (length text)) e ∙ (ap (λ (x : List (List ℕ)). texts text old ++ x) (sym (run-last b p text start c.low c.none)) ∙ c.so_far),
  in_range-run b text old new start (length text) e c.in_range c.low (omega arith),
)

-- the block's separators are all found
pub IsCut-block : (p : ℕ → Bool) (b : Bool) (text : List ℕ) (pieces : List Piece) (start at rest : ℕ) → IsCut p b text pieces start (max start at) → IsMaskFrom p text at (max start at) rest → rest ≡ 0 → at < length text → start ≤ at + 32 →
    IsCut p b text pieces start (min (at + 32) (length text))
IsCut-block p b text pieces start at rest c m zero_rest inside low =
    IsCut-skip p b text pieces start (max start at) (min (at + 32) (length text)) c (omega (arith, c.high)) (omega arith) more
  where
    more : (k : ℕ) → max start at ≤ k → k < min (at + 32) (length text) → p (get_or text k 0) ≡ false
    more k l h =
        let j : at + (k - at) ≡ k = omega arith in
        elim (cases_Bool (p (get_or text k 0))) [
          | inl t ↦
              let set = m.all (k - at) (omega arith) (omega arith) (omega arith) (ap (λ n. p (get_or text n 0)) j ∙ t) in
              absurd (omega (arith, set, bit_at-zero (k - at), ap (λ n. bit_at n (k - at)) zero_rest))
          | inr f ↦ f
        ]

-- no separator stands before the lowest bit
pub IsCut-to_bit : (p : ℕ → Bool) (b : Bool) (text : List ℕ) (pieces : List Piece) (start at from rest bit : ℕ) → IsCut p b text pieces start from → at ≤ from → IsMaskFrom p text at from rest → bit_at rest bit ≡ 1 → ((k : ℕ) → k < bit → bit_at rest k ≡ 0) →
    IsCut p b text pieces start (at + bit)
IsCut-to_bit p b text pieces start at from rest bit c low m here below =
    let r = m.marks bit here in
    IsCut-skip p b text pieces start from (at + bit) c r.2 (omega (arith, r.1)) (λ k l h. more k l h)
  where
    more : (k : ℕ) → from ≤ k → k < at + bit → p (get_or text k 0) ≡ false
    more k l h =
        let j : at + (k - at) ≡ k = omega arith in
        let r = m.marks bit here in
        elim (cases_Bool (p (get_or text k 0))) [
          | inl t ↦
              let set = m.all (k - at) (omega (arith, r.0)) (omega (arith, r.1)) (omega arith) (ap (λ n. p (get_or text n 0)) j ∙ t) in
              absurd (omega (arith, set, below (k - at) (omega arith)))
          | inr f ↦ f
        ]
