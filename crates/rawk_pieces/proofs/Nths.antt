-- One run of a text, where those before it are counted.
use Rattle.std.proofs.Common.{◌≡◌, ◌||◌, ◌≤◌, ◌<◌, ◌+◌, ℕ, Bool, true, false, nat_lt, if◌then◌else◌, cond, List, [], ◌∷◌, ◌++◌, length, drop, get_or, slice_range, slice_get, None, Some, arith, sym, ◌∙◌, ap, refl}
use Rattle.std.proofs.lemmas.List.{length-append, length-map, map-append}
use Rattle.std.proofs.lemmas.Option.{slice_get-get_or, slice_get_past}
use Rattle.std.proofs.Math.Seq.{get_or-append_seam}
use Rattle.rawk_pieces.specs.Nth.{IsCounted, IsNth, IsPassed}
use Rattle.rawk_pieces.specs.Pieces.{IsCut, runs_by, run_piece, texts}
use Rattle.rawk_pieces.specs.declared.pieces.Piece.{Piece}
use Rattle.rawk_pieces.proofs.Cuts.{IsCut-end, IsCut-last, run-step}

-- how many pieces a run gives
passes : (c : Bool) (r : Piece) (more left : ℕ) → (if c then more + 1 else more) ≡ left → length (cond c (r ∷ []) []) + more ≡ left
passes true r more left e = omega (arith, e)
passes false r more left e = omega (arith, e)

-- the element behind a list
at_seam : (xs ys : List (List ℕ)) (y : List ℕ) (n : ℕ) → length xs ≡ n → slice_get (xs ++ y ∷ ys) n ≡ Some y
at_seam xs ys y n e =
    ap (slice_get (xs ++ y ∷ ys)) (sym e)
    ∙ slice_get-get_or (xs ++ y ∷ ys) (length xs) y (omega (arith, length-append xs (y ∷ ys)))
    ∙ ap (λ (t : List ℕ). Some t) (get_or-append_seam xs y ys y)

piece_in : (c : Bool) (r : Piece) → c ≡ true → cond c (r ∷ []) [] ≡ r ∷ []
piece_in c r e = ap (λ b. cond b (r ∷ []) []) e

module _ (p : ℕ → Bool) (b : Bool) (text : List ℕ) (place : ℕ) where
  -- a run that is not the one that is sought
  pub counted_end : (start end left more : ℕ) → (c : IsCounted p b text place start end left) → end < length text → p (get_or text end 0) ≡ true → IsPassed (b || nat_lt start end) left (Some more) → IsCounted p b text place (end + 1) (end + 1) more
  counted_end start end left more c inside here passed =
      let r : Piece = record { start = start; end = end } in
      let new = c.pieces ++ run_piece b start end in
      record {
        pieces = new;
        cut = IsCut-end p b text c.pieces new start end c.cut inside here refl;
        count = omega (arith, length-append c.pieces (run_piece b start end), passes (b || nat_lt start end) r more left passed, c.count);
      }

  -- the run that is sought, which ends at a separator
  pub counted_found : (start end left : ℕ) → (c : IsCounted p b text place start end left) → end < length text → p (get_or text end 0) ≡ true → IsPassed (b || nat_lt start end) left None → IsNth p b text place (record { start = start; end = end })
  counted_found start end left c inside here found =
      let r : Piece = record { start = start; end = end } in
      let one : texts text (run_piece b start end) ≡ slice_range text start end ∷ [] = ap (texts text) (piece_in (b || nat_lt start end) r found.0) in
      let behind = runs_by b p (drop (end + 1) text) in
      let whole : runs_by b p text ≡ texts text c.pieces ++ slice_range text start end ∷ behind =
      sym c.cut.so_far ∙ ap (λ (l : List (List ℕ)). texts text c.pieces ++ l) (run-step b p text start end c.cut.low inside c.cut.none here ∙ ap (λ (l : List (List ℕ)). l ++ behind) one) in
      let many : length (texts text c.pieces) ≡ place = omega (arith, length-map c.pieces (λ (q : Piece). slice_range text q.start q.end), c.count, found.1) in
      (ap (λ (l : List (List ℕ)). slice_get l place) whole ∙ at_seam (texts text c.pieces) behind (slice_range text start end) place many, (c.cut.low, omega arith))

  -- the last run
  pub counted_last : (start left : ℕ) → (c : IsCounted p b text place start (length text) left) → IsPassed (b || nat_lt start (length text)) left None → IsNth p b text place (record { start = start; end = length text })
  counted_last start left c found =
      let r : Piece = record { start = start; end = length text } in
      let new = c.pieces ++ r ∷ [] in
      let run : new ≡ c.pieces ++ run_piece b start (length text) = ap (λ (l : List Piece). c.pieces ++ l) (sym (piece_in (b || nat_lt start (length text)) r found.0)) in
      let last = IsCut-last p b text c.pieces new start c.cut run in
      let many : length (texts text c.pieces) ≡ place = omega (arith, length-map c.pieces (λ (q : Piece). slice_range text q.start q.end), c.count, found.1) in
      (ap (λ (l : List (List ℕ)). slice_get l place) (sym last.0 ∙ texts_push c.pieces r) ∙ at_seam (texts text c.pieces) [] (slice_range text start (length text)) place many, (c.cut.low, omega arith))
    where
      texts_push : (old : List Piece) (r : Piece) → texts text (old ++ r ∷ []) ≡ texts text old ++ slice_range text r.start r.end ∷ []
      texts_push old r = map-append (λ (q : Piece). slice_range text q.start q.end) old (r ∷ [])

  -- there are at most `place`
  pub counted_none : (start left more : ℕ) → (c : IsCounted p b text place start (length text) left) → IsPassed (b || nat_lt start (length text)) left (Some more) → slice_get (runs_by b p text) place ≡ None
  counted_none start left more c passed =
      let r : Piece = record { start = start; end = length text } in
      let new = c.pieces ++ run_piece b start (length text) in
      let last = IsCut-last p b text c.pieces new start c.cut refl in
      let many : length (texts text new) ≤ place =
      omega (arith, length-map new (λ (q : Piece). slice_range text q.start q.end), length-append c.pieces (run_piece b start (length text)), passes (b || nat_lt start (length text)) r more left passed, c.count) in
      ap (λ (l : List (List ℕ)). slice_get l place) (sym last.0) ∙ slice_get_past (texts text new) place many

  -- bytes that are no separators
  pub counted_skip : (start n m left : ℕ) → (c : IsCounted p b text place start n left) → IsCut p b text c.pieces start m → IsCounted p b text place start m left
  counted_skip start n m left c cut = record { pieces = c.pieces; cut = cut; count = c.count }
