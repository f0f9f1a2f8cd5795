-- Short records.
use Rattle.std.proofs.Common.{◌≡◌, ◌≤◌, ◌<◌, ◌+◌, ℕ, List, [], ◌∷◌, ◌++◌, length, get_or, set, map, take, arith, sym, ◌∙◌, ap}
use Rattle.std.proofs.lemmas.List.{take_more_set, take_more, map_push, length-take-le, get_or-map, get_or-take, length-map}
use Rattle.rawk_record.specs.ShortPieces.{wide}
use Rattle.rawk_pieces.specs.declared.pieces.Piece.{Piece}
use Rattle.rawk_record.specs.declared.short.ShortPiece.{ShortPiece}

-- one more piece is written
pub put_more : (to : List ShortPiece) (pieces : List Piece) (i : ℕ) (p : Piece) (s : ShortPiece) → i < length to → i < length pieces → wide s ≡ get_or pieces i p → map wide (take i to) ≡ take i pieces → map wide (take (i + 1) (set to i s)) ≡ take (i + 1) pieces
put_more to pieces i p s room low is so_far =
    ap (map wide) (take_more_set to i s room)
    ∙ (map_push wide (take i to) s
    ∙ (ap (λ (x : List Piece). x ++ wide s ∷ []) so_far
    ∙ (ap (λ (x : Piece). take i pieces ++ x ∷ []) is ∙ sym (take_more pieces i p low))))

module _ (shorts : List ShortPiece) (count : ℕ) (within : count ≤ length shorts) where
  pub length-wide : length (map wide (take count shorts)) ≡ count
  length-wide = length-map (take count shorts) wide ∙ length-take-le count shorts within

  -- a piece by its place
  pub get_wide : (i : ℕ) (d : ShortPiece) (p : Piece) → i < count → get_or (map wide (take count shorts)) i p ≡ wide (get_or shorts i d)
  get_wide i d p low = get_or-map wide (take count shorts) i d p (omega (arith, length-take-le count shorts within)) ∙ ap wide (get_or-take count shorts i d low)
