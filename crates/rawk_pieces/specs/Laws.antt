-- Laws of fields.
use Rattle.std.proofs.Common.{◌≡◌, ◌≤◌, ℕ, Bool, true, false, ◌&&◌, ◌||◌, ◌==◌, if◌then◌else◌, List, [], ◌∷◌, ◌++◌, length, Option, None, Some, Ok, Err, subst, sym}
use Rattle.std.proofs.lemmas.List.Elements.{All-push}
use Rattle.rawk_value.specs.Values.{Bytes}
use Rattle.rawk_value.specs.declared.fault.Fault.{Fault}
use Rattle.rawk_value.specs.declared.fault.Fault.TheVariants.{BadEre}
use Rattle.rawk_ere_tree.specs.Tree.{Tree}
use Rattle.rawk_search.specs.Expressions.{ere_of}
use Rattle.rawk_pieces.specs.Fields.{words, byte_parts, dynamic_parts, fields_of}
use Rattle.rawk_pieces.specs.Pieces.{IsInRange, AllInRange}
use Rattle.rawk_pieces.specs.declared.pieces.Piece.{Piece}

dynamic_fault : (e : Option Tree) (newline : Bool) (s : Bytes) (f : Fault) → dynamic_parts e newline s ≡ Err f → f ≡ BadEre
dynamic_fault None newline s f h = cc
dynamic_fault (Some e) newline s f h = absurd cc

byte_fault : (b : Bool) (x y : List Bytes) (f : Fault) → (if b then Ok x else Ok y) ≡ Err f → f ≡ BadEre
byte_fault true x y f h = absurd cc
byte_fault false x y f h = absurd cc

-- a field separator has no other fault than that it is no extended regular expression
pub fields_fault : (s fs : Bytes) (newline : Bool) (f : Fault) → fields_of s fs newline ≡ Err f → f ≡ BadEre
fields_fault s [] newline f h = absurd cc
fields_fault s (b ∷ []) newline f h = byte_fault (b == 32) (words s) (byte_parts (λ c. c == b || newline && c == 10) s) f h
fields_fault s (b ∷ c ∷ more) newline f h = dynamic_fault (ere_of (b ∷ c ∷ more)) newline s f h

-- one piece more lies within the text
pub AllInRange-push : (text : List ℕ) (old new : List Piece) (start end : ℕ) → new ≡ old ++ record { start = start; end = end } ∷ [] → AllInRange text old → start ≤ end → end ≤ length text → AllInRange text new
AllInRange-push text old new start end e all low high =
    subst (AllInRange text) (sym e) (All-push (IsInRange text) old (record { start = start; end = end }) all (low, high))
