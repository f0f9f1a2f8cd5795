-- The separators that come next.
use Rattle.std.specs.Prelude.{◌≡◌, ℕ, ◌+◌, ◌-◌, ◌≤◌, Bool, true, List, length, ◌++◌}
use Rattle.rawk_value.specs.Values.{Bytes}
use Rattle.rawk_ere_tree.specs.Tree.{Tree}
use Rattle.rawk_search.specs.Matches.{first_nonempty}
use Rattle.rawk_pieces.specs.Fields.{newline_from, next_separator, between}
use Rattle.rawk_pieces.specs.Pieces.{texts, AllInRange}
use Rattle.rawk_pieces.specs.declared.pieces.Piece.{Piece}
use Rattle.rawk_pieces.specs.declared.matches.Ahead.{Ahead}

-- the match and the newline are the next ones from the place on
pub record IsAhead (e : Tree) (newline : Bool) (s : Bytes) (a : Ahead) : Type 0 where
  pub inside : a.from ≤ length s
  pub found : a.found ≡ first_nonempty true s e a.from
  pub line : a.line ≡ newline_from newline s a.from

-- what stands before a place is cut
pub record IsParted (e : Tree) (newline : Bool) (s : Bytes) (pieces : List Piece) (from : ℕ) : Type 0 where
  pub so_far : texts s pieces ++ between (next_separator e newline s) s (length s + 1 - length pieces) from ≡ between (next_separator e newline s) s (length s + 1) 0
  pub few : length pieces ≤ from
  pub in_range : AllInRange s pieces
