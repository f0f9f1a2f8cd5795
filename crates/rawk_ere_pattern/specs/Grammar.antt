-- The grammar of extended regular expressions over tokens (POSIX XBD 9.5.3).
use Rattle.std.specs.Prelude.{ℕ, List, ◌∷◌}
use Rattle.rawk_ere_tree.specs.declared.node.Count.{Count}
use Rattle.rawk_ere_pattern.specs.declared.token.Token.{Token}
use Rattle.rawk_ere_pattern.specs.declared.token.Token.TheVariants as token
use Rattle.rawk_ere_tree.specs.Tree.{Tree, Empty, OneOf, Start, End, Join, Either, Group, Repeat}

-- the constructs of the grammar
pub data Construct : Type 0 where
  -- branches with bars between them
  Alternatives : Construct
  -- pieces, or nothing
  Branch : Construct
  -- one piece or more
  Sequence : Construct
  -- an anchor, or what may be repeated
  Piece : Construct
  -- a set of bytes or a group, with its repetitions
  Atom : Construct

-- the tokens are those of the construct, which has this tree, and then the rest
pub data Derives : Construct → List Token → Tree → List Token → Type 0 where
  one_branch : {ts rest : List Token} {a : Tree} → Derives Branch ts a rest → Derives Alternatives ts a rest
  more_branches : {ts mid rest : List Token} {a b : Tree} → Derives Alternatives ts a (token.Bar ∷ mid) → Derives Branch mid b rest → Derives Alternatives ts (Either a b) rest
  no_piece : {ts : List Token} → Derives Branch ts Empty ts
  some_pieces : {ts rest : List Token} {a : Tree} → Derives Sequence ts a rest → Derives Branch ts a rest
  one_piece : {ts rest : List Token} {a : Tree} → Derives Piece ts a rest → Derives Sequence ts a rest
  more_pieces : {ts mid rest : List Token} {a b : Tree} → Derives Sequence ts a mid → Derives Piece mid b rest → Derives Sequence ts (Join a b) rest
  start : {ts : List Token} → Derives Piece (token.Start ∷ ts) Start ts
  end : {ts : List Token} → Derives Piece (token.End ∷ ts) End ts
  repeatable : {ts rest : List Token} {a : Tree} → Derives Atom ts a rest → Derives Piece ts a rest
  set : {ts : List Token} {w : List ℕ} → Derives Atom (token.OneOf w ∷ ts) (OneOf w) ts
  group : {ts rest : List Token} {a : Tree} → Derives Alternatives ts a (token.Close ∷ rest) → Derives Atom (token.Open ∷ ts) (Group a) rest
  repeated : {ts rest : List Token} {a : Tree} {c : Count} → Derives Atom ts a (token.Times c ∷ rest) → Derives Atom ts (Repeat a c) rest
