-- The one tree that tokens can have, read from left to right.
use Rattle.std.specs.Prelude.{◌≡◌, ℕ, ◌+◌, ◌-◌, ◌<◌, max, Bool, true, false, if◌then◌else◌, nat_eq, Option, Some, None, List, [], ◌∷◌}
use Rattle.rawk_ere_pattern.specs.declared.error.EreError.{EreError}
use Rattle.rawk_ere_pattern.specs.declared.error.EreError.TheVariants as error
use Rattle.rawk_ere_tree.specs.declared.node.Count.{Count}
use Rattle.rawk_ere_pattern.specs.declared.token.Token.{Token}
use Rattle.rawk_ere_pattern.specs.declared.token.Token.TheVariants as token
use Rattle.rawk_ere_pattern.specs.declared.read.Frame.{Frame}
use Rattle.rawk_ere_tree.specs.Tree.{Tree, Empty, OneOf, Start, End, Join, Either, Group, Repeat, nesting_of}

-- b, and before it what there is
abbrev pub attached : (Tree → Tree → Tree) → Option Tree → Tree → Tree
attached f None b = b
attached f (Some a) b = f a b

-- the pieces, with the last one
abbrev pub pieces_with : Option Tree → Option Tree → Option Tree
pieces_with pieces None = pieces
pieces_with pieces (Some a) = Some (attached Join pieces a)

-- the branch of these pieces
abbrev pub branch_of : Option Tree → Tree
branch_of None = Empty
branch_of (Some a) = a

-- a group of which nothing is read
abbrev pub fresh : Frame
fresh = record { alternatives = None; pieces = None; current = None }

-- all that is read of the group
abbrev pub whole_of : Frame → Tree
whole_of f = attached Either f.alternatives (branch_of (pieces_with f.pieces f.current))

-- one more piece, which may be repeated
abbrev pub with_atom : Frame → Tree → Frame
with_atom f a = record { alternatives = f.alternatives; pieces = pieces_with f.pieces f.current; current = Some a }

-- one more piece, which may not
abbrev pub with_anchor : Frame → Tree → Frame
with_anchor f a = record { alternatives = f.alternatives; pieces = Some (attached Join (pieces_with f.pieces f.current) a); current = None }

-- the branch is over
abbrev pub with_bar : Frame → Frame
with_bar f = record { alternatives = Some (whole_of f); pieces = None; current = None }

-- the last piece is repeated, if there is one that may be
abbrev pub with_count : Frame → Option Tree → Count → Option Frame
with_count f None count = None
with_count f (Some a) count = Some (record { alternatives = f.alternatives; pieces = f.pieces; current = Some (Repeat a count) })

abbrev pub inside : List Frame → Option Frame → Option (List Frame × Frame)
inside outer None = None
inside outer (Some f) = Some (outer, f)

-- what a token makes of the groups that are open, the innermost first
abbrev pub step : List Frame → Frame → Token → Option (List Frame × Frame)
step outer f (token.OneOf set) = Some (outer, with_atom f (OneOf set))
step outer f token.Start = Some (outer, with_anchor f Start)
step outer f token.End = Some (outer, with_anchor f End)
step outer f token.Bar = Some (outer, with_bar f)
step outer f token.Open = Some (f ∷ outer, fresh)
step [] f token.Close = None
step (g ∷ outer) f token.Close = Some (outer, with_atom g (Group (whole_of f)))
step outer f (token.Times count) = inside outer (with_count f f.current count)

abbrev pub ended : List Frame → Frame → Option Tree
ended [] f = Some (whole_of f)
ended (g ∷ outer) f = None

-- the tree that all the tokens lead to
abbrev pub run : List Frame → Frame → List Token → Option Tree
run outer f [] = ended outer f
run outer f (t ∷ ts) = elim (step outer f t) [ None ↦ None | Some s ↦ run s.0 s.1 ts ]

-- whether the tokens are well formed, with `depth` groups open, where the last piece may be repeated or not
abbrev pub is_formed : List Token → ℕ → Bool → Bool
is_formed [] depth last = nat_eq depth 0
is_formed (token.OneOf set ∷ ts) depth last = is_formed ts depth true
is_formed (token.Start ∷ ts) depth last = is_formed ts depth false
is_formed (token.End ∷ ts) depth last = is_formed ts depth false
is_formed (token.Bar ∷ ts) depth last = is_formed ts depth false
is_formed (token.Open ∷ ts) depth last = is_formed ts (depth + 1) false
is_formed (token.Close ∷ ts) depth last = if nat_eq depth 0 then false else is_formed ts (depth - 1) true
is_formed (token.Times count ∷ ts) depth last = if last then is_formed ts depth true else false

-- how deep groups and repetitions stand one inside another
abbrev pub nesting_in : Option Tree → ℕ
nesting_in None = 0
nesting_in (Some a) = nesting_of a

abbrev pub depth_of : Frame → ℕ
depth_of f = max (nesting_in f.alternatives) (max (nesting_in f.pieces) (nesting_in f.current))

-- why a step was not made: there is none, or what it makes is nested too deep
abbrev pub IsStepRefused : EreError → Option (List Frame × Frame) → Type 0
IsStepRefused error.Memory o = Unit {0}
IsStepRefused error.Syntax o = o ≡ None
IsStepRefused error.TooLarge o = (s : List Frame × Frame) → o ≡ Some s → 200 < depth_of s.1

-- why a tree was not made: there is none, or it is nested too deep
abbrev pub IsTreeRefused : EreError → Option Tree → Type 0
IsTreeRefused error.Memory o = Unit {0}
IsTreeRefused error.Syntax o = o ≡ None
IsTreeRefused error.TooLarge o = (e : Tree) → o ≡ Some e → 200 < nesting_of e
