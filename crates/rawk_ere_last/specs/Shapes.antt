-- What all matches of an expression have in common: how many bytes they have, and that they end at the end of the text alone.
use Rattle.std.specs.Prelude.{◌≡◌, ℕ, ◌+◌, Bool, true, false, ◌&&◌, if◌then◌else◌, nat_eq, nat_le, List, length, Option, Some, None}
use Rattle.rawk_ere_last.specs.declared.shape.Shape.{Shape}
use Rattle.rawk_ere_tree.specs.Tree.{Tree, Empty, OneOf, Start, End, Join, Either, Group, Repeat}
use Rattle.rawk_ere_tree.specs.declared.code.Instruction.{Instruction}
use Rattle.rawk_ere_walks.specs.Ways.{Way}

abbrev pub shape_with : ℕ → Bool → Shape
shape_with n last = record { width = n; is_last = last }

-- the shape of two parts, one after the other (POSIX XBD 9.4.8: what a concatenation matches); longer ones than 65,536 bytes have none
abbrev pub both_in : Option Shape → Option Shape → Option Shape
both_in None _ = None
both_in (Some a) None = None
both_in (Some a) (Some b) = if nat_le (a.width + b.width) 65536 then Some (shape_with (a.width + b.width) b.is_last) else None

-- the shape of one of two parts (POSIX XBD 9.4.7), of which both have the same number of bytes
abbrev pub one_in : Option Shape → Option Shape → Option Shape
one_in None _ = None
one_in (Some a) None = None
one_in (Some a) (Some b) = if nat_eq a.width b.width then Some (shape_with a.width (a.is_last && b.is_last)) else None

-- The shape of an expression: a set has one byte (POSIX XBD 9.4.3 to 9.4.5), an anchor none (9.4.9), and `$` ends at the end of the text. What is repeated has no shape.
abbrev pub shape_in : Tree → Option Shape
shape_in Empty = Some (shape_with 0 false)
shape_in (OneOf set) = Some (shape_with 1 false)
shape_in Start = Some (shape_with 0 false)
shape_in End = Some (shape_with 0 true)
shape_in (Join a b) = both_in (shape_in a) (shape_in b)
shape_in (Either a b) = one_in (shape_in a) (shape_in b)
shape_in (Group a) = shape_in a
shape_in (Repeat a count) = None

-- the number of bytes of a shape whose matches end at the end of the text
abbrev pub last_of : Option Shape → Option ℕ
last_of None = None
last_of (Some a) = if a.is_last then Some a.width else None

-- the number of bytes of each match, if they all have the same and end at the end of the text alone
abbrev pub last_in : Tree → Option ℕ
last_in e = last_of (shape_in e)

-- each way through the code ends at the end of the text and has `n` bytes
abbrev pub AreLast : List Instruction → List ℕ → ℕ → Type 0
AreLast code s n = (i j : ℕ) → Way code s true i j → (j ≡ length s) × (i + n ≡ j)
