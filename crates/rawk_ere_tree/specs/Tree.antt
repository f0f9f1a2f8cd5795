-- The tree of an extended regular expression (POSIX XBD 9.4).
use Rattle.std.specs.Prelude.{ℕ, ◌+◌, ◌*◌, ◌≤◌, max, List}
use Rattle.rawk_ere_tree.specs.declared.node.Count.{Count}
use Rattle.rawk_ere_tree.specs.declared.node.Count.TheVariants.{Star, Plus, Maybe, AtLeast, Between}

pub data Tree : Type 0 where
  -- nothing: the empty text
  Empty : Tree
  -- one byte of a set, which is given as four words of 64 bits
  OneOf : List ℕ → Tree
  -- `^`
  Start : Tree
  -- `$`
  End : Tree
  -- the first, and after it the second
  Join : Tree → Tree → Tree
  -- the first or the second
  Either : Tree → Tree → Tree
  -- the part in parentheses
  Group : Tree → Tree
  -- the part, as often as the count says
  Repeat : Tree → Count → Tree

-- the size that a repetition gives a part of this size
abbrev pub repeated_size : Count → ℕ → ℕ
repeated_size Star n = n + 1
repeated_size Plus n = n + 1
repeated_size Maybe n = n + 1
repeated_size (AtLeast m) n = 1 + (m + 1) * (n + 1)
repeated_size (Between m more) n = 1 + (m + more) * (n + 1)

-- How large an expression is: two that are joined or alternated have 1 more than their sum; an interval counts its part as often as it may stand.
abbrev pub size_of : Tree → ℕ
size_of Empty = 1
size_of (OneOf set) = 1
size_of Start = 1
size_of End = 1
size_of (Join a b) = size_of a + size_of b + 1
size_of (Either a b) = size_of a + size_of b + 1
size_of (Group a) = size_of a
size_of (Repeat a count) = repeated_size count (size_of a)

-- how many groups and repetitions stand one inside another
abbrev pub nesting_of : Tree → ℕ
nesting_of Empty = 0
nesting_of (OneOf set) = 0
nesting_of Start = 0
nesting_of End = 0
nesting_of (Join a b) = max (nesting_of a) (nesting_of b)
nesting_of (Either a b) = max (nesting_of a) (nesting_of b)
nesting_of (Group a) = nesting_of a + 1
nesting_of (Repeat a count) = nesting_of a + 1

-- the limits of what is read
abbrev pub IsWithinLimits : Tree → Type 0
IsWithinLimits e = (size_of e ≤ 65536) × (nesting_of e ≤ 200)
