-- The instructions of a tree, and where they lead.
use Rattle.std.specs.Prelude.{◌≡◌, ℕ, zero, suc, ◌+◌, ◌-◌, ◌⊎◌, Bool, List, [], ◌∷◌, ◌++◌, length, Some, slice_get}
use Rattle.rawk_ere_tree.specs.declared.node.Count.{Count}
use Rattle.rawk_ere_tree.specs.declared.node.Count.TheVariants.{Star, Plus, Maybe, AtLeast, Between}
use Rattle.rawk_ere_tree.specs.Tree.{Tree}
use Rattle.rawk_ere_tree.specs.Tree as tree
use Rattle.rawk_ere_tree.specs.declared.code.Instruction.{Instruction}
use Rattle.rawk_ere_tree.specs.declared.code.Instruction.TheVariants.{Bytes, Start, End, Split, Go, Back, Fork}
use Rattle.rawk_ere_tree.specs.ByteSets.{IsIn}
use Rattle.rawk_ere_tree.specs.Ends.{IsLast}

abbrev pub star_code : List Instruction → List Instruction
star_code part = Split (length part + 2) ∷ (part ++ Back (length part + 1) ∷ [])

abbrev pub plus_code : List Instruction → List Instruction
plus_code part = part ++ Fork (length part) ∷ []

abbrev pub maybe_code : List Instruction → List Instruction
maybe_code part = Split (length part + 1) ∷ part

abbrev pub times_code : ℕ → List Instruction → List Instruction
times_code zero part = []
times_code (suc k) part = part ++ times_code k part

abbrev pub maybes_code : ℕ → List Instruction → List Instruction
maybes_code zero part = []
maybes_code (suc k) part = maybe_code part ++ maybes_code k part

abbrev pub count_code : Count → List Instruction → List Instruction
count_code Star part = star_code part
count_code Plus part = plus_code part
count_code Maybe part = maybe_code part
count_code (AtLeast zero) part = star_code part
count_code (AtLeast (suc m)) part = times_code m part ++ plus_code part
count_code (Between m more) part = times_code m part ++ maybes_code more part

abbrev pub either_code : List Instruction → List Instruction → List Instruction
either_code a b = Split (length a + 2) ∷ (a ++ Go (length b + 1) ∷ b)

-- the instructions of a tree
abbrev pub code_of : Tree → List Instruction
code_of tree.Empty = []
code_of (tree.OneOf set) = Bytes set ∷ []
code_of tree.Start = Start ∷ []
code_of tree.End = End ∷ []
code_of (tree.Join a b) = code_of a ++ code_of b
code_of (tree.Either a b) = either_code (code_of a) (code_of b)
code_of (tree.Group a) = code_of a
code_of (tree.Repeat a count) = count_code count (code_of a)

-- every byte, as a set
abbrev pub all_bytes : List ℕ
all_bytes = 18446744073709551615 ∷ 18446744073709551615 ∷ 18446744073709551615 ∷ 18446744073709551615 ∷ []

-- the code, after any bytes
abbrev pub wide_code : List Instruction → List Instruction
wide_code code = star_code (Bytes all_bytes ∷ []) ++ code

-- where `^` holds if First, and `$` if Last: the instruction at q leads to r without reading
abbrev pub Hops : Type 0 → Type 0 → ℕ → Instruction → ℕ → Type 0
Hops First Last q (Bytes set) r = ⊥
Hops First Last q Start r = First × (r ≡ q + 1)
Hops First Last q End r = Last × (r ≡ q + 1)
Hops First Last q (Split d) r = (r ≡ q + 1) ⊎ (r ≡ q + d)
Hops First Last q (Go d) r = r ≡ q + d
Hops First Last q (Back d) r = r ≡ q - d
Hops First Last q (Fork d) r = (r ≡ q + 1) ⊎ (r ≡ q - d)

-- the instruction takes the byte
abbrev pub Takes : Instruction → ℕ → Type 0
Takes (Bytes set) b = IsIn b set
Takes Start b = ⊥
Takes End b = ⊥
Takes (Split d) b = ⊥
Takes (Go d) b = ⊥
Takes (Back d) b = ⊥
Takes (Fork d) b = ⊥

module _ (code : List Instruction) (closed : Bool) (s : List ℕ) where
  -- one step from the state q at place i: to another state, or past a byte to the next state
  abbrev pub Step : ℕ → ℕ → ℕ → ℕ → Type 0
  Step q i r j =
      (instr : Instruction) × (slice_get code q ≡ Some instr)
      × ((Hops (i ≡ 0) (IsLast closed s i) q instr r × (i ≡ j)) ⊎ ((b : ℕ) × (slice_get s i ≡ Some b) × Takes instr b × (r ≡ q + 1) × (i + 1 ≡ j)))

  -- n steps
  abbrev pub Path : ℕ → ℕ → ℕ → ℕ → ℕ → Type 0
  Path zero q i f j = (q ≡ f) × (i ≡ j)
  Path (suc n) q i f j = (r : ℕ) × (k : ℕ) × Step q i r k × Path n r k f j
