-- How an instruction is kept: a set of one byte as the byte, another set by its number among the sets.
use Rattle.std.specs.Prelude.{◌≡◌, ℕ, zero, suc, ◌/◌, ◌%◌, ◌^◌, ◌<◌, List, [], ◌∷◌, ◌++◌, length, slice_index_or}
use Rattle.rawk_ere_tree.specs.declared.code.Instruction.{Instruction}
use Rattle.rawk_ere_tree.specs.declared.code.Instruction.TheVariants.{Bytes, Start, End, Split, Go, Back, Fork}
use Rattle.rawk_ere_tree.specs.declared.code.Kept.{Kept}
use Rattle.rawk_ere_tree.specs.declared.code.Kept.TheVariants as kept

-- the set with this word alone
abbrev pub set_of_word : ℕ → ℕ → List ℕ
set_of_word zero word = word ∷ 0 ∷ 0 ∷ 0 ∷ []
set_of_word (suc zero) word = 0 ∷ word ∷ 0 ∷ 0 ∷ []
set_of_word (suc (suc zero)) word = 0 ∷ 0 ∷ word ∷ 0 ∷ []
set_of_word (suc (suc (suc _))) word = 0 ∷ 0 ∷ 0 ∷ word ∷ []

-- the set of one byte
abbrev pub set_of_byte : ℕ → List ℕ
set_of_byte b = set_of_word (b / 64) (2 ^ (b % 64))

-- the instruction that is kept
abbrev pub shown : List (List ℕ) → Kept → Instruction
shown sets (kept.Byte b) = Bytes (set_of_byte b)
shown sets (kept.OneOf n) = Bytes (slice_index_or sets n [])
shown sets kept.Start = Start
shown sets kept.End = End
shown sets (kept.Split d) = Split d
shown sets (kept.Go d) = Go d
shown sets (kept.Back d) = Back d
shown sets (kept.Fork d) = Fork d

-- the number of the set is one of the sets'
abbrev pub IsKeptIn : List (List ℕ) → Kept → Type 0
IsKeptIn sets (kept.Byte b) = Unit {0}
IsKeptIn sets (kept.OneOf n) = n < length sets
IsKeptIn sets kept.Start = Unit {0}
IsKeptIn sets kept.End = Unit {0}
IsKeptIn sets (kept.Split d) = Unit {0}
IsKeptIn sets (kept.Go d) = Unit {0}
IsKeptIn sets (kept.Back d) = Unit {0}
IsKeptIn sets (kept.Fork d) = Unit {0}

-- the new sets begin with the old ones
abbrev pub Extends : List (List ℕ) → List (List ℕ) → Type 0
Extends old new = (more : List (List ℕ)) × (new ≡ old ++ more)
