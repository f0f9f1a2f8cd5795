-- Words of a command line in which the value of an option may be attached to its letter (POSIX.1-2017, Utility Syntax Guidelines).
-- Bytes are written by their codes: 45 is `-`, 70 `F`, 102 `f`, 118 `v`.
use Rattle.std.specs.Prelude.{ℕ, ◌==◌, ◌&&◌, ◌||◌, Bool, if◌then◌else◌, nat_lt, List, [], ◌∷◌, ◌++◌, length, take, drop, slice_index, codes}
use Rattle.std.specs.Str.{bytes_eq}
use Rattle.rawk_options.specs.declared.words.Next.{Next}
use Rattle.rawk_options.specs.declared.words.Next.TheVariants.{Word, Value, Operand}

-- an option's letter with a value behind it
abbrev pub has_value : List ℕ → Bool
has_value word = nat_lt 2 (length word) && slice_index word 0 == 45 && (slice_index word 1 == 70 || slice_index word 1 == 118 || slice_index word 1 == 102)

-- an option whose value is the next word
abbrev pub takes_next_word : List ℕ → Bool
takes_next_word word =
    bytes_eq word (codes "-F") || bytes_eq word (codes "-v") || bytes_eq word (codes "-f")
    || bytes_eq word (codes "--debug") || bytes_eq word (codes "--steps") || bytes_eq word (codes "--history")

-- an attached value is a word of its own
abbrev pub parts : Next → List ℕ → List (List ℕ)
parts Word word = if has_value word then take 2 word ∷ drop 2 word ∷ [] else word ∷ []
parts Value word = word ∷ []
parts Operand word = word ∷ []

-- behind `--` all words are operands
abbrev pub behind : Next → List ℕ → Next
behind Word word = if bytes_eq word (codes "--") then Operand else (if takes_next_word word then Value else Word)
behind Value word = Word
behind Operand word = Operand

-- words with each value of an option as a word of its own
abbrev pub separated_from : Next → List (List ℕ) → List (List ℕ)
separated_from next [] = []
separated_from next (word ∷ rest) = parts next word ++ separated_from (behind next word) rest
