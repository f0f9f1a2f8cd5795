-- What a run asked for of its input.
use Rattle.std.proofs.Common.{◌≡◌, ◌⊎◌, inl, inr, ◌≤◌, ℕ, List, [], length, refl}
use Rattle.rawk_value.specs.Values.{Bytes}
use Rattle.rawk_devices.specs.Inputs.{Input, CountsUp, before}
use Rattle.rawk_tree.specs.declared.tree.Program.{Program}
use Rattle.rawk_code.specs.Actions.{Given}
use Rattle.rawk_code.specs.Correct.{CodeOf, first}
use Rattle.rawk_code.specs.Listing.{Listing}
use Rattle.rawk_code.specs.Trace.{FirstValue}
use Rattle.rawk_travel.specs.Asking.{AskedFrom, asked_behind}
use Rattle.rawk_machine.specs.Standing.{Standing, given_of}

-- nothing was read, or the code's run asked for all that was read, behind at most `points` points
abbrev pub HasAsked : Listing → List FirstValue → Given → ℕ → Bytes → Type 0
HasAsked code settings given points read = (read ≡ []) ⊎ AskedFrom code given points (first code settings) read

-- the same of a machine's run
abbrev pub AskedBy : {S : Type 0} → Standing S → Input → ℕ → Bytes → Type 0
AskedBy machine input points read = HasAsked machine.code machine.settings (given_of machine input) points read

-- nothing was read, or the run of a code that does what the program does asked for all that was read, behind at most `points` points
abbrev pub IsAskedFor : Program → List FirstValue → Given → ℕ → Bytes → Type 0
IsAskedFor p settings given points read = (read ≡ []) ⊎ ((code : Listing) × CodeOf p code × AskedFrom code given points (first code settings) read)

-- behind more points at most
pub asked_wider : (code : Listing) (settings : List FirstValue) (given : Given) (m n : ℕ) (read : Bytes) → m ≤ n → HasAsked code settings given m read → HasAsked code settings given n read
asked_wider code settings given m n read low asked = elim asked [
  | inl none ↦ inl none
  | inr some ↦ inr (asked_behind code given m n (first code settings) (first code settings) read low (0, refl) some)
]

-- memory was refused before a machine stood: this was read of its source, and so it is left. The code's run asked for all of it, before its first point.
pub record Unstood {S : Type 0} (may_give : S → Input → Type 0) (handed : S → ℕ) (code : Listing) (settings : List FirstValue) (source : S) (steps : ℕ) (last : S) : Type 0 where
  pub read : Bytes
  pub given : (rest : Input) → may_give last rest → may_give source (before read rest)
  pub asked : (rest : Input) → may_give last rest → HasAsked code settings (record { input = before read rest; sets = []; steps = steps }) 0 read
  pub counted : CountsUp (handed source) (handed last) (length read)
