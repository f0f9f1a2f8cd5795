-- An input, what a source gives of it, and what reads and writes tell.
use Rattle.std.specs.Prelude.{◌≡◌, ℕ, ◌+◌, ◌^◌, ◌<◌, ◌==◌, Bool, true, false, [], ◌++◌, take, drop, Option, None, Some, Result, Ok, Err, if◌then◌else◌}
use Rattle.rawk_value.specs.Values.{Bytes}
use Rattle.rawk_devices.specs.declared.source.Ending.{Ending}
use Rattle.rawk_devices.specs.declared.source.Ending.TheVariants.{Ended, Failed}
use Rattle.rawk_devices.specs.declared.source.DeviceFault.{DeviceFault}

-- all bytes of an input, and whether a failed read ends it
pub record Input : Type 0 where
  pub bytes : Bytes
  pub fails : Bool

-- whether an input ended by a failed read
abbrev pub is_failed : Ending → Bool
is_failed Ended = false
is_failed Failed = true

-- these bytes, and then the rest of an input
abbrev pub before : Bytes → Input → Input
before bytes rest = record { bytes = bytes ++ rest.bytes; fails = rest.fails }

-- no bytes, and this end
abbrev pub nothing : Ending → Input
nothing ending = record { bytes = []; fails = is_failed ending }

-- how many bytes a read or a write took
abbrev pub size_taken : Result ℕ DeviceFault → ℕ
size_taken (Ok n) = n
size_taken (Err _) = 0

-- what a read reported of the end: a read of no bytes is the end
abbrev pub ending_of : Result ℕ DeviceFault → Option Ending
ending_of (Ok n) = if n == 0 then Some Ended else None
ending_of (Err _) = Some Failed

-- how many failures an answer tells
abbrev pub failures_of : {A : Type 0} → Result A DeviceFault → ℕ
failures_of (Ok _) = 0
failures_of (Err _) = 1

-- a count has risen by n, unless it would pass its greatest value
abbrev pub CountsUp : ℕ → ℕ → ℕ → Type 0
CountsUp old new n = old + n < 2 ^ 128 → new ≡ old + n

-- any input before the end is reported, and after it none
abbrev pub AllowedBy : Option Ending → Input → Type 0
AllowedBy over rest = (ending : Ending) → over ≡ Some ending → rest ≡ nothing ending

-- the bytes from a place on, and then this end
abbrev pub left_from : Bytes → ℕ → Ending → Input
left_from bytes place ending = record { bytes = drop place bytes; fails = is_failed ending }

-- bytes that end, or of which a beginning is given before a read fails
abbrev pub cut_off : Bytes → Option ℕ → Input
cut_off bytes None = record { bytes = bytes; fails = false }
cut_off bytes (Some size) = record { bytes = take size bytes; fails = true }
