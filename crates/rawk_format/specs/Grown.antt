-- Buffers that grow at their end.
use Rattle.std.specs.Prelude.{◌≡◌, ℕ, Bool, not, ◌++◌}
use Rattle.rawk_value.specs.Values.{Bytes}
use Rattle.rawk_format.specs.Format.{is_percent}

-- the bytes of before stand at the beginning of those after
pub record Follows (before : Bytes) (after : Bytes) : Type 0 where
  pub more : Bytes
  pub grown : after ≡ before ++ more

-- a byte that stands for itself
abbrev pub is_plain : ℕ → Bool
is_plain b = not (is_percent b)
