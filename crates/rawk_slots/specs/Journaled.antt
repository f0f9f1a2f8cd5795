-- A part of the state, now and when the step began.
use Rattle.std.specs.Prelude.{◌≡◌, List, ◌++◌}

-- what a part is, and what it was when the step began
pub record Journaled (T : Type 0) : Type 0 where
  pub now : T
  pub start : T

-- no step is in progress
abbrev pub at_rest : {T : Type 0} → T → Journaled T
at_rest x = record { now = x; start = x }

-- a list with more at its end
pub record Longer {T : Type 0} (xs ys : List T) : Type 0 where
  pub more : List T
  pub is : ys ≡ xs ++ more
