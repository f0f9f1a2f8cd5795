-- Sets of states, and what is added to them.
use Rattle.std.specs.Prelude.{◌≡◌, ℕ, ◌<◌, Bool, true, false, List, ◌++◌, length, slice_index_or, count_by, Contains}

-- the marks are true at the members alone
pub record AreMarks (members : List ℕ) (marks : List Bool) : Type 0 where
  pub marked : (q : ℕ) → Contains members q → slice_index_or marks q false ≡ true
  pub listed : (q : ℕ) → slice_index_or marks q false ≡ true → Contains members q
  pub counted : length members ≡ count_by (λ b. b) marks

-- new is old, and after it those with P below room that were not there
pub record Adds (room : ℕ) (old new : List ℕ) (P : ℕ → Type 0) : Type 0 where
  pub more : List ℕ
  pub is : new ≡ old ++ more
  pub only : (r : ℕ) → Contains more r → P r
  pub has : (r : ℕ) → P r → r < room → Contains new r
