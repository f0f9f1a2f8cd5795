-- The matches that a replacement of all matches takes (POSIX awk, `gsub`).
use Rattle.std.specs.Prelude.{◌≡◌, ℕ, ◌+◌, ◌<◌, ◌≤◌, ◌⊎◌, true, List, [], ◌∷◌, length, Option, Some, None}
use Rattle.rawk_ere_tree.specs.Tree.{Tree}
use Rattle.rawk_ere_tree.specs.Ends.{Ends}

module _ (s : List ℕ) (e : Tree) where
  -- a match that is taken may begin at i: a nonempty one, or an empty one that does not stand directly after a nonempty one, which ended at `after`
  abbrev pub MayCut : Option ℕ → ℕ → Type 0
  MayCut after i = (j : ℕ) × Ends true s e i j × ((i < j) ⊎ ((i ≡ j) × (after ≡ Some i → ⊥)))

  -- the first such match from p on, and the longest there
  abbrev pub IsCut : ℕ → Option ℕ → Option (ℕ × ℕ) → Type 0
  IsCut p after None = (i : ℕ) → p ≤ i → i ≤ length s → MayCut after i → ⊥
  IsCut p after (Some m) =
      (p ≤ m.0) × (m.0 ≤ length s) × MayCut after m.0 × ((i : ℕ) → p ≤ i → i < m.0 → MayCut after i → ⊥)
      × Ends true s e m.0 m.1 × ((k : ℕ) → Ends true s e m.0 k → k ≤ m.1)

  -- all of them from p on: after a nonempty one it goes on at its end, after an empty one a place further
  pub data Cuts : ℕ → Option ℕ → List (ℕ × ℕ) → Type 0 where
    no_more : {p : ℕ} {after : Option ℕ} → IsCut p after None → Cuts p after []
    nonempty : {p i j : ℕ} {after : Option ℕ} {ms : List (ℕ × ℕ)} → IsCut p after (Some (i, j)) → i < j → Cuts j (Some j) ms → Cuts p after ((i, j) ∷ ms)
    empty : {p i : ℕ} {after : Option ℕ} {ms : List (ℕ × ℕ)} → IsCut p after (Some (i, i)) → Cuts (i + 1) None ms → Cuts p after ((i, i) ∷ ms)

-- the matches of a whole text
abbrev pub AreCuts : List ℕ → Tree → List (ℕ × ℕ) → Type 0
AreCuts s e ms = Cuts s e 0 None ms
