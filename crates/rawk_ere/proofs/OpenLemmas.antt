-- What is found in a text that may go on stays in every longer one.
use Rattle.std.proofs.Common.{ℕ, ◌<◌, ◌≤◌, inl, inr, Bool, Some, List, ◌++◌, length, arith}
use Rattle.std.proofs.lemmas.Bool.{cases_lt}
use Rattle.rawk_ere_tree.specs.Tree.{Tree}
use Rattle.rawk_ere_tree.specs.Ends.{Ends}
use Rattle.rawk_ere_tree.specs.Open.{IsOpenMatch, IsSettled, MayBegin}
use Rattle.rawk_ere_tree.specs.Longer.{ends_kept, ends_open}

-- an open match that no place before it could change is settled
pub settled : (s : List ℕ) (e : Tree) (p : ℕ) (m : ℕ × ℕ) → m.0 ≤ length s → IsOpenMatch s e p (Some m) → IsSettled s e p m
settled s e p m le h = λ more closed. (
  h.0.0,
  h.0.1,
  ends_kept s more closed e m.0 m.1 h.0.2,
  λ i j from lt x. elim (cases_lt i m.0) [
    | inl before ↦ elim (ends_open s more closed e i j (omega (arith, before)) x) [
      | inl y ↦ h.0.3 i j from lt y
      | inr n ↦ absurd (h.1 i from (omega (arith, before)) n)
    ]
    | inr ge ↦ ge
  ],
  λ k x. elim (ends_open s more closed e m.0 k le x) [ inl y ↦ h.0.4 k y | inr n ↦ absurd (h.1 m.0 h.0.0 (omega arith) n) ],
)

-- where no match may begin in the text none begins in a longer one
pub none_before : (s : List ℕ) (e : Tree) (p f : ℕ) → f ≤ length s → ((i : ℕ) → p ≤ i → i < f → MayBegin s e i → ⊥) → (more : List ℕ) (closed : Bool) (i j : ℕ) → p ≤ i → i < j → Ends closed (s ++ more) e i j → f ≤ i
none_before s e p f le n more closed i j from lt x = elim (cases_lt i f) [
  | inl before ↦ absurd (n i from before (elim (ends_open s more closed e i j (omega (arith, before)) x) as (λ _. MayBegin s e i) [ inl y ↦ inr (j, lt, y) | inr needs ↦ inl needs ]))
  | inr ge ↦ ge
]
