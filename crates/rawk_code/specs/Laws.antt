-- Laws of the trace: what one more step changes, what later sets change, and that output only grows.
use Rattle.std.specs.Prelude.{◌≡◌, ℕ, ◌+◌, ◌<◌, ◌≤◌, List, [], ◌++◌, take, Some, slice_get}
use Rattle.rawk_tree.specs.declared.tree.Program.{Program}
use Rattle.rawk_value.specs.Values.{Bytes}
use Rattle.rawk_code.specs.Actions.{Point, SetAt, sets_at, Ending, Ended, Faulted, Limited, Given}
use Rattle.rawk_code.specs.Trace.{FirstValue, Trace, trace, number, out}

-- a list begins another one
abbrev pub IsBeginning : {A : Type 0} → List A → List A → Type 0
IsBeginning {A} a b = (rest : List A) × (b ≡ a ++ rest)

-- the trace met the limit
abbrev pub IsLimited : Ending → Type 0
IsLimited Ended = ⊥
IsLimited (Faulted fault) = ⊥
IsLimited (Limited site) = Unit {0}

-- where a trace met the limit of n steps, the other one has the same first n points; else the two are equal
abbrev pub LimitAgrees : ℕ → Trace → Trace → Type 0
LimitAgrees n t u = (IsLimited t.ending → (number t ≡ n) × (take n u.run.points ≡ t.run.points)) × ((IsLimited t.ending → ⊥) → u ≡ t)

abbrev pub LimitLaw : Type 0
LimitLaw = (p : Program) (settings : List FirstValue) (given : Given) → LimitAgrees given.steps (trace p settings given) (trace p settings (record given { steps = given.steps + 1 }))

-- the points below k agree, and the endings where the number of one is at most k
abbrev pub SetsAgreeBelow : ℕ → Trace → Trace → Type 0
SetsAgreeBelow k t u = (take k t.run.points ≡ take k u.run.points) × (number t ≤ k → u ≡ t)

-- with the same sets at the points below k
abbrev pub SetsLawBelow : Type 0
SetsLawBelow =
    (p : Program) (settings : List FirstValue) (given : Given) (other : List SetAt) (k : ℕ) → ((j : ℕ) → j < k → sets_at given.sets j ≡ sets_at other j) →
    SetsAgreeBelow k (trace p settings given) (trace p settings (record given { sets = other }))

-- the points 0 to k agree, and the endings where the number of one is at most k + 1
abbrev pub SetsAgree : ℕ → Trace → Trace → Type 0
SetsAgree k t u = (take (k + 1) t.run.points ≡ take (k + 1) u.run.points) × (number t ≤ k + 1 → u ≡ t)

-- with the same sets at the points 0 to k
abbrev pub SetsLaw : Type 0
SetsLaw =
    (p : Program) (settings : List FirstValue) (given : Given) (other : List SetAt) (k : ℕ) → ((j : ℕ) → j ≤ k → sets_at given.sets j ≡ sets_at other j) →
    SetsAgree k (trace p settings given) (trace p settings (record given { sets = other }))

-- no later point has less output, and the trace ends with no less than any of its points
abbrev pub OutputGrows : List Point → Bytes → Type 0
OutputGrows points last =
    ((j k : ℕ) (a b : Point) → j ≤ k → slice_get points j ≡ Some a → slice_get points k ≡ Some b → IsBeginning a.state.output b.state.output)
    × ((j : ℕ) (a : Point) → slice_get points j ≡ Some a → IsBeginning a.state.output last)

abbrev pub OutputLaw : Type 0
OutputLaw = (p : Program) (settings : List FirstValue) (given : Given) → OutputGrows (trace p settings given).run.points (out (trace p settings given))

-- nothing is written before point 0
abbrev pub FirstIsSilent : List Point → Bytes → Type 0
FirstIsSilent points last = ((a : Point) → slice_get points 0 ≡ Some a → a.state.output ≡ []) × (points ≡ [] → last ≡ [])

abbrev pub FirstOutputLaw : Type 0
FirstOutputLaw = (p : Program) (settings : List FirstValue) (given : Given) → FirstIsSilent (trace p settings given).run.points (out (trace p settings given))
