-- What the instruction does that reaches a point.
use Rattle.std.proofs.Common.{◌≡◌, ℕ, ◌+◌, Bool, List, [], ◌∷◌, ◌++◌, length, Option, Some, ap, ◌∙◌, if◌then◌else◌}
use Rattle.std.specs.Prelude.{slice_get, nat_eq}
use Rattle.rawk_value.specs.declared.value.Value.{Value}
use Rattle.rawk_value.specs.Values.{Bytes}
use Rattle.rawk_store.specs.State.{State}
use Rattle.rawk_code.specs.declared.code.Instr.{Instr}
use Rattle.rawk_code.specs.declared.code.Instr.TheVariants as instr
use Rattle.rawk_code.specs.Listing.{Listing}
use Rattle.rawk_code.specs.Actions.{Run, Given, SetAt, sets_at, all_set, Goes, Breaks, Stops}
use Rattle.rawk_code.specs.Actions as actions
use Rattle.rawk_code.specs.Machine.{Config, Going, Phase, act, step, goes_on}
use Rattle.rawk_code.specs.Correct.{places_of}

-- what a point does, by the sets, by whether the limit is met, and by the number of points
abbrev pub pointed : Option ℕ → Run → (Run → Config) → List SetAt → Bool → ℕ → Config
pointed site run next sets met k =
    let s : State = record (all_set (sets_at sets k) run.state) { here = k; site = site } in
    goes_on {A = Unit {0}} (if met then Breaks (Stops (actions.Limited site)) run else Goes tt (record { points = run.points ++ (record { site = site; state = s } ∷ []); state = s })) (λ _. next)

-- the instruction that reaches a point
pub point_step : (code : Listing) (given : Given) (at : ℕ) (ops : List Value) (keys : List (List Bytes)) (returns : List ℕ) (phase : Phase) (run : Run) (site : Option ℕ) (k : ℕ) (met : Bool) →
    slice_get code.instrs at ≡ Some (instr.Point site) → length run.points ≡ k → nat_eq k given.steps ≡ met →
    step given code.instrs (places_of code) (Going at ops keys returns phase run) ≡ pointed site run (Going (at + 1) ops keys returns phase) given.sets met k
point_step code given at ops keys returns phase run site k met there number is =
    let next = Going (at + 1) ops keys returns phase in
    ap (λ (i : Option Instr). act given (places_of code) i at ops keys returns phase run) there
    ∙ ap (λ (j : ℕ). pointed site run next given.sets (nat_eq j given.steps) j) number
    ∙ ap (λ (b : Bool). pointed site run next given.sets b k) is
