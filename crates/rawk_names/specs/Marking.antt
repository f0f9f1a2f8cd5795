-- How the arrays are found: the variables that are marked, and those of them whose links are still to be followed.
use Rattle.std.specs.Prelude.{◌≡◌, ◌<◌, ◌⊎◌, ℕ, ◌+◌, Bool, true, false, if◌then◌else◌, List, [], ◌∷◌, ◌++◌, length, slice_get, slice_index, slice_index_or, slice_set, sum_by, Some}
use Rattle.rawk_names.specs.declared.usage.Manner.TheVariants.{Scalar, Array, Either, Argument}
use Rattle.rawk_names.specs.declared.usage.What.{What}
use Rattle.rawk_names.specs.declared.usage.What.TheVariants.{Named, Value, Pattern, Misuse}
use Rattle.rawk_names.specs.declared.usage.Usage.{Usage}
use Rattle.rawk_names.specs.Arrays.{Stands, IsArray}

abbrev pub IsBelow : What → ℕ → Type 0
IsBelow (Named (Argument p) v) n = (v < n) × (p < n)
IsBelow (Named Scalar v) n = v < n
IsBelow (Named Array v) n = v < n
IsBelow (Named Either v) n = v < n
IsBelow (Value p) n = Unit {0}
IsBelow (Pattern k) n = Unit {0}
IsBelow Misuse n = Unit {0}

abbrev pub AreBelow : List Usage → ℕ → Type 0
AreBelow uses n = (k : ℕ) (u : Usage) → slice_get uses k ≡ Some u → IsBelow u.what n

-- the second is the parameter for the first, or the other way round
abbrev pub IsLink : List Usage → ℕ → ℕ → Type 0
IsLink uses a b = Stands uses (Named (Argument b) a) ⊎ Stands uses (Named (Argument a) b)

abbrev pub HasLink : List ℕ → List ℕ → ℕ → ℕ → Type 0
HasLink froms tos a b = (e : ℕ) × (e < length tos) × (slice_index froms e ≡ a) × (slice_index tos e ≡ b)

-- the links are those of the uses
pub record AreLinks (uses : List Usage) (froms tos : List ℕ) : Type 0 where
  pub size : length froms ≡ length tos
  pub sound : (e : ℕ) → e < length tos → IsLink uses (slice_index froms e) (slice_index tos e)
  pub there : (v p : ℕ) → Stands uses (Named (Argument p) v) → HasLink froms tos v p
  pub back : (v p : ℕ) → Stands uses (Named (Argument p) v) → HasLink froms tos p v

abbrev pub is_marked : List Bool → ℕ → Bool
is_marked flags v = slice_index_or flags v false

abbrev pub IsPending : List ℕ → ℕ → Type 0
IsPending pending v = (k : ℕ) × (k < length pending) × (slice_index pending k ≡ v)

unfoldable pub flags_after : ℕ → List Bool → List Bool
flags_after v flags = if is_marked flags v then flags else slice_set flags v true

unfoldable pub pending_after : ℕ → List Bool → List ℕ → List ℕ
pending_after v flags pending = if is_marked flags v then pending else pending ++ v ∷ []

-- what a use adds
abbrev pub froms_of : What → List ℕ
froms_of (Named (Argument p) v) = v ∷ p ∷ []
froms_of _ = []

abbrev pub tos_of : What → List ℕ
tos_of (Named (Argument p) v) = p ∷ v ∷ []
tos_of _ = []

abbrev pub used_flags : What → List Bool → List Bool
used_flags (Named Array v) flags = flags_after v flags
used_flags _ flags = flags

abbrev pub used_pending : What → List Bool → List ℕ → List ℕ
used_pending (Named Array v) flags pending = pending_after v flags pending
used_pending _ flags pending = pending

-- its links lead to what is marked
abbrev pub IsClosed : List ℕ → List ℕ → List Bool → ℕ → Type 0
IsClosed froms tos flags v = (e : ℕ) → e < length tos → slice_index froms e ≡ v → is_marked flags (slice_index tos e) ≡ true

-- what is marked is an array, and its links were followed or are to be
pub record IsMarking (uses : List Usage) (froms tos : List ℕ) (flags : List Bool) (pending : List ℕ) : Type 0 where
  pub sound : (v : ℕ) → is_marked flags v ≡ true → IsArray uses v
  pub closed : (v : ℕ) → is_marked flags v ≡ true → IsPending pending v ⊎ IsClosed froms tos flags v
  pub waiting : (v : ℕ) → IsPending pending v → IsArray uses v

-- all that is used as an array is marked
abbrev pub AreUsedMarked : List Usage → List Bool → Type 0
AreUsedMarked uses flags = (v : ℕ) → Stands uses (Named Array v) → is_marked flags v ≡ true

abbrev pub Keeps : List Bool → List Bool → Type 0
Keeps old new = (v : ℕ) → is_marked old v ≡ true → is_marked new v ≡ true

abbrev pub open_of : Bool → ℕ
open_of true = 0
open_of false = 1

-- how much is still to be done: what may still be marked, and what is to be followed
abbrev pub todo : List Bool → List ℕ → ℕ
todo flags pending = sum_by open_of flags + length pending

-- what was marked since is pending, and a link that satisfies this leads to it
pub record Progress (Leads : ℕ → Type 0) (flags : List Bool) (pending : List ℕ) (flags' : List Bool) (pending' : List ℕ) : Type 0 where
  pub size : length flags' ≡ length flags
  pub kept : Keeps flags flags'
  pub only : (w : ℕ) → is_marked flags' w ≡ true → (is_marked flags w ≡ true) ⊎ (Leads w × IsPending pending' w)
  pub fresh : (w : ℕ) → IsPending pending' w → IsPending pending w ⊎ Leads w
  pub waits : (w : ℕ) → IsPending pending w → IsPending pending' w
  pub weight : todo flags' pending' ≡ todo flags pending

-- all links of the variable were followed, and no other
pub record Followed (froms tos : List ℕ) (v : ℕ) (flags : List Bool) (pending : List ℕ) (flags' : List Bool) (pending' : List ℕ) : Type 0 where
  pub progress : Progress (HasLink froms tos v) flags pending flags' pending'
  pub closed : IsClosed froms tos flags' v
