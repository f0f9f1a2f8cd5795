-- A step that is closed.
use Rattle.std.proofs.Common.{◌≡◌, Bool, List, Option, ℕ, subst}
use Rattle.rawk_store.specs.Groups.{Group}
use Rattle.rawk_store.specs.Layout.{Layout}
use Rattle.rawk_history.specs.Steps.{Kept}
use Rattle.rawk_steps.specs.Closing.{Closes}

-- what a closed step is, by whether any step is kept
pub closes_by : (b c : Bool) (start now : Layout) (old new : List Kept) (here : List Group) (limit : Option ℕ) → b ≡ c → Closes b start now old new here limit → Closes c start now old new here limit
closes_by b c start now old new here limit e k = subst (λ (x : Bool). Closes x start now old new here limit) e k
