-- What is given and dropped, where there is no way back.
use Rattle.std.proofs.Common.{◌≡◌, ℕ, List, [], ◌∷◌, Option, Result, Ok, Err, refl, sym, subst}
use Rattle.std.specs.Result.{OnErr}
use Rattle.rawk_tape.specs.Tapes.{TapeState}
use Rattle.rawk_store.specs.Groups.{Group}
use Rattle.rawk_store.specs.Layout.{Layout}
use Rattle.rawk_code.specs.Listing.{Listing}
use Rattle.rawk_code.specs.Actions.{SetAt}
use Rattle.rawk_code.specs.Trace.{FirstValue}
use Rattle.rawk_machine.specs.Last.{Last}
use Rattle.rawk_machine.specs.Standing.{Standing}
use Rattle.rawk_machine.specs.Kept.{unsets, FitHere, Chain}
use Rattle.rawk_machine.specs.Stood.{standing_of}

-- no sets to take back, no groups
pub no_groups : (l : Layout) (sets : List SetAt) (here : List Group) → unsets l sets here ≡ [] → here ≡ []
no_groups l sets [] h = refl
no_groups l sets (g ∷ gs) h = absurd (cc h)

-- other parts, with no groups
pub standing_as : {S : Type 0} (code : Listing) (settings : List FirstValue) (steps : ℕ) (sets : List SetAt) (point : ℕ) (tape : TapeState S) (l : Layout) (executed : ℕ) (here : List Group) (limit : Option ℕ) (last : Last) (change : Standing S → Standing S) (tape2 : TapeState S) (m : Layout) → here ≡ [] →
    standing_of code settings steps sets point tape2 m executed [] [] limit last ≡ change (standing_of code settings steps sets point tape l executed [] [] limit last) →
    standing_of code settings steps sets point tape2 m executed here [] limit last ≡ change (standing_of code settings steps sets point tape l executed here [] limit last)
standing_as {S} code settings steps sets point tape l executed here limit last change tape2 m none e =
    subst (λ (gs : List Group). standing_of code settings steps sets point tape2 m executed gs [] limit last ≡ change (standing_of code settings steps sets point tape l executed gs [] limit last)) (sym none) e

pub chain_as : (l m : Layout) (point size size2 : ℕ) (sets : List SetAt) (here : List Group) → here ≡ [] → Chain l point size sets here [] → Chain m point size2 sets here []
chain_as l m point size size2 sets here none (h, e) = (subst (λ (gs : List Group). FitHere m point size2 gs) (sym none) tt, e)

pub on_err : {A B P : Type 0} (r : Result A B) → P → OnErr r P
on_err (Ok x) p = tt
on_err (Err x) p = p
