-- Refusals of names: one at most, and none where the names are in order.
use Rattle.std.proofs.Common.{◌≡◌, ◌≢◌, ◌<◌, ◌≤◌, ℕ, Bool, true, false, List, refl, sym, ap, ◌∙◌, arith, Some, slice_get}
use Rattle.std.proofs.lemmas.Bool.{ltb-true, ltb-false}
use Rattle.std.specs.Prelude.{nat_lt}
use Rattle.rawk_names.specs.declared.names.NameError.{NameError}
use Rattle.rawk_names.specs.declared.names.NameError.TheVariants as error
use Rattle.rawk_names.specs.declared.usage.Usage.{Usage}
use Rattle.rawk_names.specs.Noted.{Noted}
use Rattle.rawk_names.specs.Named.{Known, IsNamed, IsFirstMisuse, IsRefused}

some_is : {A : Type 0} (a b : A) → Some a ≡ Some b → a ≡ b
some_is a b h = cc

at_least : (a b : ℕ) → (b < a → ⊥) → a ≤ b
at_least a b h = at (nat_lt b a) refl
  where
    at : (t : Bool) → nat_lt b a ≡ t → a ≤ b
    at true e = absurd (h (ltb-true b a e))
    at false e = ltb-false b a e

-- two numbers of which neither is below the other
pub level : (a b : ℕ) → (a < b → ⊥) → (b < a → ⊥) → a ≡ b
level a b h g = omega (arith, at_least b a h, at_least a b g)

pub first_misuse_once : (uses : List Usage) (a b : ℕ) → IsFirstMisuse uses a → IsFirstMisuse uses b → a ≡ b
first_misuse_once uses a b h g =
    let same : h.0 ≡ g.0 = level h.0 g.0 (λ below. g.5 h.0 h.1 below h.2 h.4) (λ below. h.5 g.0 g.1 below g.2 g.4) in
    let one : h.1 ≡ g.1 = some_is h.1 g.1 (sym h.2 ∙ ap (slice_get uses) same ∙ g.2) in
    sym h.3 ∙ ap (λ u. u.left) one ∙ g.3

pub refused_once : (noted : Noted) (a b : NameError) → a ≢ error.OutOfMemory → b ≢ error.OutOfMemory → IsRefused noted a → IsRefused noted b → a ≡ b
refused_once noted error.OutOfMemory b some other h g = absurd (some refl)
refused_once noted (error.Misused left) error.OutOfMemory some other h g = absurd (other refl)
refused_once noted (error.Misused left) (error.Misused right) some other h g = ap error.Misused (first_misuse_once noted.uses left right h g)

pub named_or_refused : (noted : Noted) (n : Known) (e : NameError) → e ≢ error.OutOfMemory → IsNamed noted n → IsRefused noted e → ⊥
named_or_refused noted n error.OutOfMemory some h g = some refl
named_or_refused noted n (error.Misused left) some h g = h.proper g.0 g.1 g.2 g.4
