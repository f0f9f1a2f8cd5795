-- Misuses, by the marks of the arrays.
use Rattle.std.proofs.Common.{◌≡◌, ◌<◌, ℕ, List, refl, sym, ◌∙◌, arith, Bool, true, false, Some, slice_get}
use Rattle.std.specs.Prelude.{nat_lt, ◌&&◌}
use Rattle.std.proofs.lemmas.Bool.{ltb-true, ltb-false, false≢true}
use Rattle.std.proofs.lemmas.Option.{slice_get_within}
use Rattle.rawk_names.specs.declared.usage.Manner.TheVariants.{Scalar, Array, Either, Argument}
use Rattle.rawk_names.specs.declared.usage.What.{What}
use Rattle.rawk_names.specs.declared.usage.What.TheVariants.{Named, Value, Pattern, Misuse}
use Rattle.rawk_names.specs.declared.usage.Usage.{Usage}
use Rattle.rawk_names.specs.declared.usage.TheConstants.{SPECIALS}
use Rattle.rawk_names.specs.Arrays.{IsMisuse}
use Rattle.rawk_names.specs.Marking.{is_marked}
use Rattle.rawk_names.specs.Named.{AreArrays, is_misuse, NoMisuse, IsFirst, IsFirstMisuse}

both_true : (s t : Bool) → (s && t) ≡ true → (s ≡ true) × (t ≡ true)
both_true true true h = (refl, refl)
both_true true false h = absurd cc
both_true false t h = absurd cc

pub misuse_is : (uses : List Usage) (flags : List Bool) → AreArrays uses flags → (w : What) → is_misuse flags w ≡ true → IsMisuse uses w
misuse_is uses flags exact (Named Scalar v) h = (exact v).0 h
misuse_is uses flags exact (Named Array v) h = ltb-true _ _ h
misuse_is uses flags exact (Named Either v) h = absurd (false≢true h)
misuse_is uses flags exact (Named (Argument p) v) h = let parts = both_true (nat_lt v SPECIALS) (is_marked flags v) h in (ltb-true _ _ parts.0, (exact v).0 parts.1)
misuse_is uses flags exact (Value p) h = (exact p).0 h
misuse_is uses flags exact (Pattern n) h = absurd (false≢true h)
misuse_is uses flags exact Misuse h = tt

below_true : (v n : ℕ) → v < n → nat_lt v n ≡ true
below_true v n h = at (nat_lt v n) refl
  where
    at : (t : Bool) → nat_lt v n ≡ t → nat_lt v n ≡ true
    at true e = e
    at false e = absurd (omega (arith, h, ltb-false v n e))

pub misuse_seen : (uses : List Usage) (flags : List Bool) → AreArrays uses flags → (w : What) → IsMisuse uses w → is_misuse flags w ≡ true
misuse_seen uses flags exact (Named Scalar v) h = (exact v).1 h
misuse_seen uses flags exact (Named Array v) h = below_true v SPECIALS h
misuse_seen uses flags exact (Named Either v) h = absurd h
misuse_seen uses flags exact (Named (Argument p) v) h = rw (below_true v SPECIALS h.0) ((exact v).1 h.1)
misuse_seen uses flags exact (Value p) h = (exact p).1 h
misuse_seen uses flags exact (Pattern n) h = absurd h
misuse_seen uses flags exact Misuse h = refl

pub proper : (uses : List Usage) (flags : List Bool) → AreArrays uses flags → NoMisuse flags uses → (k : ℕ) (u : Usage) → slice_get uses k ≡ Some u → IsMisuse uses u.what → ⊥
proper uses flags exact none k u at bad = false≢true (sym (none k u (slice_get_within uses k u at) at) ∙ misuse_seen uses flags exact u.what bad)

pub first_is : (uses : List Usage) (flags : List Bool) (left : ℕ) → AreArrays uses flags → IsFirst flags uses left → IsFirstMisuse uses left
first_is uses flags left exact h = (h.0, h.1, h.2, h.3, misuse_is uses flags exact h.1.what h.4, λ j t before at bad. false≢true (sym (h.5 j t before at) ∙ misuse_seen uses flags exact t.what bad))
