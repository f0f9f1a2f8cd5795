-- Regular expressions that stand in a program: one that is read is no bad one, and there is one first bad one at most.
use Rattle.std.proofs.Common.{◌≡◌, ◌<◌, inl, inr, ℕ, List, [], length, get_or, sym, ap, subst, ◌∙◌, Bool, true, false, Some, slice_get, MatchBool}
use Rattle.std.proofs.lemmas.Bool.{false≢true}
use Rattle.std.proofs.lemmas.Option.{slice_get_within, slice_get-get_or}
use Rattle.rawk_ere_tree.specs.Tree.{IsWithinLimits}
use Rattle.rawk_ere_pattern.specs.PatternOfLemmas.{read_once}
use Rattle.rawk_keys.specs.ArrayKey.{ArrayKey, array_key}
use Rattle.rawk_names.specs.declared.usage.Usage.{Usage}
use Rattle.rawk_names.specs.Noted.{Word, pattern_left}
use Rattle.rawk_names.specs.Refusals.{level}
use Rattle.rawk_syntax.specs.Patterns.{IsReadable, AreReadable, IsBad, IsBadAt, IsFirstBad, IsBadPlace}

-- a pattern is one or none
not_both : (w : Word) → IsReadable w → IsBad w → ⊥
not_both w r (inl none) = none r.0 r.1
not_both w r (inr large) = large.2 (subst IsWithinLimits (read_once w r.0 large.0 r.1 large.1) r.2)

pub not_read : (patterns : List ArrayKey) (n k : ℕ) → k < n → AreReadable patterns n → IsBadAt patterns k → ⊥
not_read patterns n k h all bad = not_both bad.0.key (all k bad.0 h bad.1) bad.2

pub not_all : (patterns : List ArrayKey) (k : ℕ) → AreReadable patterns (length patterns) → IsBadAt patterns k → ⊥
not_all patterns k all bad = not_read patterns (length patterns) k (slice_get_within patterns k bad.0 bad.1) all bad

pub first_bad_once : (patterns : List ArrayKey) (a b : ℕ) → IsFirstBad patterns a → IsFirstBad patterns b → a ≡ b
first_bad_once patterns a b h g = level a b (λ below. not_read patterns b a below g.1 h.0) (λ below. not_read patterns a b below h.1 g.0)

pub bad_place_once : (patterns : List ArrayKey) (uses : List Usage) (a b : ℕ) → IsBadPlace patterns uses a → IsBadPlace patterns uses b → a ≡ b
bad_place_once patterns uses a b h g = h.2 ∙ ap (λ k. pattern_left k uses) (first_bad_once patterns h.0 g.0 h.1 g.1) ∙ sym g.2

pub bad_at : (patterns : List ArrayKey) (k : ℕ) (w : Word) (b : Bool) → k < length patterns → ((entry : ArrayKey) → slice_get patterns k ≡ Some entry → w ≡ entry.key) → b ≡ false → MatchBool b (IsReadable w) (IsBad w) → IsBadAt patterns k
bad_at patterns k w true h is fails bad = absurd (false≢true (sym fails))
bad_at patterns k w false h is fails bad =
    let there : slice_get patterns k ≡ Some (get_or patterns k (array_key 0 [])) = slice_get-get_or patterns k (array_key 0 []) h in
    (get_or patterns k (array_key 0 []), there, subst IsBad (is _ there) bad)
