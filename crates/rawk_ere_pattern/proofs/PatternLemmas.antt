-- The items of bracket expressions.
use Rattle.std.proofs.Common.{◌≡◌, ℕ, ◌+◌, ◌<◌, ◌≤◌, Bool, true, false, not, ◌&&◌, if◌then◌else◌, Option, Some, None, List, drop, refl, sym, ap, ◌∙◌, arith}
use Rattle.std.specs.Prelude.{nat_le}
use Rattle.std.proofs.lemmas.Bool.Decides.{nat_tests}
use Rattle.std.proofs.lemmas.List.{drop-drop}
use Rattle.rawk_ere_pattern.specs.declared.bracket.BracketPlace.{BracketPlace}
use Rattle.rawk_ere_pattern.specs.declared.bracket.BracketPlace.TheVariants.{AfterByte, AfterRange}
use Rattle.rawk_ere_pattern.specs.declared.bracket.Item.{Item}
use Rattle.rawk_ere_pattern.specs.declared.bracket.Item.TheVariants.{Range}
use Rattle.rawk_ere_pattern.specs.Pattern.{begins, endpoint, ended_by, begun_with, begun_by, hyphen, named, class_at, item_at}

-- the item with or without a range
abbrev chosen : Bool → Bool → ℕ → List ℕ → Option (Item × BracketPlace × List ℕ)
chosen hyphen end low s = if hyphen && not end then ended_by low (endpoint (drop 1 s)) else Some (Range low low, AfterByte, s)

pub alone_no_hyphen : (low : ℕ) (s : List ℕ) → begins 45 s ≡ false → begun_with low s ≡ Some (Range low low, AfterByte, s)
alone_no_hyphen low s e = ap (λ b. chosen b (begins 93 (drop 1 s)) low s) e

both_false : (b : Bool) → (b && not true) ≡ false
both_false true = refl
both_false false = refl

pub alone_before_end : (low at : ℕ) (p : List ℕ) → begins 93 (drop (at + 1) p) ≡ true → begun_with low (drop at p) ≡ Some (Range low low, AfterByte, drop at p)
alone_before_end low at p e =
    let n : begins 93 (drop 1 (drop at p)) ≡ true = ap (begins 93) (drop-drop 1 at p) ∙ e in
    let s = drop at p in
    ap (λ b. chosen (begins 45 s) b low s) n ∙ ap (λ b. if b then ended_by low (endpoint (drop 1 s)) else Some (Range low low, AfterByte, s)) (both_false (begins 45 s))

pub ranged : (low at : ℕ) (p : List ℕ) → begins 45 (drop at p) ≡ true → begins 93 (drop (at + 1) p) ≡ false → begun_with low (drop at p) ≡ ended_by low (endpoint (drop (at + 1) p))
ranged low at p h e =
    let s = drop at p in
    let n : begins 93 (drop 1 s) ≡ false = ap (begins 93) (drop-drop 1 at p) ∙ e in
    ap (λ b. chosen b (begins 93 (drop 1 s)) low s) h ∙ ap (λ b. chosen true b low s) n ∙ ap (λ l. ended_by low (endpoint l)) (drop-drop 1 at p)

pub le_true : (a b : ℕ) → a ≤ b → nat_le a b ≡ true
le_true a b h = grind (arith, nat_tests)

pub le_false : (a b : ℕ) → b < a → nat_le a b ≡ false
le_false a b h = grind (arith, nat_tests)

pub ended_in : (low high : ℕ) (s : List ℕ) → low ≤ high → ended_by low (Some (high, s)) ≡ Some (Range low high, AfterRange, s)
ended_in low high s le = ap (λ b. if b then Some (Range low high, AfterRange, s) else None) (le_true low high le)

pub ended_out : (low high : ℕ) (s : List ℕ) → high < low → ended_by low (Some (high, s)) ≡ None
ended_out low high s lt = ap (λ b. if b then Some (Range low high, AfterRange, s) else None) (le_false low high lt)

abbrev item_of : Bool → Bool → BracketPlace → List ℕ → Option (Item × BracketPlace × List ℕ)
item_of hyphened classed p s = if hyphened then hyphen p (drop 1 s) else if classed then named (drop 2 s) (class_at (drop 2 s)) else begun_by (endpoint s)

pub item_hyphen : (place : BracketPlace) (at : ℕ) (p : List ℕ) → begins 45 (drop at p) ≡ true → item_at place (drop at p) ≡ hyphen place (drop (at + 1) p)
unfolding item_at
item_hyphen place at p h =
    let s = drop at p in
    ap (λ b. item_of b (begins 91 s && begins 58 (drop 1 s)) place s) h ∙ ap (hyphen place) (drop-drop 1 at p)

pub item_named : (place : BracketPlace) (at : ℕ) (p : List ℕ) → begins 45 (drop at p) ≡ false → (begins 91 (drop at p) && begins 58 (drop 1 (drop at p))) ≡ true → item_at place (drop at p) ≡ named (drop (at + 2) p) (class_at (drop (at + 2) p))
unfolding item_at
item_named place at p h k =
    let s = drop at p in
    ap (λ b. item_of b (begins 91 s && begins 58 (drop 1 s)) place s) h ∙ ap (λ b. item_of false b place s) k ∙ ap (λ l. named l (class_at l)) (drop-drop 2 at p)

pub item_byte : (place : BracketPlace) (s : List ℕ) → begins 45 s ≡ false → (begins 91 s && begins 58 (drop 1 s)) ≡ false → item_at place s ≡ begun_by (endpoint s)
unfolding item_at
item_byte place s h k = ap (λ b. item_of b (begins 91 s && begins 58 (drop 1 s)) place s) h ∙ ap (λ b. item_of false b place s) k

pub class_tests : (r : Bool) (at : ℕ) (p : List ℕ) → begins 91 (drop at p) ≡ true → r ≡ begins 58 (drop (at + 1) p) → r ≡ (begins 91 (drop at p) && begins 58 (drop 1 (drop at p)))
class_tests r at p h e = e ∙ ap (begins 58) (sym (drop-drop 1 at p)) ∙ sym (ap (λ b. b && begins 58 (drop 1 (drop at p))) h)
