-- The names of the globals, and what they and parameters are, one after another.
use Rattle.std.proofs.Common.{◌≡◌, ◌<◌, ◌≤◌, ℕ, ◌+◌, ◌-◌, suc, List, [], ◌∷◌, ◌++◌, length, drop, map, get_or, refl, sym, ap, ◌∙◌, arith, Option, None, Some, slice_get, append_assoc}
use Rattle.std.specs.List.{range_with_len}
use Rattle.std.proofs.lemmas.Option.{slice_get-get_or, slice_get_past}
use Rattle.std.proofs.lemmas.List.FromFn.{length-map-range_with_len, get_or-map-range_with_len, map-range_with_len_more}
use Rattle.std.proofs.Math.Seq.{drop-cons}
use Rattle.rawk_keys.specs.ArrayKey.{ArrayKey, array_key}
use Rattle.rawk_names.specs.Named.{Known}
use Rattle.rawk_names.specs.Marking.{is_marked}
use Rattle.rawk_names.specs.declared.usage.Signature.{Signature}
use Rattle.rawk_tree.specs.declared.tree.Kind.{Kind}
use Rattle.rawk_tree.specs.declared.tree.Kind.TheVariants.{Scalar}
use Rattle.rawk_resolution.specs.Meant.{kind_of, kinds_at, kinds_from, parameter_kinds}

abbrev pub key_of : ArrayKey → List ℕ
key_of entry = entry.key

pub word_more : (vars : List ArrayKey) (v : ℕ) (words new all : List (List ℕ)) (w : List ℕ) → v < length vars → ((entry : ArrayKey) → slice_get vars v ≡ Some entry → w ≡ entry.key)
    → new ≡ words ++ w ∷ [] → words ++ map key_of (drop v vars) ≡ all → new ++ map key_of (drop (v + 1) vars) ≡ all
word_more vars v words new all w h is more before =
    let nobody : ArrayKey = array_key 0 [] in
    let one : w ≡ key_of (get_or vars v nobody) = is (get_or vars v nobody) (slice_get-get_or vars v nobody h) in
    let front : drop v vars ≡ get_or vars v nobody ∷ drop (suc v) vars = drop-cons vars v nobody h in
    let one_more : v + 1 ≡ suc v = omega arith in
    let next : drop (v + 1) vars ≡ drop (suc v) vars = ap (λ n. drop n vars) one_more in
    ap (λ ws. ws ++ map key_of (drop (v + 1) vars)) more
    ∙ append_assoc words (w ∷ []) (map key_of (drop (v + 1) vars))
    ∙ ap (λ ks. words ++ w ∷ map key_of ks) next
    ∙ ap (λ x. words ++ x ∷ map key_of (drop (suc v) vars)) one
    ∙ ap (λ ks. words ++ map key_of ks) (sym front)
    ∙ before

pub kind_more : (names : Known) (v : ℕ) (kinds new all : List Kind) (k : Kind) → v < length names.variables → k ≡ kind_of (is_marked names.arrays v)
    → new ≡ kinds ++ k ∷ [] → kinds ++ kinds_from names v (drop v names.variables) ≡ all → new ++ kinds_from names (v + 1) (drop (v + 1) names.variables) ≡ all
kind_more names v kinds new all k h is more before =
    let nobody : ArrayKey = array_key 0 [] in
    let front : drop v names.variables ≡ get_or names.variables v nobody ∷ drop (suc v) names.variables = drop-cons names.variables v nobody h in
    let one_more : v + 1 ≡ suc v = omega arith in
    ap (λ ks. ks ++ kinds_from names (v + 1) (drop (v + 1) names.variables)) more
    ∙ append_assoc kinds (k ∷ []) (kinds_from names (v + 1) (drop (v + 1) names.variables))
    ∙ ap (λ n. kinds ++ k ∷ kinds_from names n (drop n names.variables)) one_more
    ∙ ap (λ x. kinds ++ x ∷ kinds_from names (suc v) (drop (suc v) names.variables)) is
    ∙ ap (λ entries. kinds ++ kinds_from names v entries) (sym front)
    ∙ before

-- ---- parameters

abbrev pub kind_in : Known → ℕ → Kind
kind_in names v = kind_of (is_marked names.arrays v)

pub parameter_more : (names : Known) (first v : ℕ) (kinds new : List Kind) (k : Kind) → first ≤ v → k ≡ kind_in names v
    → new ≡ kinds ++ k ∷ [] → kinds ≡ map (kind_in names) (range_with_len first (v - first)) → new ≡ map (kind_in names) (range_with_len first (v + 1 - first))
parameter_more names first v kinds new k low is more before =
    let sum : first + (v - first) ≡ v = omega arith in
    let next : (v - first) + 1 ≡ v + 1 - first = omega arith in
    more ∙ ap (λ ks. ks ++ k ∷ []) before ∙ ap (λ x. map (kind_in names) (range_with_len first (v - first)) ++ x ∷ []) is
    ∙ sym (map-range_with_len_more (kind_in names) first (v - first) v sum) ∙ ap (λ n. map (kind_in names) (range_with_len first n)) next

pub kind_there : (names : Known) (f : ℕ) (s : Signature) (i : ℕ) (k : Kind) → Some s ≡ slice_get names.signatures f → i < s.end - s.first → k ≡ kind_in names (s.first + i) → Some k ≡ slice_get (parameter_kinds names f) i
kind_there names f s i k found within is =
    let kinds = map (kind_in names) (range_with_len s.first (s.end - s.first)) in
    let count : length kinds ≡ s.end - s.first = length-map-range_with_len (kind_in names) s.first (s.end - s.first) in
    let h : i < length kinds = omega (arith, count) in
    let at : get_or kinds i Scalar ≡ kind_in names (s.first + i) = get_or-map-range_with_len (kind_in names) s.first (s.end - s.first) i (s.first + i) Scalar within refl in
    ap Some (is ∙ sym at) ∙ sym (slice_get-get_or kinds i Scalar h) ∙ ap (λ o. slice_get (kinds_at names o) i) found

pub kind_past : (names : Known) (f : ℕ) (s : Signature) (i : ℕ) → Some s ≡ slice_get names.signatures f → s.end - s.first ≤ i → None ≡ slice_get (parameter_kinds names f) i
kind_past names f s i found past =
    let kinds = map (kind_in names) (range_with_len s.first (s.end - s.first)) in
    let count : length kinds ≡ s.end - s.first = length-map-range_with_len (kind_in names) s.first (s.end - s.first) in
    let h : length kinds ≤ i = omega (arith, count) in
    sym (slice_get_past kinds i h) ∙ ap (λ o. slice_get (kinds_at names o) i) found

pub no_kind : (names : Known) (f : ℕ) (o : Option Signature) (i : ℕ) → ((s : Signature) → o ≡ Some s → ⊥) → o ≡ slice_get names.signatures f → None ≡ slice_get (parameter_kinds names f) i
no_kind names f None i none found = ap (λ z. slice_get (kinds_at names z) i) found
no_kind names f (Some s) i none found = absurd (none s refl)
