-- Keys of which each stands once.
use Rattle.std.proofs.Common.{◌≡◌, ◌<◌, ◌+◌, ℕ, List, [], ◌∷◌, ◌++◌, length, refl, sym, ap, ◌∙◌, arith, Bool, true, false, Option, Some, None, MatchOption, IfSome, slice_get, length-append, ap₂}
use Rattle.std.specs.Prelude.{nat_lt, ◌&&◌, ◌==◌}
use Rattle.std.specs.Str.{bytes_eq}
use Rattle.std.proofs.lemmas.Bool.{ltb-true, ltb-false}
use Rattle.std.proofs.lemmas.Grind.{common_steps}
use Rattle.std.proofs.lemmas.List.{get_or_append_left}
use Rattle.std.proofs.Math.Seq.{get_or-append_seam}
use Rattle.std.proofs.lemmas.Option.{slice_get_within, slice_get-get_or}
use Rattle.std.proofs.lemmas.Slice.Eq.{bytes_eq-Decides}
use Rattle.std.proofs.lemmas.Bool.Decides.{nat_tests}
use Rattle.rawk_keys.specs.ArrayKey.{ArrayKey, array_key, IsAbsent}
use Rattle.rawk_names.specs.Table.{key_eq, later, place_of, AreOnce}

slice_get-head : (k : ArrayKey) (ks : List ArrayKey) → slice_get (k ∷ ks) 0 ≡ Some k
slice_get-head k ks = grind (arith, common_steps)

slice_get-tail : (k : ArrayKey) (ks : List ArrayKey) (i : ℕ) → slice_get (k ∷ ks) (i + 1) ≡ slice_get ks i
slice_get-tail k ks i = grind (arith, common_steps)

both : (s t : Bool) → (s && t) ≡ true → (s ≡ true) × (t ≡ true)
both true true h = (refl, refl)
both true false h = absurd cc
both false t h = absurd cc

key_eq-same : (a b : ArrayKey) → key_eq a b ≡ true → a ≡ b
key_eq-same a b h =
    let parts = both (a.array == b.array) (bytes_eq a.key b.key) h in
    let same : a.key ≡ b.key = (bytes_eq-Decides a.key b.key).0 parts.1 in
    let one : a.array ≡ b.array = search (arith, nat_tests, parts.0) in
    ap₂ array_key one same

key_eq-refl : (a : ArrayKey) → key_eq a a ≡ true
key_eq-refl a =
    let same : bytes_eq a.key a.key ≡ true = (bytes_eq-Decides a.key a.key).1 refl in
    let one : (a.array == a.array) ≡ true = search (arith, nat_tests) in
    rw (one, same) refl

-- a key stands at its place
pub stands : (key : ArrayKey) (keys : List ArrayKey) (j : ℕ) → place_of key keys ≡ Some j → slice_get keys j ≡ Some key
stands key [] j h = absurd cc
stands key (k ∷ keys) j h = at (stands key keys) (key_eq key k) refl
  where
    behind : ((i : ℕ) → place_of key keys ≡ Some i → slice_get keys i ≡ Some key) → (o : Option ℕ) → place_of key keys ≡ o → later o ≡ Some j → slice_get (k ∷ keys) j ≡ Some key
    behind rest None e g = absurd cc
    behind rest (Some i) e g =
        let next : j ≡ i + 1 = cc in
        rw next (slice_get-tail k keys i ∙ rest i e)

    at : ((i : ℕ) → place_of key keys ≡ Some i → slice_get keys i ≡ Some key) → (t : Bool) → key_eq key k ≡ t → slice_get (k ∷ keys) j ≡ Some key
    at rest true e =
        let first : Some 0 ≡ Some j = rw e at h in
        let zeroth : j ≡ 0 = cc in
        rw zeroth (slice_get-head k keys ∙ ap Some (sym (key_eq-same key k e)))
    at rest false e =
        let further : later (place_of key keys) ≡ Some j = rw e at h in
        behind rest (place_of key keys) refl further

-- its place stays when a key comes behind
pub kept : (key more : ArrayKey) (keys : List ArrayKey) (j : ℕ) → place_of key keys ≡ Some j → place_of key (keys ++ more ∷ []) ≡ Some j
kept key more [] j h = absurd cc
kept key more (k ∷ keys) j h = at (kept key more keys) (key_eq key k) refl
  where
    behind : ((i : ℕ) → place_of key keys ≡ Some i → place_of key (keys ++ more ∷ []) ≡ Some i) → (o : Option ℕ) → place_of key keys ≡ o → later o ≡ Some j → later (place_of key (keys ++ more ∷ [])) ≡ Some j
    behind rest None e g = absurd cc
    behind rest (Some i) e g = ap later (rest i e) ∙ g

    at : ((i : ℕ) → place_of key keys ≡ Some i → place_of key (keys ++ more ∷ []) ≡ Some i) → (t : Bool) → key_eq key k ≡ t → place_of key ((k ∷ keys) ++ more ∷ []) ≡ Some j
    at rest true e = let first : Some 0 ≡ Some j = rw e at h in rw e first
    at rest false e = let further : later (place_of key keys) ≡ Some j = rw e at h in rw e (behind rest (place_of key keys) refl further)

-- a new key comes last
pub added : (key : ArrayKey) (keys : List ArrayKey) → place_of key keys ≡ None → place_of key (keys ++ key ∷ []) ≡ Some (length keys)
added key [] h = rw (key_eq-refl key) refl
added key (k ∷ keys) h = at (added key keys) (key_eq key k) refl
  where
    none : (o : Option ℕ) → later o ≡ None → o ≡ None
    none None g = refl
    none (Some i) g = absurd cc

    at : (place_of key keys ≡ None → place_of key (keys ++ key ∷ []) ≡ Some (length keys)) → (t : Bool) → key_eq key k ≡ t → place_of key ((k ∷ keys) ++ key ∷ []) ≡ Some (length (k ∷ keys))
    at rest true e = let first : Some 0 ≡ None = rw e at h in absurd cc
    at rest false e =
        let further : later (place_of key keys) ≡ None = rw e at h in
        let there : place_of key (keys ++ key ∷ []) ≡ Some (length keys) = rest (none (place_of key keys) further) in
        rw (e, there) (grind (arith, common_steps))

slice_get-left : (keys : List ArrayKey) (more : ArrayKey) (i : ℕ) → i < length keys → slice_get (keys ++ more ∷ []) i ≡ slice_get keys i
slice_get-left keys more i h =
    slice_get-get_or (keys ++ more ∷ []) i more (omega (arith, h, length-append keys (more ∷ []))) ∙ (ap Some (get_or_append_left keys (more ∷ []) more i h) ∙ sym (slice_get-get_or keys i more h))

slice_get-last : (keys : List ArrayKey) (more : ArrayKey) → slice_get (keys ++ more ∷ []) (length keys) ≡ Some more
slice_get-last keys more =
    slice_get-get_or (keys ++ more ∷ []) (length keys) more (omega (arith, length-append keys (more ∷ []))) ∙ ap Some (get_or-append_seam keys more [] more)

pub once_more : (keys : List ArrayKey) (key : ArrayKey) → AreOnce keys → place_of key keys ≡ None → AreOnce (keys ++ key ∷ [])
once_more keys key once new i k h = at (nat_lt i (length keys)) refl
  where
    at : (t : Bool) → nat_lt i (length keys) ≡ t → place_of k (keys ++ key ∷ []) ≡ Some i
    at true e = kept k key keys i (once i k (sym (slice_get-left keys key i (ltb-true _ _ e)) ∙ h))
    at false e =
        let within : i < length (keys ++ key ∷ []) = slice_get_within (keys ++ key ∷ []) i k h in
        let last : i ≡ length keys = omega (arith, within, ltb-false _ _ e, length-append keys (key ∷ [])) in
        let same : Some k ≡ Some key = sym h ∙ (ap (slice_get (keys ++ key ∷ [])) last ∙ slice_get-last keys key) in
        let it : k ≡ key = cc in
        rw (it, last) (added key keys new)

pub found : (key : ArrayKey) (keys : List ArrayKey) (r : Option ℕ) → AreOnce keys → MatchOption r (IsAbsent key keys) (λ i. slice_get keys i ≡ Some key) → r ≡ place_of key keys
found key keys (Some i) once h = sym (once i key h)
found key keys None once absent = at (place_of key keys) refl
  where
    at : (o : Option ℕ) → place_of key keys ≡ o → None ≡ o
    at None e = refl
    at (Some j) e = absurd (absent j (stands key keys j e))

pub found_within : (key : ArrayKey) (keys : List ArrayKey) (r : Option ℕ) → MatchOption r (IsAbsent key keys) (λ i. slice_get keys i ≡ Some key) → IfSome r (λ i. i < length keys)
found_within key keys None h = tt
found_within key keys (Some i) h = slice_get_within keys i key h
