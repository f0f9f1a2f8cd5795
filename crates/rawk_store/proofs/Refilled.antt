-- How many elements an array has tells whether it has others than texts at the keys from 1 on.
use Rattle.std.proofs.Common.{◌≡◌, ◌≢◌, ℕ, suc, ◌+◌, ◌-◌, ◌<◌, ◌≤◌, ◌==◌, Bool, true, false, cond, List, [], ◌∷◌, inl, inr, length, map, set, refl, sym, ap, ◌∙◌, arith, Option, None, Some, OnOk, Result, Ok, Err, get_or-set_same}
use Rattle.std.specs.Prelude.{pos, is_some}
use Rattle.std.proofs.lemmas.Bool.{cases_eq, cases_lt, false≢true}
use Rattle.std.proofs.lemmas.Bool.Decides.{nat_tests}
use Rattle.std.proofs.lemmas.List.{length-set, set-get_or, set-set, set_past}
use Rattle.std.proofs.lemmas.Map.Lookups.{exact_bytes}
use Rattle.std.proofs.lemmas.Int.Digits.{same_from_digits_of}
use Rattle.std.specs.Int.Digits.{digits_of}
use Rattle.std.specs.FinMap.{get, insert, remove, len, empty_of_len, get-insert, get-remove, len-insert, same_map}
use Rattle.std.specs.Cmp.Lexicographic.{nat_list_cmp_total}
use Rattle.rawk_value.specs.Values.{Bytes, decimal, text_of}
use Rattle.rawk_value.specs.declared.value.Value.{Value}
use Rattle.rawk_value.specs.declared.value.Value.TheVariants.{Number, Input}
use Rattle.rawk_arrays.specs.Elements.{Elements, no_elements, array_at, cleared}
use Rattle.rawk_arrays.specs.Place.{same_key}
use Rattle.rawk_arrays.specs.PlaceLaws.{key_is, key_itself}
use Rattle.rawk_store.specs.State.{numbered}

-- ---- keys of numbers

decimal_from : (n : ℕ) (b : Bool) → (n == 0) ≡ b → 0 < n → decimal n ≡ map (λ d. 48 + d) (digits_of 10 n)
decimal_from n true e lt = let z : n ≡ 0 = grind (arith, nat_tests) in absurd (omega (arith, z, lt))
decimal_from n false e lt = ap (λ b. cond b (48 ∷ []) (map (λ d. 48 + d) (digits_of 10 n))) e

back_down : (ds : List ℕ) → map (λ d. d - 48) (map (λ d. 48 + d) ds) ≡ ds
back_down [] = refl
back_down (d ∷ ds) = let here : 48 + d - 48 ≡ d = omega arith in ap (λ x. x ∷ map (λ d. d - 48) (map (λ d. 48 + d) ds)) here ∙ ap (λ xs. d ∷ xs) (back_down ds)

abbrev key : ℕ → Bytes
key n = text_of (Number (pos n))

-- keys of different numbers differ
keys_differ : (i j : ℕ) → 0 < i → 0 < j → key i ≡ key j → i ≡ j
keys_differ i j p q e =
    let digits : map (λ d. 48 + d) (digits_of 10 i) ≡ map (λ d. 48 + d) (digits_of 10 j) = sym (decimal_from i (i == 0) refl p) ∙ (e ∙ decimal_from j (j == 0) refl q) in
    same_from_digits_of 10 i j (omega arith) (sym (back_down (digits_of 10 i)) ∙ (ap (map (λ d. d - 48)) digits ∙ back_down (digits_of 10 j)))

-- ---- one array, with any keys that differ

abbrev AreApart : (ℕ → Bytes) → Type 0
AreApart key = (i j : ℕ) → 0 < i → 0 < j → key i ≡ key j → i ≡ j

-- the elements with these texts at the keys from n on
abbrev filled : (ℕ → Bytes) → ℕ → List Bytes → Elements → Elements
filled key n [] m = m
filled key n (t ∷ ts) m = filled key (suc n) ts (insert m (key n) (Input t))

-- the elements without those at these keys
abbrev stripped : (ℕ → Bytes) → ℕ → List Bytes → Elements → Elements
stripped key n [] m = m
stripped key n (t ∷ ts) m = stripped key (suc n) ts (remove m (key n))

-- the key is none of these
abbrev IsOther : (ℕ → Bytes) → ℕ → List Bytes → Bytes → Type 0
IsOther key n ts q = (j : ℕ) → n ≤ j → j < n + length ts → q ≢ key j

differs_go : (q k : Bytes) (b : Bool) → same_key q k ≡ b → q ≢ k → same_key q k ≡ false
differs_go q k true e d = absurd (d (key_is q k e))
differs_go q k false e d = e

differs : (q k : Bytes) → q ≢ k → same_key q k ≡ false
differs q k d = differs_go q k (same_key q k) refl d

nothing_left : (b : Bool) (o : Option Value) → o ≡ None → cond b None o ≡ None
nothing_left true o e = refl
nothing_left false o e = e

none_stripped : (key : ℕ → Bytes) (n : ℕ) (ts : List Bytes) (m : Elements) (q : Bytes) → get m q ≡ None → get (stripped key n ts m) q ≡ None
none_stripped key n [] m q e = e
none_stripped key n (t ∷ ts) m q e = none_stripped key (suc n) ts (remove m (key n)) q (get-remove nat_list_cmp_total m (key n) q ∙ nothing_left (same_key q (key n)) (get m q) e)

gone : (key : ℕ → Bytes) (n : ℕ) (ts : List Bytes) (m : Elements) (j : ℕ) → n ≤ j → j < n + length ts → get (stripped key n ts m) (key j) ≡ None
gone key n [] m j ge lt = absurd (omega (arith, ge, lt))
gone key n (t ∷ ts) m j ge lt = elim (cases_eq j n) [
  | inl e ↦ none_stripped key (suc n) ts (remove m (key n)) (key j) (get-remove nat_list_cmp_total m (key n) (key j) ∙ ap (λ b. cond b None (get m (key j))) (ap (λ i. same_key (key i) (key n)) e ∙ key_itself (key n)))
  | inr d ↦ gone key (suc n) ts (remove m (key n)) j (omega (arith, d, ge)) (omega (arith, lt))
]

other_stripped : (key : ℕ → Bytes) (n : ℕ) (ts : List Bytes) (m : Elements) (q : Bytes) → IsOther key n ts q → get (stripped key n ts m) q ≡ get m q
other_stripped key n [] m q d = refl
other_stripped key n (t ∷ ts) m q d =
    other_stripped key (suc n) ts (remove m (key n)) q (λ j ge lt. d j (omega (arith, ge)) (omega (arith, lt)))
    ∙ (get-remove nat_list_cmp_total m (key n) q ∙ ap (λ b. cond b None (get m q)) (differs q (key n) (d n (omega arith) (omega arith))))

same_go : (b : Bool) (s o p : Option Value) → (b ≡ false → o ≡ p) → cond b s o ≡ cond b s p
same_go true s o p h = refl
same_go false s o p h = h refl

-- what else stands there matters at other keys alone
same_filled : (key : ℕ → Bytes) (n : ℕ) (ts : List Bytes) (m r : Elements) → ((q : Bytes) → IsOther key n ts q → get m q ≡ get r q) → (q : Bytes) → get (filled key n ts m) q ≡ get (filled key n ts r) q
same_filled key n [] m r h q = h q (λ j ge lt. absurd (omega (arith, ge, lt)))
same_filled key n (t ∷ ts) m r h q = same_filled key (suc n) ts (insert m (key n) (Input t)) (insert r (key n) (Input t)) (λ p d.
    get-insert nat_list_cmp_total m (key n) (Input t) p
    ∙ (same_go (same_key p (key n)) (Some (Input t)) (get m p) (get r p) (λ not_here. h p (λ j ge lt e. elim (cases_eq j n) [
      | inl is ↦ absurd (false≢true (sym not_here ∙ (ap (λ k. same_key k (key n)) (e ∙ ap key is) ∙ key_itself (key n))))
      | inr ne ↦ d j (omega (arith, ne, ge)) (omega (arith, lt)) e
    ]))
    ∙ sym (get-insert nat_list_cmp_total r (key n) (Input t) p))) q

without_old : (key : ℕ → Bytes) (n : ℕ) (ts : List Bytes) (m : Elements) → filled key n ts m ≡ filled key n ts (stripped key n ts m)
without_old key n ts m = same_map nat_list_cmp_total exact_bytes (filled key n ts m) (filled key n ts (stripped key n ts m)) (same_filled key n ts m (stripped key n ts m) (λ q d. sym (other_stripped key n ts m q d)))

-- how many elements there are where none stood at these keys
len_filled : (key : ℕ → Bytes) → AreApart key → (n : ℕ) (ts : List Bytes) (m : Elements) → 0 < n → ((j : ℕ) → n ≤ j → j < n + length ts → get m (key j) ≡ None) → len (filled key n ts m) ≡ len m + length ts
len_filled key apart n [] m p none = omega arith
len_filled key apart n (t ∷ ts) m p none =
    let rest : len (filled key (suc n) ts (insert m (key n) (Input t))) ≡ len (insert m (key n) (Input t)) + length ts = len_filled key apart (suc n) ts (insert m (key n) (Input t)) (omega arith) (λ j ge lt.
    get-insert nat_list_cmp_total m (key n) (Input t) (key j)
    ∙ (ap (λ b. cond b (Some (Input t)) (get m (key j))) (differs (key j) (key n) (λ e. let same : j ≡ n = apart j n (omega (arith, ge)) p e in absurd (omega (arith, same, ge))))
    ∙ none j (omega (arith, ge)) (omega (arith, lt)))) in
    let one : len (insert m (key n) (Input t)) ≡ len m + 1 = len-insert nat_list_cmp_total m (key n) (Input t) ∙ ap (λ o. cond (is_some o) (len m) (len m + 1)) (none n (omega arith) (omega arith)) in
    omega (arith, rest, one)

-- as many elements as texts are those with the texts
refilled : (key : ℕ → Bytes) → AreApart key → (ts : List Bytes) (m : Elements) → len (filled key 1 ts m) ≡ length ts → filled key 1 ts m ≡ filled key 1 ts no_elements
refilled key apart ts m h =
    let old : Elements = stripped key 1 ts m in
    let same : filled key 1 ts m ≡ filled key 1 ts old = without_old key 1 ts m in
    let count : len (filled key 1 ts old) ≡ len old + length ts = len_filled key apart 1 ts old (omega arith) (gone key 1 ts m) in
    let none : old ≡ no_elements = empty_of_len old (omega (arith, count, ap (λ (e : Elements). len e) same, h)) in
    same ∙ ap (filled key 1 ts) none

-- ---- all arrays

numbered_is : (a n : ℕ) (ts : List Bytes) (arrays : List Elements) → a < length arrays → numbered a n ts arrays ≡ set arrays a (filled key n ts (array_at a arrays))
numbered_is a n [] arrays lt = sym (set-get_or arrays a no_elements)
numbered_is a n (t ∷ ts) arrays lt =
    let m : Elements = insert (array_at a arrays) (key n) (Input t) in
    numbered_is a (suc n) ts (set arrays a m) (omega (arith, lt, length-set arrays a m))
    ∙ (ap (λ (e : Elements). set (set arrays a m) a (filled key (suc n) ts e)) (get_or-set_same arrays a m no_elements lt) ∙ set-set arrays a m (filled key (suc n) ts m))

-- an array that takes texts, and has as many elements then, has no others; where there is no such array, nothing changes anyway
pub numbered_alone : (a : ℕ) (ts : List Bytes) (arrays : List Elements) → len (array_at a (numbered a 1 ts arrays)) ≡ length ts → numbered a 1 ts arrays ≡ numbered a 1 ts (cleared a arrays)
numbered_alone a ts arrays h = elim (cases_lt a (length arrays)) [
  | inl lt ↦
      let m : Elements = array_at a arrays in
      let is : numbered a 1 ts arrays ≡ set arrays a (filled key 1 ts m) = numbered_is a 1 ts arrays lt in
      let count : len (filled key 1 ts m) ≡ length ts = sym (ap (λ (xs : List Elements). len (array_at a xs)) is ∙ ap (λ (e : Elements). len e) (get_or-set_same arrays a (filled key 1 ts m) no_elements lt)) ∙ h in
      is
      ∙ (ap (set arrays a) (refilled key keys_differ ts m count)
      ∙ sym (numbered_is a 1 ts (cleared a arrays) (omega (arith, lt, length-set arrays a no_elements))
      ∙ (ap (λ (e : Elements). set (cleared a arrays) a (filled key 1 ts e)) (get_or-set_same arrays a no_elements no_elements lt) ∙ set-set arrays a no_elements (filled key 1 ts no_elements))))
  | inr ge ↦ ap (numbered a 1 ts) (sym (set_past arrays a no_elements ge))
]

-- nothing is left of texts where the array is cleared
pub cleared_numbered : (a n : ℕ) (ts : List Bytes) (arrays : List Elements) → cleared a (numbered a n ts arrays) ≡ cleared a arrays
cleared_numbered a n [] arrays = refl
cleared_numbered a n (t ∷ ts) arrays =
    let m : Elements = insert (array_at a arrays) (key n) (Input t) in
    cleared_numbered a (suc n) ts (set arrays a m) ∙ set-set arrays a m no_elements

-- ---- results

pub on_ok : {A E : Type 0} (r : Result A E) (P Q : Type 0) → (P → Q) → OnOk r P → OnOk r Q
on_ok (Ok x) P Q f p = f p
on_ok (Err e) P Q f p = tt
