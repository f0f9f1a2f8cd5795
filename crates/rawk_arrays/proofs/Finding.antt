-- The keys of an array, as a walk finds them.
use Rattle.std.proofs.Common.{◌≡◌, ◌≢◌, ℕ, ◌+◌, ◌<◌, ◌≤◌, suc, Bool, true, false, cond, ◌&&◌, subst, add-one, nat_lt, add-zero, zero-add, List, [], ◌∷◌, ◌++◌, inl, inr, length, map, refl, sym, ap, ◌∙◌, arith, get_or, slice_get, Option, None, Some}
use Rattle.std.specs.Prelude.{All, is_some, T}
use Rattle.std.specs.List.{sum_by}
use Rattle.std.specs.List.Sorted.{IsPermutation, IsSorted}
use Rattle.std.proofs.lemmas.List.Sorted.{All-permutation, sum_by-IsPermutation}
use Rattle.std.proofs.lemmas.List.Elements.{All-get_or}
use Rattle.std.proofs.lemmas.Bool.{cases_lt, false≢true}
use Rattle.std.proofs.lemmas.List.Sums.{sum_by_push, sum_by-cons}
use Rattle.std.proofs.lemmas.Bool.Decides.{Decides-ltb}
use Rattle.std.proofs.lemmas.List.{get_or_past, get_or-map, length-append, length-map, append-nil}
use Rattle.std.proofs.lemmas.Option.{same_Some}
use Rattle.std.specs.FinMap.{get, get-empty, contains_key, find, from_sorted, get-from_sorted, entries-from_sorted, is_sorted, same_map}
use Rattle.std.specs.FinMap.Entries.{below_all}
use Rattle.std.specs.declared.cmp.Ordering.{Ordering}
use Rattle.std.specs.declared.cmp.Ordering.TheVariants.{Less, Equal, Greater}
use Rattle.std.specs.Option.{unwrap_or}
use Rattle.std.specs.Ordering.{nat_cmp, is_lt, is_eq, ordering_reverse}
use Rattle.std.specs.Cmp.Lexicographic.{slice_cmp, nat_list_cmp_total}
use Rattle.std.proofs.lemmas.Map.Lookups.{exact_bytes}
use Rattle.rawk_value.specs.declared.value.Value.TheVariants.{Uninitialized}
use Rattle.rawk_arrays.specs.Elements.{Elements, map_keys, no_elements}
use Rattle.rawk_value.specs.Values.{Bytes}
use Rattle.rawk_value.specs.declared.value.Value.{Value}
use Rattle.rawk_keys.specs.ArrayKey.{ArrayKey, array_key, IsLastOf}
use Rattle.rawk_keys.specs.Found.{left}
use Rattle.rawk_arrays.specs.declared.heads.HeadedKey.{HeadedKey}
use Rattle.rawk_arrays.specs.Heads.{IsHeaded, headed_keys}
use Rattle.rawk_arrays.specs.Place.{same_key, place}
use Rattle.rawk_arrays.specs.Laid.{AreDistinct, elements_of, slot}
use Rattle.rawk_arrays.specs.Walks.{IsWalking, IsFinding, IsEach, is_seen, one, times}
use Rattle.rawk_arrays.specs.PlaceLaws.{place_there, place_is, get_at, key_is, key_itself}
use Rattle.rawk_arrays.proofs.Heading.{headed_cmp, not_less_by_key}
use Rattle.rawk_arrays.proofs.Emptying.{walk_name, walk_in, last_left}

pub times_push : (q k : Bytes) (ks : List Bytes) → times q (ks ++ k ∷ []) ≡ times q ks + one (same_key q k)
times_push q k ks = sum_by_push (λ x. one (same_key q x)) ks k

pub before : (p from : ℕ) → p < from → nat_lt p from ≡ true
before p from lt = (Decides-ltb p from).1 lt

pub not_before : (p from : ℕ) → from ≤ p → nat_lt p from ≡ false
not_before p from le = go (nat_lt p from) refl
  where
    go : (b : Bool) → nat_lt p from ≡ b → nat_lt p from ≡ false
    go true e = absurd (omega (arith, (Decides-ltb p from).0 e))
    go false e = e

-- past the last slot nothing is filled
past_slot : (index : List ArrayKey) (slots : List (Option Value)) (p : ℕ) → length slots ≤ length index → length index ≤ p → slot slots p ≡ None
past_slot index slots p le ge = get_or_past slots p None (omega (arith, le, ge))

unseen : (from p : ℕ) (s : Option Value) → s ≡ None → is_seen from p s ≡ false
unseen from p s e = ap (is_seen from p) e ∙ go (nat_lt p from)
  where
    go : (b : Bool) → cond b false false ≡ false
    go true = refl
    go false = refl

seen_past : (from p : ℕ) (s : Option Value) → from ≤ p → is_seen from p s ≡ is_some s
seen_past from p s le = ap (λ (b : Bool). cond b false (is_some s)) (not_before p from le)

seen_before : (from p : ℕ) (s : Option Value) → p < from → is_seen from p s ≡ false
seen_before from p s lt = ap (λ (b : Bool). cond b false (is_some s)) (before p from lt)

-- the name of a key of the array does not stand between where a walk stands and where it goes on
between : (a : ℕ) (q : Bytes) (index : List ArrayKey) (n : ℕ) (at : Option ℕ) → n ≤ length index → IsLastOf a index n at → left at ≤ place a q index → n ≤ place a q index
between a q index n None le h ge = elim (cases_lt (place a q index) n) [
  | inl lt ↦ absurd (h (place a q index) (array_key a q) lt (place_there a q index (omega (arith, lt, le))) refl)
  | inr ok ↦ ok
]
between a q index n (Some k) le h ge = elim (cases_lt (place a q index) n) [
  | inl lt ↦ absurd (h.2 (place a q index) (array_key a q) (omega (arith, ge)) lt (place_there a q index (omega (arith, lt, le))) refl)
  | inr ok ↦ ok
]

-- the walk begins with nothing found
pub finding_begins : (a : ℕ) (index : List ArrayKey) (slots : List (Option Value)) (at : Option ℕ) → length slots ≤ length index → IsLastOf a index (length index) at → IsFinding a index slots at []
finding_begins a index slots at le last = record {
  each = λ q. sym (ap one (elim (cases_lt (place a q index) (left at)) [
    | inl lt ↦ seen_before (left at) (place a q index) (slot slots (place a q index)) lt
    | inr ge ↦ unseen (left at) (place a q index) (slot slots (place a q index)) (past_slot index slots (place a q index) le (between a q index (length index) at (omega arith) last ge))
  ]));
  room = let k : left at ≤ length index = last_left a index (length index) at last in omega arith;
}

-- the key of a slot, if it is filled
abbrev pub filled_key : Option Value → Bytes → List Bytes
filled_key s key = cond (is_some s) (key ∷ []) []

more_keys : (s : Option Value) (key : Bytes) (keys : List Bytes) (q : Bytes) → times q (keys ++ filled_key s key) ≡ times q keys + one (cond (is_some s) (same_key q key) false)
more_keys s key keys q = go (is_some s)
  where
    go : (b : Bool) → times q (keys ++ cond b (key ∷ []) []) ≡ times q keys + one (cond b (same_key q key) false)
    go true = times_push q key keys
    go false = ap (times q) (append-nil keys) ∙ sym (add-zero (times q keys))

fewer_keys : (s : Option Value) (key : Bytes) (keys : List Bytes) → length (keys ++ filled_key s key) ≤ length keys + 1
fewer_keys s key keys = go (is_some s)
  where
    go : (b : Bool) → length (keys ++ cond b (key ∷ []) []) ≤ length keys + 1
    go true = omega (arith, length-append keys (key ∷ []))
    go false = omega (arith, length-append {A = Bytes} keys [])

-- one turn of the walk, at the key q
turn : (a i : ℕ) (q key : Bytes) (index : List ArrayKey) (slots : List (Option Value)) (at : Option ℕ) → AreDistinct index → slice_get index i ≡ Some (array_key a key) → i < length index → IsLastOf a index i at →
    one (is_seen (i + 1) (place a q index) (slot slots (place a q index))) + one (cond (is_some (slot slots i)) (same_key q key) false) ≡ one (is_seen (left at) (place a q index) (slot slots (place a q index)))
turn a i q key index slots at d is within last = go (same_key q key) refl
  where
    p : ℕ
    p = place a q index

    go : (b : Bool) → same_key q key ≡ b → one (is_seen (i + 1) (place a q index) (slot slots (place a q index))) + one (cond (is_some (slot slots i)) (same_key q key) false) ≡ one (is_seen (left at) (place a q index) (slot slots (place a q index)))
    go true e =
        let here : place a q index ≡ i = ap (λ (k : Bytes). place a k index) (key_is q key e) ∙ place_is a key index i d is in
        let k : left at ≤ i = last_left a index i at last in
        let old : is_seen (i + 1) (place a q index) (slot slots (place a q index)) ≡ false = seen_before (i + 1) (place a q index) (slot slots (place a q index)) (omega arith) in
        let new : is_seen (left at) (place a q index) (slot slots (place a q index)) ≡ is_some (slot slots i) = seen_past (left at) (place a q index) (slot slots (place a q index)) (omega arith) ∙ ap (λ n. is_some (slot slots n)) here in
        rw (old, new, e) (here_one (is_some (slot slots i)))
      where
        here_one : (b : Bool) → one false + one (cond b true false) ≡ one b
        here_one true = refl
        here_one false = refl
    go false e =
        let apart : place a q index ≢ i = λ at_i.
        let same : q ≡ key = ap (λ (n : ArrayKey). n.key) (same_Some (array_key a q) (array_key a key) (sym (ap (slice_get index) (sym at_i) ∙ place_there a q index (omega (arith, at_i, within))) ∙ is)) in
        false≢true (sym e ∙ (ap (same_key q) (sym same) ∙ key_itself q)) in
        let k : left at ≤ i = last_left a index i at last in
        let same : is_seen (i + 1) (place a q index) (slot slots (place a q index)) ≡ is_seen (left at) (place a q index) (slot slots (place a q index)) = elim (cases_lt (place a q index) (left at)) [
          | inl lt ↦ seen_before (i + 1) (place a q index) (slot slots (place a q index)) (omega (arith, lt, k)) ∙ sym (seen_before (left at) (place a q index) (slot slots (place a q index)) lt)
          | inr ge ↦
              let past : i ≤ place a q index = between a q index i at (omega arith) last ge in
              seen_past (i + 1) (place a q index) (slot slots (place a q index)) (omega (arith, past, apart)) ∙ sym (seen_past (left at) (place a q index) (slot slots (place a q index)) ge)
        ] in
        rw (same, e) (none_more (is_some (slot slots i)) (one (is_seen (left at) (place a q index) (slot slots (place a q index)))))
      where
        none_more : (b : Bool) (n : ℕ) → n + one (cond b false false) ≡ n
        none_more true n = omega arith
        none_more false n = omega arith

pub finding_next : (a i : ℕ) (index : List ArrayKey) (slots : List (Option Value)) (here at : Option ℕ) (keys more : List Bytes) → AreDistinct index → here ≡ Some i → IsWalking a index here → IsFinding a index slots here keys →
    ((name : ArrayKey) → slice_get index i ≡ Some name → more ≡ keys ++ filled_key (slot slots i) name.key) → IsLastOf a index i at → IsFinding a index slots at more
finding_next a i index slots here at keys more d e w f is last =
    let n = walk_name a index i here e w in
    let there : slice_get index i ≡ Some (array_key a n.0.key) = n.1 ∙ ap (λ x. Some (array_key x n.0.key)) n.2 in
    let t : IsFinding a index slots (Some i) keys = rw e at f in
    let lt : i < length index = walk_in a index i here e w in
    record {
      each = λ q. ap (times q) (is n.0 n.1) ∙ (more_keys (slot slots i) n.0.key keys q ∙ (ap (λ x. x + one (cond (is_some (slot slots i)) (same_key q n.0.key) false)) (t.each q) ∙ turn a i q n.0.key index slots at d there lt last));
      room = omega (arith, t.room, ap length (is n.0 n.1), fewer_keys (slot slots i) n.0.key keys, last_left a index i at last);
    }

-- the walk is over
pub found_all : (a : ℕ) (index : List ArrayKey) (slots : List (Option Value)) (at : Option ℕ) (keys : List Bytes) → at ≡ None → length slots ≤ length index → IsFinding a index slots at keys → IsEach keys (elements_of a index slots)
found_all a index slots at keys e le f = λ q.
    let t : IsFinding a index slots None keys = rw e at f in
    t.each q ∙ ap one (seen_past 0 (place a q index) (slot slots (place a q index)) (omega arith) ∙ ap is_some (sym (get_at a q index slots le)))

-- ---- lists of an array's keys

abbrev pub value_at : Elements → Bytes → Value
value_at m k = unwrap_or (get m k) Uninitialized

abbrev pub pairs : Elements → List Bytes → List (Bytes × Value)
pairs m ks = map {A = Bytes} {B = Bytes × Value} (λ k. (k, value_at m k)) ks

pub keys_of_pairs : (m : Elements) (ks : List Bytes) → map (λ (e : Bytes × Value). e.0) (pairs m ks) ≡ ks
keys_of_pairs m [] = refl
keys_of_pairs m (k ∷ ks) = ap (λ (xs : List Bytes). k ∷ xs) (keys_of_pairs m ks)

pub times_cons : (q k : Bytes) (ks : List Bytes) → times q (k ∷ ks) ≡ one (same_key q k) + times q ks
times_cons q k ks = sum_by-cons (λ x. one (same_key q x)) k ks

find_go : (m : Elements) (q k : Bytes) (ks : List Bytes) (b : Bool) → same_key q k ≡ b → find (slice_cmp nat_cmp) q (pairs m ks) ≡ cond (nat_lt 0 (times q ks)) (Some (value_at m q)) None →
    cond (same_key q k) (Some (value_at m k)) (find (slice_cmp nat_cmp) q (pairs m ks)) ≡ cond (nat_lt 0 (times q (k ∷ ks))) (Some (value_at m q)) None
find_go m q k ks true e h =
    let some : nat_lt 0 (times q (k ∷ ks)) ≡ true = before 0 (times q (k ∷ ks)) (omega (arith, times_cons q k ks, ap one e)) in
    ap (λ b. cond b (Some (value_at m k)) (find (slice_cmp nat_cmp) q (pairs m ks))) e
    ∙ (ap (λ (x : Bytes). Some (value_at m x)) (sym (key_is q k e)) ∙ ap (λ b. cond b (Some (value_at m q)) None) (sym some))
find_go m q k ks false e h =
    let same : times q (k ∷ ks) ≡ times q ks = times_cons q k ks ∙ (ap (λ b. one b + times q ks) e ∙ zero-add (times q ks)) in
    ap (λ b. cond b (Some (value_at m k)) (find (slice_cmp nat_cmp) q (pairs m ks))) e ∙ (h ∙ ap (λ n. cond (nat_lt 0 n) (Some (value_at m q)) None) (sym same))

pub find_pairs : (m : Elements) (q : Bytes) (ks : List Bytes) → find (slice_cmp nat_cmp) q (pairs m ks) ≡ cond (nat_lt 0 (times q ks)) (Some (value_at m q)) None
find_pairs m q [] = refl
find_pairs m q (k ∷ ks) = find_go m q k ks (same_key q k) refl (find_pairs m q ks)

pub found_value : (m : Elements) (q : Bytes) (n : ℕ) → n ≡ one (contains_key m q) → cond (nat_lt 0 n) (Some (value_at m q)) None ≡ get m q
found_value m q n e = ap (λ x. cond (nat_lt 0 x) (Some (unwrap_or (get m q) Uninitialized)) None) e ∙ out (get m q)
  where
    out : (o : Option Value) → cond (nat_lt 0 (one (is_some o))) (Some (unwrap_or o Uninitialized)) None ≡ o
    out None = refl
    out (Some v) = refl

pair_true : (b c : Bool) → T b → T c → T (b && c)
pair_true true c p q = q
pair_true false c p q = p

left_true : (b c : Bool) → T (b && c) → T b
left_true true c p = tt
left_true false c p = p

right_true : (b c : Bool) → T (b && c) → T c
right_true true c p = p
right_true false c p = absurd p

less_true : (o : Ordering) → o ≡ Less → T (is_lt o)
less_true o e = subst (λ r. T (is_lt r)) (sym e) tt

true_less : (o : Ordering) → T (is_lt o) → o ≡ Less
true_less Less p = refl
true_less Equal p = absurd p
true_less Greater p = absurd p

once : (ks : List Bytes) (m : Elements) → IsEach ks m → (q : Bytes) → times q ks ≤ 1
once ks m each q = go (contains_key m q) (each q)
  where
    go : (b : Bool) → times q ks ≡ one b → times q ks ≤ 1
    go true e = omega (arith, e)
    go false e = omega (arith, e)

-- ---- keys in byte order

below_more : (m : Elements) (k x : Bytes) (ks : List Bytes) → slice_cmp nat_cmp k x ≡ Less → T (below_all (slice_cmp nat_cmp) x (pairs m ks)) → T (below_all (slice_cmp nat_cmp) k (pairs m ks))
below_more m k x [] p h = tt
below_more m k x (y ∷ ks) p h = pair_true (is_lt (slice_cmp nat_cmp k y)) (below_all (slice_cmp nat_cmp) k (pairs m ks))
    (less_true (slice_cmp nat_cmp k y) (nat_list_cmp_total.trans k x y p (true_less (slice_cmp nat_cmp x y) (left_true (is_lt (slice_cmp nat_cmp x y)) (below_all (slice_cmp nat_cmp) x (pairs m ks)) h))))
    (below_more m k x ks p (right_true (is_lt (slice_cmp nat_cmp x y)) (below_all (slice_cmp nat_cmp) x (pairs m ks)) h))

rises : (k x : Bytes) (ks : List Bytes) → times k (k ∷ x ∷ ks) ≤ 1 → is_lt (slice_cmp nat_cmp x k) ≡ false → slice_cmp nat_cmp k x ≡ Less
rises k x ks few up = go (slice_cmp nat_cmp k x) refl
  where
    go : (o : Ordering) → slice_cmp nat_cmp k x ≡ o → slice_cmp nat_cmp k x ≡ Less
    go Less e = e
    go Equal e =
        let same : same_key k x ≡ true = ap is_eq e in
        absurd (omega (arith, few, times_cons k k (x ∷ ks), times_cons k x ks, ap one (key_itself k), ap one same))
    go Greater e = absurd (false≢true (sym up ∙ ap is_lt (nat_list_cmp_total.antisymm x k ∙ ap ordering_reverse e)))

sorted_pairs : (m : Elements) (ks : List Bytes) → ((q : Bytes) → times q ks ≤ 1) → ((i : ℕ) → suc i < length ks → is_lt (slice_cmp nat_cmp (get_or ks (suc i) []) (get_or ks i [])) ≡ false) → T (is_sorted (slice_cmp nat_cmp) (pairs m ks))
sorted_pairs m [] h up = tt
sorted_pairs m (k ∷ []) h up = tt
sorted_pairs m (k ∷ x ∷ ks) h up =
    let rest : T (is_sorted (slice_cmp nat_cmp) (pairs m (x ∷ ks))) = sorted_pairs m (x ∷ ks) (λ q. omega (arith, h q, times_cons q k (x ∷ ks))) (λ i lt. up (suc i) (omega arith)) in
    let less : slice_cmp nat_cmp k x ≡ Less = rises k x ks (h k) (up 0 (omega arith)) in
    pair_true (below_all (slice_cmp nat_cmp) k (pairs m (x ∷ ks))) (is_sorted (slice_cmp nat_cmp) (pairs m (x ∷ ks)))
    (pair_true (is_lt (slice_cmp nat_cmp k x)) (below_all (slice_cmp nat_cmp) k (pairs m ks)) (less_true (slice_cmp nat_cmp k x) less) (below_more m k x ks less (left_true (below_all (slice_cmp nat_cmp) x (pairs m ks)) (is_sorted (slice_cmp nat_cmp) (pairs m ks)) rest)))
    rest

-- a list of the keys, each once, in byte order
pub keys_are : (m : Elements) (ks : List Bytes) → IsEach ks m → ((i : ℕ) → suc i < length ks → is_lt (slice_cmp nat_cmp (get_or ks (suc i) []) (get_or ks i [])) ≡ false) → ks ≡ map_keys m
keys_are m ks each up =
    let sorted : T (is_sorted (slice_cmp nat_cmp) (pairs m ks)) = sorted_pairs m ks (once ks m each) up in
    let same : from_sorted (pairs m ks) ≡ m = same_map nat_list_cmp_total exact_bytes (from_sorted (pairs m ks)) m (λ q. get-from_sorted (slice_cmp nat_cmp) (pairs m ks) q sorted ∙ (find_pairs m q ks ∙ found_value m q (times q ks) (each q))) in
    sym (keys_of_pairs m ks) ∙ (ap (λ (es : List (Bytes × Value)). map (λ e. e.0) es) (sym (entries-from_sorted (slice_cmp nat_cmp) (pairs m ks) sorted)) ∙ ap map_keys same)

times_headed : (q : Bytes) (hs : List HeadedKey) → times q (headed_keys hs) ≡ sum_by (λ (h : HeadedKey). one (same_key q h.key.now)) hs
times_headed q [] = refl
times_headed q (h ∷ hs) = times_cons q h.key.now (headed_keys hs) ∙ (ap (λ n. one (same_key q h.key.now) + n) (times_headed q hs) ∙ sym (sum_by-cons (λ (h : HeadedKey). one (same_key q h.key.now)) h hs))

rising : (d : HeadedKey) (ys : List HeadedKey) (i : ℕ) → suc i < length ys → All IsHeaded ys → is_lt (headed_cmp (get_or ys (i + 1) d) (get_or ys i d)) ≡ false →
    is_lt (slice_cmp nat_cmp (get_or (headed_keys ys) (suc i) []) (get_or (headed_keys ys) i [])) ≡ false
rising d ys i lt all up =
    let next : get_or (headed_keys ys) (suc i) [] ≡ (get_or ys (i + 1) d).key.now = get_or-map (λ (h : HeadedKey). h.key.now) ys (suc i) d [] lt ∙ ap (λ j. (get_or ys j d).key.now) (sym (add-one i)) in
    let here : get_or (headed_keys ys) i [] ≡ (get_or ys i d).key.now = get_or-map (λ (h : HeadedKey). h.key.now) ys i d [] (omega (arith, lt)) in
    let apart : is_lt (slice_cmp nat_cmp (get_or ys (i + 1) d).key.now (get_or ys i d).key.now) ≡ false =
    not_less_by_key (get_or ys (i + 1) d) (get_or ys i d) (All-get_or IsHeaded ys (i + 1) d (omega (arith, lt)) all) (All-get_or IsHeaded ys i d (omega (arith, lt)) all) up in
    ap (λ (x : Bytes). is_lt (slice_cmp nat_cmp x (get_or (headed_keys ys) i []))) next ∙ (ap (λ (x : Bytes). is_lt (slice_cmp nat_cmp (get_or ys (i + 1) d).key.now x)) here ∙ apart)

rising_all : (ys : List HeadedKey) → All IsHeaded ys → IsSorted headed_cmp ys → (i : ℕ) → suc i < length (headed_keys ys) → is_lt (slice_cmp nat_cmp (get_or (headed_keys ys) (suc i) []) (get_or (headed_keys ys) i [])) ≡ false
rising_all [] all up i lt = absurd (omega (arith, lt))
rising_all (h ∷ hs) all up i lt =
    let size : length (headed_keys (h ∷ hs)) ≡ length (h ∷ hs) = length-map (h ∷ hs) (λ (k : HeadedKey). k.key.now) in
    rising h (h ∷ hs) i (omega (arith, lt, size)) all (up i h (omega arith) (omega (arith, lt, size)))

-- a sorted permutation of the keys
pub sorted_keys : (m : Elements) (xs ys : List HeadedKey) → IsEach (headed_keys xs) m → All IsHeaded xs → IsPermutation xs ys → IsSorted headed_cmp ys → headed_keys ys ≡ map_keys m
sorted_keys m xs ys each all moved up = keys_are m (headed_keys ys)
    (λ q. times_headed q ys ∙ (sum_by-IsPermutation (λ (h : HeadedKey). one (same_key q h.key.now)) xs ys moved ∙ (sym (times_headed q xs) ∙ each q)))
    (rising_all ys (All-permutation IsHeaded xs ys moved all) up)

pub no_keys : map_keys no_elements ≡ []
no_keys = sym (keys_are no_elements [] (λ q. sym (ap (λ (o : Option Value). one (is_some o)) (get-empty (slice_cmp nat_cmp) q))) (λ i lt. absurd (omega (arith, lt))))
