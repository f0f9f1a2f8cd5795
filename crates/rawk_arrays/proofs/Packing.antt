-- Arrays that are put into other index and slots.
use Rattle.std.proofs.Common.{◌≡◌, ◌≢◌, ℕ, suc, zero, ◌+◌, ◌<◌, ◌≤◌, ◌==◌, Bool, true, false, cond, List, [], ◌∷◌, ◌++◌, inl, inr, length, get_or, set, take, drop, refl, sym, ap, ◌∙◌, arith, slice_get, Option, None, Some}
use Rattle.std.proofs.lemmas.Bool.{cases_eq}
use Rattle.std.proofs.lemmas.Bool.Decides.{Decides-eqb}
use Rattle.std.proofs.lemmas.List.{length-append, length-take-le, take_more, take_all, take-append-drop}
use Rattle.std.proofs.lemmas.Option.{slice_get-get_or, none-some}
use Rattle.rawk_value.specs.declared.value.Value.{Value}
use Rattle.rawk_keys.specs.ArrayKey.{ArrayKey, array_key}
use Rattle.rawk_arrays.specs.Elements.{Elements, put}
use Rattle.rawk_arrays.specs.Laid.{AreDistinct, IsLaid, IsPacked, IsPut, IsSpread, elements_of, slot, with_slot}
use Rattle.rawk_arrays.specs.PlaceLaws.{put_at, spread_same, spread_nones}

eq_false : (m n : ℕ) → m ≢ n → (m == n) ≡ false
eq_false m n ne = go (m == n) refl
  where
    go : (b : Bool) → (m == n) ≡ b → (m == n) ≡ false
    go true e = absurd (ne ((Decides-eqb m n).0 e))
    go false e = e

-- a slot of another array
slot_apart : (b : ℕ) (name : ArrayKey) (s : Option Value) (m : Elements) → name.array ≢ b → m ≡ with_slot b name s m
slot_apart b name None m ne = refl
slot_apart b name (Some v) m ne = ap (λ t. cond t (put m name.key (Some v)) m) (sym (eq_false name.array b ne))

slot_own : (b : ℕ) (name : ArrayKey) (v : Value) (m : Elements) → name.array ≡ b → put m name.key (Some v) ≡ with_slot b name (Some v) m
slot_own b name v m e = ap (λ t. cond t (put m name.key (Some v)) m) (sym ((Decides-eqb name.array b).1 e))

pub packed_put : (live : ℕ) (name : ArrayKey) (s : Option Value) (v : Value) (index new_names : List ArrayKey) (slots new_slots : List (Option Value)) → s ≡ Some v → IsPut name.array name.key (Some v) index slots new_names new_slots → IsPacked live name s index slots new_names new_slots
packed_put live name s v index new_names slots new_slots e p = λ b lt.
    elim (cases_eq name.array b) [
      | inl q ↦
          ap (λ n. elements_of n new_names new_slots) (sym q)
          ∙ (p.here ∙ (ap (λ n. put (elements_of n index slots) name.key (Some v)) q ∙ slot_own b name v (elements_of b index slots) q))
      | inr d ↦ p.other b (λ q. d (sym q)) ∙ slot_apart b name (Some v) (elements_of b index slots) d
    ] ∙ ap (λ (o : Option Value). with_slot b name o (elements_of b index slots)) (sym e)

set_seam : (xs : List (Option Value)) (y v : Option Value) → set (xs ++ y ∷ []) (length xs) v ≡ xs ++ v ∷ []
set_seam [] y v = refl
set_seam (x ∷ xs) y v = ap (λ (zs : List (Option Value)). x ∷ zs) (set_seam xs y v)

get_seam : (xs : List ArrayKey) (y : ArrayKey) → slice_get (xs ++ y ∷ []) (length xs) ≡ Some y
get_seam [] y = refl
get_seam (x ∷ xs) y = get_seam xs y

get_front : (xs ys : List ArrayKey) (i : ℕ) (x : ArrayKey) → slice_get xs i ≡ Some x → slice_get (xs ++ ys) i ≡ Some x
get_front [] ys i x e = absurd (none-some x e)
get_front (y ∷ xs) ys zero x e = e
get_front (y ∷ xs) ys (suc i) x e = get_front xs ys i x e

distinct_front : (xs ys : List ArrayKey) → AreDistinct (xs ++ ys) → AreDistinct xs
distinct_front xs ys d = λ i j x p q. d i j x (get_front xs ys i x p) (get_front xs ys j x q)

-- one more name with its slot at the end
slot_more : (live : ℕ) (index : List ArrayKey) (slots : List (Option Value)) (name : ArrayKey) (s : Option Value) → length slots ≡ length index → AreDistinct (index ++ name ∷ []) → IsPacked live name s index slots (index ++ name ∷ []) (slots ++ s ∷ [])
slot_more live index slots name s size d = go s refl
  where
    spread : IsSpread slots (slots ++ None ∷ [])
    spread = spread_nones slots (slots ++ None ∷ []) 1 refl

    le2 : length (slots ++ None ∷ []) ≤ length (index ++ name ∷ [])
    le2 = omega (arith, size, length-append slots (None ∷ []), length-append index (name ∷ []))

    same : (b : ℕ) → elements_of b (index ++ name ∷ []) (slots ++ None ∷ []) ≡ elements_of b index slots
    same b = spread_same b index (name ∷ []) slots (slots ++ None ∷ []) (omega (arith, size)) spread

    go : (o : Option Value) → s ≡ o → IsPacked live name s index slots (index ++ name ∷ []) (slots ++ s ∷ [])
    go None e = λ b lt. ap (λ (o : Option Value). elements_of b (index ++ name ∷ []) (slots ++ o ∷ [])) e ∙ (same b ∙ ap (λ (o : Option Value). with_slot b name o (elements_of b index slots)) (sym e))
    go (Some v) e =
        let there : slice_get (index ++ name ∷ []) (length slots) ≡ Some (array_key name.array name.key) = ap (slice_get (index ++ name ∷ [])) size ∙ get_seam index name in
        let p : IsPut name.array name.key (Some v) (index ++ name ∷ []) (slots ++ None ∷ []) (index ++ name ∷ []) (set (slots ++ None ∷ []) (length slots) (Some v)) =
        put_at name.array name.key (Some v) (index ++ name ∷ []) (slots ++ None ∷ []) (length slots) d le2 there (omega (arith, length-append slots (None ∷ []))) in
        let new : slots ++ s ∷ [] ≡ set (slots ++ None ∷ []) (length slots) (Some v) = ap (λ (o : Option Value). slots ++ o ∷ []) e ∙ sym (set_seam slots None (Some v)) in
        packed_put live name s v index (index ++ name ∷ []) slots (slots ++ s ∷ []) e (record {
          here = ap (elements_of name.array (index ++ name ∷ [])) new ∙ (p.here ∙ ap (λ (m : Elements). put m name.key (Some v)) (same name.array));
          other = λ b ne. ap (elements_of b (index ++ name ∷ [])) new ∙ (p.other b ne ∙ same b);
        })

-- one turn of the loop
pub packed_next : (live : ℕ) (index : List ArrayKey) (slots : List (Option Value)) (i : ℕ) (old_names new_names : List ArrayKey) (old new : List (Option Value)) → IsLaid index slots → i < length slots →
    ((b : ℕ) → b < live → elements_of b old_names old ≡ elements_of b (take i index) (take i slots)) → ((name : ArrayKey) → slice_get index i ≡ Some name → IsPacked live name (slot slots i) old_names old new_names new) →
    (b : ℕ) → b < live → elements_of b new_names new ≡ elements_of b (take (i + 1) index) (take (i + 1) slots)
packed_next live index slots i old_names new_names old new laid lt before step b below =
    let d : ArrayKey = array_key 0 [] in
    let inside : i < length index = omega (arith, lt, laid.array_key) in
    let name : ArrayKey = get_or index i d in
    let more : take (i + 1) index ≡ take i index ++ name ∷ [] = take_more index i d inside in
    let more_slots : take (i + 1) slots ≡ take i slots ++ slot slots i ∷ [] = take_more slots i None lt in
    let size : length (take i slots) ≡ length (take i index) = omega (arith, length-take-le i slots (omega arith), length-take-le i index (omega arith)) in
    let distinct : AreDistinct (take i index ++ name ∷ []) = rw more at (distinct_front (take (i + 1) index) (drop (i + 1) index) (rw (← take-append-drop (i + 1) index) at laid.distinct)) in
    step name (slice_get-get_or index i d inside) b below
    ∙ (ap (λ (m : Elements). with_slot b name (slot slots i) m) (before b below)
    ∙ (sym (slot_more live (take i index) (take i slots) name (slot slots i) size distinct b below)
    ∙ (ap (λ (ns : List ArrayKey). elements_of b ns (take i slots ++ slot slots i ∷ [])) (sym more) ∙ ap (λ (ss : List (Option Value)). elements_of b (take (i + 1) index) ss) (sym more_slots))))

-- index without slots have no elements
pub packed_all : (b : ℕ) (index : List ArrayKey) (slots : List (Option Value)) (n : ℕ) → n ≡ length slots → length slots ≤ length index → elements_of b (take n index) (take n slots) ≡ elements_of b index slots
packed_all b index slots n e le =
    let all : take n slots ≡ slots = take_all n slots (omega (arith, e)) in
    let size : length (take n index) ≡ n = length-take-le n index (omega (arith, e, le)) in
    let cut : take n index ++ drop n index ≡ index = take-append-drop n index in
    ap (λ (ss : List (Option Value)). elements_of b (take n index) ss) all
    ∙ (sym (spread_same b (take n index) (drop n index) slots slots (omega (arith, size, e)) (record { longer = omega arith; same = λ i. refl })) ∙ ap (λ (ns : List ArrayKey). elements_of b ns slots) cut)
