-- Walks over the index of an array.
use Rattle.std.proofs.Common.{◌≡◌, ◌≢◌, ℕ, ◌<◌, ◌≤◌, List, [], inl, inr, length, refl, sym, ap, ◌∙◌, arith, get_or, slice_get, Option, None, Some}
use Rattle.std.proofs.lemmas.Bool.{cases_eq, cases_lt}
use Rattle.std.proofs.lemmas.List.{get_or_past}
use Rattle.std.proofs.lemmas.Option.{same_Some, slice_get_within, slice_get-get_or, none-some}
use Rattle.std.proofs.lemmas.Map.Lookups.{exact_bytes}
use Rattle.std.specs.FinMap.{get-empty, same_map}
use Rattle.std.specs.Ordering.{nat_cmp}
use Rattle.std.specs.Cmp.Lexicographic.{slice_cmp, nat_list_cmp_total}
use Rattle.rawk_value.specs.declared.value.Value.{Value}
use Rattle.rawk_keys.specs.ArrayKey.{ArrayKey, array_key, IsLastOf}
use Rattle.rawk_keys.specs.Found.{IsAfter, left}
use Rattle.rawk_arrays.specs.Elements.{no_elements}
use Rattle.rawk_arrays.specs.Laid.{IsEmptied, elements_of, slot}
use Rattle.rawk_arrays.specs.Walks.{IsSlotEmptied, IsWalking, IsEmptying}
use Rattle.rawk_arrays.specs.PlaceLaws.{place_there, get_at, elements_same}
use Rattle.rawk_arrays.specs.Place.{place}

-- the walk goes on to the last of the first n
pub walks_to : (a : ℕ) (index : List ArrayKey) (n : ℕ) (at : Option ℕ) → n ≤ length index → IsLastOf a index n at → IsWalking a index at
walks_to a index n None le h = record { within = omega arith; here = λ i name e is. absurd (none-some i e) }
walks_to a index n (Some k) le h = record { within = omega (arith, h.0); here = λ i name e is. h.1 name (ap (slice_get index) (same_Some k i e) ∙ is) }

-- no name of the array comes after but those of the first n
last_after : (a : ℕ) (index : List ArrayKey) (n : ℕ) (at : Option ℕ) (j : ℕ) (name : ArrayKey) → IsLastOf a index n at → IsAfter at j → j < n → slice_get index j ≡ Some name → name.array ≢ a
last_after a index n None j name h after lt is = h j name lt is
last_after a index n (Some k) j name h after lt is = h.2 j name after lt is

-- the name at which a walk stands
pub walk_name : (a : ℕ) (index : List ArrayKey) (i : ℕ) (at : Option ℕ) → at ≡ Some i → IsWalking a index at → (name : ArrayKey) × (slice_get index i ≡ Some name) × (name.array ≡ a)
walk_name a index i at e w =
    let lt : i < length index = (let t : IsWalking a index (Some i) = rw e at w in omega (arith, t.within)) in
    let name : ArrayKey = get_or index i (array_key 0 []) in
    let is : slice_get index i ≡ Some name = slice_get-get_or index i (array_key 0 []) lt in
    (name, is, w.here i name e is)

pub emptying_next : (a : ℕ) (index : List ArrayKey) (slots mid new : List (Option Value)) (i : ℕ) (here at : Option ℕ) → here ≡ Some i → IsWalking a index here → IsEmptying a index slots mid here → IsSlotEmptied i mid new → IsLastOf a index i at → IsEmptying a index slots new at
emptying_next a index slots mid new i here at e w h s last =
    let t : IsEmptying a index slots mid (Some i) = rw e at h in
    let n = walk_name a index i here e w in
    record {
      gone = λ j name after is same. elim (cases_eq j i) [
        | inl q ↦ ap (slot new) q ∙ s.here
        | inr d ↦ s.other j d ∙ elim (cases_lt j i) [
          | inl lt ↦ absurd (last_after a index i at j name last after lt is same)
          | inr ge ↦ t.gone j name (omega (arith, d, ge)) is same
        ]
      ];
      rest = λ j none. s.other j (λ q. none n.0 (ap (slice_get index) q ∙ n.1) n.2) ∙ t.rest j none;
      size = s.size ∙ t.size;
    }

pub emptied : (a : ℕ) (index : List ArrayKey) (slots new : List (Option Value)) (at : Option ℕ) → at ≡ None → length slots ≤ length index → IsEmptying a index slots new at → IsEmptied a index slots new
emptied a index slots new at e le h =
    let t : IsEmptying a index slots new None = rw e at h in
    let le2 : length new ≤ length index = omega (arith, t.size, le) in
    record {
      here = same_map nat_list_cmp_total exact_bytes (elements_of a index new) no_elements (λ q.
          get_at a q index new le2
          ∙ (elim (cases_lt (place a q index) (length index)) [
            | inl lt ↦ t.gone (place a q index) (array_key a q) tt (place_there a q index lt) refl
            | inr ge ↦ get_or_past new (place a q index) None (omega (arith, le2, ge))
          ] ∙ sym (get-empty (slice_cmp nat_cmp) q)));
      other = λ b ne. elements_same b index index slots new le le2 (λ q. t.rest (place b q index) (λ name is same.
          let lt : place b q index < length index = slice_get_within index (place b q index) name is in
          ne (sym (ap (λ (n : ArrayKey). n.array) (same_Some name (array_key b q) (sym is ∙ place_there b q index lt))) ∙ same)));
    }

pub last_left : (a : ℕ) (index : List ArrayKey) (n : ℕ) (at : Option ℕ) → IsLastOf a index n at → left at ≤ n
last_left a index n None h = omega arith
last_left a index n (Some k) h = omega (arith, h.0)

pub not_some : (o : Option ℕ) → ((i : ℕ) → o ≡ Some i → ⊥) → o ≡ None
not_some None h = refl
not_some (Some i) h = absurd (h i refl)

-- the walk's next name, from what is known of the name at which it stands
pub walk_on : (a : ℕ) (index : List ArrayKey) (i : ℕ) (here at : Option ℕ) → here ≡ Some i → IsWalking a index here → ((name : ArrayKey) → slice_get index i ≡ Some name → IsLastOf name.array index i at) → IsLastOf a index i at
walk_on a index i here at e w h = let n = walk_name a index i here e w in rw n.2 at (h n.0 n.1)

pub walk_in : (a : ℕ) (index : List ArrayKey) (i : ℕ) (at : Option ℕ) → at ≡ Some i → IsWalking a index at → i < length index
walk_in a index i at e w = let t : IsWalking a index (Some i) = rw e at w in omega (arith, t.within)

pub falls : (a : ℕ) (index : List ArrayKey) (i : ℕ) (here at : Option ℕ) → here ≡ Some i → IsLastOf a index i at → left at < left here
falls a index i here at e h = let k : left at ≤ i = last_left a index i at h in rw e (omega arith)
