-- The list of arrays.
use Rattle.std.proofs.Common.{◌≡◌, ◌≢◌, ℕ, ◌+◌, Bool, true, false, cond, ◌<◌, ◌≤◌, List, [], ◌∷◌, ◌++◌, inl, inr, length, min, take, set, refl, sym, ap, ◌∙◌, arith, get_or, slice_get, Option, None, Some, get_or-set_other, get_or-set_same}
use Rattle.std.proofs.lemmas.Bool.{cases_eq, cases_lt, false≢true}
use Rattle.std.specs.Prelude.{is_some}
use Rattle.std.proofs.lemmas.List.{get_or_past, length-set, take_all, set_past, set-get_or}
use Rattle.std.proofs.lemmas.List.FromFn.{fill_by_all, get_or-map-range_with_len, length-map-range_with_len, take-map-range_with_len, map-range_with_len_more}
use Rattle.std.specs.FinMap.{get, get-empty, get-remove, same_map}
use Rattle.std.specs.Ordering.{nat_cmp}
use Rattle.std.specs.Cmp.Lexicographic.{nat_list_cmp_total, slice_cmp}
use Rattle.std.proofs.lemmas.Map.Lookups.{exact_bytes}
use Rattle.rawk_value.specs.Values.{Bytes}
use Rattle.rawk_value.specs.declared.value.Value.{Value}
use Rattle.rawk_slots.specs.Journaled.{Journaled, Longer, at_rest}
use Rattle.rawk_slots.specs.declared.saved.Saved.{Saved}
use Rattle.rawk_slots.specs.Back.{back}
use Rattle.rawk_slots.specs.BackLaws.{length-back}
use Rattle.rawk_keys.specs.ArrayKey.{ArrayKey, IsAbsent, array_key}
use Rattle.rawk_arrays.specs.Elements.{Elements, no_elements, array_at, put, with_put, is_element, without_element}
use Rattle.rawk_arrays.specs.Laid.{Laid, AreLaid, IsLaid, IsPlaceOf, IsPut, IsEmptied, IsSpread, elements_of, arrays_of, slot}
use Rattle.rawk_arrays.specs.PlaceLaws.{spread_same, key_is, found_slot, put_at, absent_none}
use Rattle.rawk_arrays.specs.Place.{same_key}

pub length_arrays : (l : Laid) → length (arrays_of l) ≡ l.live
length_arrays l = length-map-range_with_len (λ a. elements_of a l.index l.slots) 0 l.live

pub array_there : (l : Laid) (a : ℕ) → a < l.live → array_at a (arrays_of l) ≡ elements_of a l.index l.slots
array_there l a lt = get_or-map-range_with_len (λ a. elements_of a l.index l.slots) 0 l.live a a no_elements lt (omega arith)

pub array_past : (l : Laid) (a : ℕ) → l.live ≤ a → array_at a (arrays_of l) ≡ no_elements
array_past l a le = get_or_past (arrays_of l) a no_elements (omega (arith, length_arrays l))

pub set_arrays : (l m : Laid) (a : ℕ) (e : Elements) → m.live ≡ l.live → elements_of a m.index m.slots ≡ e → ((b : ℕ) → b ≢ a → elements_of b m.index m.slots ≡ elements_of b l.index l.slots) → arrays_of m ≡ set (arrays_of l) a e
set_arrays l m a e live here other =
    sym (fill_by_all (λ b. elements_of b m.index m.slots) (set (arrays_of l) a e) m.live no_elements (length-set (arrays_of l) a e ∙ (length_arrays l ∙ sym live)) (λ k lt.
    elim (cases_eq k a) [
      | inl q ↦ ap (λ (j : ℕ). get_or (set (arrays_of l) a e) j no_elements) q ∙ (get_or-set_same (arrays_of l) a e no_elements (omega (arith, q, lt, live, length_arrays l)) ∙ (sym here ∙ ap (λ (j : ℕ). elements_of j m.index m.slots) (sym q)))
      | inr d ↦ get_or-set_other (arrays_of l) a k e no_elements d ∙ (array_there l k (omega (arith, lt, live)) ∙ sym (other k d))
    ]))

pub same_arrays : (l m : Laid) → m.live ≡ l.live → ((b : ℕ) → b < l.live → elements_of b m.index m.slots ≡ elements_of b l.index l.slots) → arrays_of m ≡ arrays_of l
same_arrays l m live same =
    sym (fill_by_all (λ b. elements_of b m.index m.slots) (arrays_of l) m.live no_elements (length_arrays l ∙ sym live) (λ k lt. array_there l k (omega (arith, lt, live)) ∙ sym (same k (omega (arith, lt, live)))))

pub put_arrays : (l m : Laid) (a : ℕ) (k : Bytes) (v : Option Value) → m.live ≡ l.live → a < l.live → IsPut a k v l.index l.slots m.index m.slots → arrays_of m ≡ with_put a k v (arrays_of l)
put_arrays l m a k v live lt p = set_arrays l m a (put (array_at a (arrays_of l)) k v) live (p.here ∙ ap (λ (e : Elements). put e k v) (sym (array_there l a lt))) p.other

pub no_put : (l : Laid) (a : ℕ) (e : Elements) → l.live ≤ a → arrays_of l ≡ set (arrays_of l) a e
no_put l a e le = sym (set_past (arrays_of l) a e (omega (arith, le, length_arrays l)))

pub emptied_arrays : (l m : Laid) (a : ℕ) → m.live ≡ l.live → m.index ≡ l.index → IsEmptied a l.index l.slots m.slots → arrays_of m ≡ set (arrays_of l) a no_elements
emptied_arrays l m a live index h =
    set_arrays l m a no_elements live (ap (λ (ns : List ArrayKey). elements_of a ns m.slots) index ∙ h.here) (λ b ne. ap (λ (ns : List ArrayKey). elements_of b ns m.slots) index ∙ h.other b ne)

pub added_arrays : (index : List ArrayKey) (slots new : List (Option Value)) (live : ℕ) → IsEmptied live index slots new → arrays_of (record { index = index; slots = new; live = live + 1 }) ≡ arrays_of (record { index = index; slots = slots; live = live }) ++ no_elements ∷ []
added_arrays index slots new live h =
    let l : Laid = record { index = index; slots = slots; live = live } in
    let m : Laid = record { index = index; slots = new; live = live } in
    let same : arrays_of m ≡ arrays_of l = same_arrays l m refl (λ b lt. h.other b (λ q. absurd (omega (arith, q, lt)))) in
    map-range_with_len_more (λ a. elements_of a index new) 0 live live (omega arith)
    ∙ (ap (λ (es : List Elements). es ++ elements_of live index new ∷ []) same ∙ ap (λ (e : Elements). arrays_of l ++ e ∷ []) h.here)

pub taken_arrays : (index : List ArrayKey) (slots : List (Option Value)) (live count : ℕ) → arrays_of (record { index = index; slots = slots; live = min live count }) ≡ take count (arrays_of (record { index = index; slots = slots; live = live }))
taken_arrays index slots live count =
    let l : Laid = record { index = index; slots = slots; live = live } in
    elim (cases_lt live count) [
      | inl lt ↦
          let k : min live count ≡ live = omega arith in
          ap (λ n. arrays_of (record { index = index; slots = slots; live = n })) k ∙ sym (take_all count (arrays_of l) (omega (arith, length_arrays l)))
      | inr ge ↦
          let k : min live count ≡ count = omega arith in
          ap (λ n. arrays_of (record { index = index; slots = slots; live = n })) k ∙ sym (take-map-range_with_len (λ a. elements_of a index slots) 0 live count ge)
    ]

-- added index and slots change no array
pub spread_arrays : (l m : Laid) → m.live ≡ l.live → length l.slots ≤ length l.index → Longer l.index m.index → IsSpread l.slots m.slots → arrays_of m ≡ arrays_of l
spread_arrays l m live le more s = same_arrays l m live (λ b lt. ap (λ (ns : List ArrayKey). elements_of b ns m.slots) more.is ∙ spread_same b l.index more.more l.slots m.slots le s)

pub laid_back : (index : List ArrayKey) (slots new : Journaled (List (Option Value))) (es : List (Saved (Option Value))) → AreLaid index slots → new ≡ at_rest (back slots.now es) → AreLaid index new
laid_back index slots new es h e =
    let now : length new.now ≡ length slots.now = ap (λ (j : Journaled (List (Option Value))). length j.now) e ∙ length-back slots.now es in
    let start : length new.start ≡ length slots.now = ap (λ (j : Journaled (List (Option Value))). length j.start) e ∙ length-back slots.now es in
    record { distinct = h.distinct; array_key = omega (arith, h.array_key, now); sizes = start ∙ sym now }

removed_go : (m : Elements) (q k : Bytes) (b : Bool) → same_key q k ≡ b → get m k ≡ None → cond b None (get m q) ≡ get m q
removed_go m q k true e h = sym h ∙ ap (get m) (sym (key_is q k e))
removed_go m q k false e h = refl

-- removing a key that is not there changes nothing
remove_none : (m : Elements) (k : Bytes) → get m k ≡ None → put m k None ≡ m
remove_none m k e = same_map nat_list_cmp_total exact_bytes (put m k None) m (λ q. get-remove nat_list_cmp_total m k q ∙ removed_go m q k (same_key q k) refl e)

none_is : (o : Option Value) → is_some o ≡ false → o ≡ None
none_is None e = refl
none_is (Some v) e = absurd (false≢true (sym e))

pub not_there : (arrays : List Elements) (a : ℕ) (k : Bytes) → is_element a k arrays ≡ false → arrays ≡ without_element a k arrays
not_there arrays a k e = sym (ap (set arrays a) (remove_none (array_at a arrays) k (none_is (get (array_at a arrays) k) e)) ∙ set-get_or arrays a no_elements)

pub place_value : (a : ℕ) (k : Bytes) (p : ℕ) (l : Laid) → IsPlaceOf a k p l → IsLaid l.index l.slots → get (array_at a (arrays_of l)) k ≡ slot l.slots p
place_value a k p l h laid = ap (λ (e : Elements). get e k) (array_there l a h.live) ∙ found_slot a k l.index l.slots p laid h.array_key

pub place_set : (a : ℕ) (k : Bytes) (p : ℕ) (v : Option Value) (l m : Laid) → IsPlaceOf a k p l → IsLaid l.index l.slots → m.index ≡ l.index → m.live ≡ l.live → m.slots ≡ set l.slots p v → arrays_of m ≡ with_put a k v (arrays_of l)
place_set a k p v l m h laid index live slots =
    put_arrays l m a k v live h.live (rw (index, slots) (put_at a k v l.index l.slots p laid.distinct laid.array_key h.array_key h.within))

-- an element that no slot holds is not there
pub none_element : (arrays : List Elements) (a : ℕ) (k : Bytes) → get (array_at a arrays) k ≡ None → is_element a k arrays ≡ false
none_element arrays a k e = ap (λ (o : Option Value). is_some o) e

pub past_element : (l : Laid) (a : ℕ) (k : Bytes) → l.live ≤ a → is_element a k (arrays_of l) ≡ false
past_element l a k h = none_element (arrays_of l) a k (ap (λ (e : Elements). get e k) (array_past l a h) ∙ get-empty (slice_cmp nat_cmp) k)

pub absent_element : (l : Laid) (a : ℕ) (k : Bytes) → a < l.live → length l.slots ≤ length l.index → IsAbsent (array_key a k) l.index → is_element a k (arrays_of l) ≡ false
absent_element l a k h size absent = none_element (arrays_of l) a k (ap (λ (e : Elements). get e k) (array_there l a h) ∙ absent_none a k l.index l.slots size absent)

pub slotless_element : (l : Laid) (a : ℕ) (k : Bytes) (p : ℕ) → a < l.live → IsLaid l.index l.slots → slice_get l.index p ≡ Some (array_key a k) → length l.slots ≤ p → is_element a k (arrays_of l) ≡ false
slotless_element l a k p h laid e past = none_element (arrays_of l) a k (ap (λ (m : Elements). get m k) (array_there l a h) ∙ found_slot a k l.index l.slots p laid e ∙ get_or_past l.slots p None past)
