-- Counts of elements.
use Rattle.std.proofs.Common.{◌≡◌, ◌≢◌, ℕ, suc, zero, ◌+◌, ◌-◌, ◌<◌, ◌≤◌, ◌==◌, Bool, true, false, cond, List, [], ◌∷◌, inl, inr, length, get_or, set, drop, refl, sym, ap, ◌∙◌, arith, slice_get, Option, None, Some, get_or-set_other, get_or-set_same}
use Rattle.std.specs.Prelude.{is_some}
use Rattle.std.proofs.lemmas.Bool.{cases_eq, false≢true}
use mathlib.Core.Bool.{beq}
use Rattle.std.proofs.lemmas.List.{length-set, drop_more}
use Rattle.std.proofs.lemmas.Option.{slice_get_within}
use Rattle.std.specs.FinMap.{get, len, len-empty, len-insert, len-remove}
use Rattle.std.specs.Ordering.{nat_cmp}
use Rattle.std.specs.Cmp.Lexicographic.{slice_cmp, nat_list_cmp_total}
use Rattle.rawk_value.specs.Values.{Bytes}
use Rattle.rawk_value.specs.declared.value.Value.{Value}
use Rattle.rawk_slots.specs.Journaled.{Longer, at_rest}
use Rattle.rawk_slots.specs.declared.saved.Saved.{Saved}
use Rattle.rawk_slots.specs.Back.{back, AreBelow, HasDistinctPlaces, places}
use Rattle.rawk_slots.specs.BackLaws.{length-back}
use Rattle.rawk_keys.specs.ArrayKey.{ArrayKey}
use Rattle.rawk_arrays.specs.Elements.{Elements, put}
use Rattle.rawk_arrays.specs.Laid.{IsLaid, IsSpread, elements_of, slot}
use Rattle.rawk_arrays.specs.Counted.{AreCounted, AreKept, HasMore, IsAddedTo}
use Rattle.rawk_arrays.specs.Walks.{one}
use Rattle.rawk_arrays.specs.PlaceLaws.{found_slot, put_at, spread_same}

inserted : (b : Bool) (n : ℕ) → cond b n (n + 1) ≡ n + 1 - one b
inserted true n = omega arith
inserted false n = omega arith

removed : (b : Bool) (n : ℕ) → cond b (n - 1) n ≡ n + 0 - one b
removed true n = omega arith
removed false n = omega arith

-- how many elements there are with one that is put, or taken away
pub len_put : (m : Elements) (k : Bytes) (v : Option Value) → len (put m k v) ≡ len m + one (is_some v) - one (is_some (get m k))
len_put m k (Some v) = len-insert nat_list_cmp_total m k v ∙ inserted (is_some (get m k)) (len m)
len_put m k None = len-remove nat_list_cmp_total m k ∙ removed (is_some (get m k)) (len m)

one_at_most : (b : Bool) → one b ≤ 1
one_at_most true = omega arith
one_at_most false = omega arith

few_go : (b : Bool) (m : Elements) (k : Bytes) (s : Option Value) (n : ℕ) → len m ≤ n → len (cond b (put m k s) m) ≤ suc n
few_go true m k s n le = omega (arith, le, len_put m k s, one_at_most (is_some s))
few_go false m k s n le = omega (arith, le)

-- an array has no more elements than there are keys
pub few : (a : ℕ) (index : List ArrayKey) (slots : List (Option Value)) → len (elements_of a index slots) ≤ length index
few a [] slots = omega (arith, len-empty (slice_cmp nat_cmp) Value)
few a (name ∷ index) [] = omega (arith, len-empty (slice_cmp nat_cmp) Value)
few a (name ∷ index) (s ∷ slots) = few_go (name.array == a) (elements_of a index slots) name.key s (length index) (few a index slots)

-- what a write to a slot makes of the count of its array
pub count_put : (index : List ArrayKey) (slots : List (Option Value)) (i : ℕ) (v : Option Value) (name : ArrayKey) → IsLaid index slots → slice_get index i ≡ Some name → i < length slots →
    len (elements_of name.array index (set slots i v)) ≡ len (elements_of name.array index slots) + one (is_some v) - one (is_some (slot slots i))
count_put index slots i v name laid is lt =
    ap (λ (m : Elements). len m) (put_at name.array name.key v index slots i laid.distinct laid.array_key is lt).here
    ∙ (len_put (elements_of name.array index slots) name.key v
    ∙ ap (λ (o : Option Value). len (elements_of name.array index slots) + one (is_some v) - one (is_some o)) (found_slot name.array name.key index slots i laid is))

-- the counts after a write to a slot
pub counted_put : (index : List ArrayKey) (slots : List (Option Value)) (i : ℕ) (v : Option Value) (name : ArrayKey) (counts new : List ℕ) → IsLaid index slots → slice_get index i ≡ Some name → i < length slots → AreCounted index slots counts →
    new ≡ set counts name.array (get_or counts name.array 0 + one (is_some v) - one (is_some (slot slots i))) → AreCounted index (set slots i v) new
counted_put index slots i v name counts new laid is lt h e = record {
  counted = λ a. ap (λ (xs : List ℕ). get_or xs a 0) e ∙ elim (cases_eq a name.array) [
    | inl q ↦
        ap (λ (n : ℕ). get_or (set counts name.array made) n 0) q
        ∙ (get_or-set_same counts name.array made 0 (h.room i name is)
        ∙ (ap (λ (n : ℕ). n + one (is_some v) - one (is_some (slot slots i))) (h.counted name.array)
        ∙ (sym (count_put index slots i v name laid is lt) ∙ ap (λ (n : ℕ). len (elements_of n index (set slots i v))) (sym q))))
    | inr d ↦
        get_or-set_other counts name.array a made 0 d
        ∙ (h.counted a ∙ ap (λ (m : Elements). len m) (sym ((put_at name.array name.key v index slots i laid.distinct laid.array_key is lt).other a d)))
  ];
  room = λ j other at. omega (arith, h.room j other at, ap length e, length-set counts name.array made);
}
  where
    made : ℕ
    made = get_or counts name.array 0 + one (is_some v) - one (is_some (slot slots i))

-- the count after a write to a slot is that of no more elements than there are keys
pub count_room : (index : List ArrayKey) (slots : List (Option Value)) (i : ℕ) (v : Option Value) (name : ArrayKey) (counts : List ℕ) → IsLaid index slots → slice_get index i ≡ Some name → i < length slots → AreCounted index slots counts →
    get_or counts name.array 0 + one (is_some v) ≤ length index + one (is_some (slot slots i))
count_room index slots i v name counts laid is lt h =
    let after = count_put index slots i v name laid is lt in
    let most = few name.array index (set slots i v) in
    let now : get_or counts name.array 0 ≡ len (elements_of name.array index slots) = h.counted name.array in
    omega (arith, after, most, now)

-- ---- counts and keys that are added

pub counted_more : (a : ℕ) (index names2 : List ArrayKey) (slots mid : List (Option Value)) (counts more : List ℕ) → length slots ≤ length index → Longer index names2 → IsAddedTo a index names2 → IsSpread slots mid → HasMore counts more → a < length more → AreCounted index slots counts →
    AreCounted names2 mid more
counted_more a index names2 slots mid counts more le longer added spread m lt h = record {
  counted = λ b. m.same b ∙ (h.counted b ∙ sym (ap (λ (e : Elements). len e) (ap (λ (ns : List ArrayKey). elements_of b ns mid) longer.is ∙ spread_same b index longer.more slots mid le spread)));
  room = λ i name is. elim (added i name is) [
    | inl old ↦ omega (arith, h.room i name old, m.longer)
    | inr q ↦ omega (arith, q, lt)
  ];
}

pub counted_none : AreCounted [] [] []
counted_none = record { counted = λ a. sym (len-empty (slice_cmp nat_cmp) Value); room = λ i name is. absurd (omega (arith, slice_get_within [] i name is)) }

pub kept_none : AreKept [] (at_rest []) []
kept_none = record {
  laid = record { distinct = λ i j name is same. absurd (omega (arith, slice_get_within [] i name is)); array_key = omega arith; sizes = refl };
  counted = counted_none;
}

-- a slot that was not what it is, and is filled, was empty
pub was_empty : (was is : Bool) → is ≡ true → beq was is ≡ false → one was ≡ 0
was_empty true is e d = absurd (false≢true (sym d ∙ ap (beq true) e))
was_empty false is e d = refl

-- an item of a list, whatever stands for one that is not there
pub at_either : (xs : List ℕ) (i j d : ℕ) → i ≡ j → j < length xs → get_or xs i d ≡ get_or xs j 0
at_either xs i j d e lt = ap (λ k. get_or xs k d) e ∙ here xs j lt
  where
    here : (xs : List ℕ) (j : ℕ) → j < length xs → get_or xs j d ≡ get_or xs j 0
    here [] j lt = absurd (omega (arith, lt))
    here (x ∷ xs) zero lt = refl
    here (x ∷ xs) (suc j) lt = here xs j (omega (arith, lt))

-- ---- slots that are put back

abbrev pub Entry : Type 0
Entry = Saved (Option Value)

drop_place : (n : ℕ) (es : List Entry) (j : ℕ) → j < length (places (drop n es)) → (n + j < length (places es)) × (get_or (places (drop n es)) j 0 ≡ get_or (places es) (n + j) 0)
drop_place zero es j lt = let e : j ≡ 0 + j = omega arith in (omega (arith, lt), ap (λ k. get_or (places es) k 0) e)
drop_place (suc n) [] j lt = absurd (omega (arith, lt))
drop_place (suc n) (x ∷ es) j lt =
    let rest = drop_place n es j lt in
    let e : suc (n + j) ≡ suc n + j = omega arith in
    (omega (arith, rest.0), rest.1 ∙ ap (λ k. get_or (places (x ∷ es)) k 0) e)

place_at : (es : List Entry) (i : ℕ) (e : Entry) → i < length es → (i < length (places es)) × (get_or (places es) i 0 ≡ (get_or es i e).place)
place_at [] i e lt = absurd (omega (arith, lt))
place_at (x ∷ es) zero e lt = (omega arith, refl)
place_at (x ∷ es) (suc i) e lt = let rest = place_at es i e (omega (arith, lt)) in (omega (arith, rest.0), rest.1)

pub below_at : (n : ℕ) (es : List Entry) (i : ℕ) (e : Entry) → AreBelow n es → i < length es → (get_or es i e).place < n
below_at n [] i e h lt = absurd (omega (arith, lt))
below_at n (x ∷ es) zero e h lt = h.0
below_at n (x ∷ es) (suc i) e h lt = below_at n es i e h.1 (omega (arith, lt))

-- a place that no old value is of
apart_slot : (xs : List (Option Value)) (es : List Entry) (p : ℕ) → ((j : ℕ) → j < length (places es) → get_or (places es) j 0 ≢ p) → slot (back xs es) p ≡ slot xs p
apart_slot xs [] p h = refl
apart_slot xs (e ∷ es) p h = get_or-set_other (back xs es) e.place p e.old None (λ q. h 0 (omega arith) (sym q)) ∙ apart_slot xs es p (λ j lt. h (suc j) (omega (arith, lt)))

-- the slot of an old value, when those behind it were put back
waits : (slots : List (Option Value)) (saved : List Entry) (i : ℕ) (e : Entry) → HasDistinctPlaces saved → i < length saved → e ≡ get_or saved i e → slot (back slots (drop (i + 1) saved)) e.place ≡ slot slots e.place
waits slots saved i e d lt is = apart_slot slots (drop (i + 1) saved) e.place (λ j within q.
    let here = place_at saved i e lt in
    let there = drop_place (i + 1) saved j within in
    let same : i ≡ i + 1 + j = d i (i + 1 + j) (omega arith) (omega arith) here.0 there.0 (here.1 ∙ (sym (ap (λ (x : Entry). x.place) is) ∙ (sym q ∙ there.1))) in
    omega (arith, same))

pub laid_after : (index : List ArrayKey) (slots : List (Option Value)) (es : List Entry) → IsLaid index slots → IsLaid index (back slots es)
laid_after index slots es h = record { distinct = h.distinct; array_key = omega (arith, h.array_key, length-back slots es) }

-- one turn of the loop: an old value is put back
pub counted_back : (index : List ArrayKey) (slots : List (Option Value)) (saved : List Entry) (i : ℕ) (e : Entry) (name : ArrayKey) (counts new : List ℕ) → IsLaid index slots → AreBelow (length slots) saved → HasDistinctPlaces saved → i < length saved → e ≡ get_or saved i e →
    AreCounted index (back slots (drop (i + 1) saved)) counts → slice_get index e.place ≡ Some name → new ≡ set counts name.array (get_or counts name.array 0 + one (is_some e.old) - one (is_some (slot slots e.place))) → AreCounted index (back slots (drop i saved)) new
counted_back index slots saved i e name counts new laid below d lt is h at made =
    let mid : List (Option Value) = back slots (drop (i + 1) saved) in
    let place : e.place < length slots = omega (arith, below_at (length slots) saved i e below lt, ap (λ (x : Entry). x.place) is) in
    let within : e.place < length mid = omega (arith, place, length-back slots (drop (i + 1) saved)) in
    let same : slot slots e.place ≡ slot mid e.place = sym (waits slots saved i e d lt is) in
    let after : AreCounted index (set mid e.place e.old) new = counted_put index mid e.place e.old name counts new (laid_after index slots (drop (i + 1) saved) laid) at within h
    (made ∙ ap (λ (o : Option Value). set counts name.array (get_or counts name.array 0 + one (is_some e.old) - one (is_some o))) same) in
    let next : back slots (drop i saved) ≡ set mid e.place e.old = ap (back slots) (drop_more saved i e lt) ∙ ap (λ (x : Entry). set mid x.place x.old) (sym is) in
    rw next after

-- the count that it makes is that of no more elements than there are keys
pub back_room : (index : List ArrayKey) (slots : List (Option Value)) (saved : List Entry) (i : ℕ) (e : Entry) (name : ArrayKey) (counts : List ℕ) → IsLaid index slots → AreBelow (length slots) saved → HasDistinctPlaces saved → i < length saved → e ≡ get_or saved i e →
    AreCounted index (back slots (drop (i + 1) saved)) counts → slice_get index e.place ≡ Some name → get_or counts name.array 0 + one (is_some e.old) ≤ length index + one (is_some (slot slots e.place))
back_room index slots saved i e name counts laid below d lt is h at =
    let mid : List (Option Value) = back slots (drop (i + 1) saved) in
    let place : e.place < length slots = omega (arith, below_at (length slots) saved i e below lt, ap (λ (x : Entry). x.place) is) in
    let within : e.place < length mid = omega (arith, place, length-back slots (drop (i + 1) saved)) in
    let room : get_or counts name.array 0 + one (is_some e.old) ≤ length index + one (is_some (slot mid e.place)) = count_room index mid e.place e.old name counts (laid_after index slots (drop (i + 1) saved) laid) at within h in
    let same : one (is_some (slot mid e.place)) ≡ one (is_some (slot slots e.place)) = ap (λ (o : Option Value). one (is_some o)) (waits slots saved i e d lt is) in
    omega (arith, room, same)
