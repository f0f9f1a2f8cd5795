-- What an element was before the last move, by its slot.
use Rattle.std.proofs.Common.{◌≡◌, ℕ, Bool, true, false, List, [], ◌∷◌, length, Option, None, Some, refl, sym, ap, ◌∙◌, arith, if◌then◌else◌, slice_get}
use Rattle.std.specs.Prelude.{nat_lt}
use Rattle.std.proofs.lemmas.Bool.{ltb-false, ltb-true}
use Rattle.std.proofs.lemmas.Option.{same_Some}
use Rattle.rawk_value.specs.Values.{Bytes}
use Rattle.rawk_value.specs.declared.value.Value.{Value}
use Rattle.rawk_arrays.specs.Elements.{element_at}
use Rattle.rawk_arrays.specs.Laid.{Laid, IsLaid, arrays_of}
use Rattle.rawk_arrays.specs.Slotted.{IsSlotOf, held_in}
use Rattle.rawk_arrays.specs.SlotLaws.{slot_element, past_element, no_element}
use Rattle.rawk_store.specs.Groups.{Group}
use Rattle.rawk_store.specs.GroupBack.{arrays_in}
use Rattle.rawk_store.specs.Layout.{Layout}
use Rattle.rawk_store.specs.Observed.{Observed}
use Rattle.rawk_history.specs.Steps.{Kept}
use Rattle.rawk_code.specs.Actions.{SetAt}
use Rattle.rawk_machine.specs.Kept.{pasts, seen_first}
use Rattle.rawk_steps.specs.Leading.{back_in}
use Rattle.rawk_machine.proofs.Befores.{LaidBefore}

-- a key without a slot had no element
pub none_before : (a : ℕ) (key : Bytes) (l : Laid) (s : Observed) → IsSlotOf a key l None → LaidBefore l s → None ≡ element_at a key s.arrays
none_before a key l s none b =
    let away : IsSlotOf a key b.laid None = λ i lt. rw b.index (none i (omega (arith, lt, b.size))) in
    sym (ap (element_at a key) b.is ∙ no_element a key b.laid b.sound away)

-- a slot is that of the key wherever the keys are the same, and as many slots
pub slot_stays : (a : ℕ) (key : Bytes) (i : ℕ) (l m : Laid) → IsSlotOf a key l (Some i) → m.index ≡ l.index → length m.slots ≡ length l.slots → IsSlotOf a key m (Some i)
slot_stays a key i l m (lt, is) index size = (omega (arith, lt, size), rw index is)

held_case : (a : ℕ) (key : Bytes) (i : ℕ) (m : Laid) (slot : Option (Option Value)) (live : ℕ) (b : Bool) → nat_lt a live ≡ b → IsLaid m.index m.slots → IsSlotOf a key m (Some i) → slice_get m.slots i ≡ slot → m.live ≡ live →
    (if b then held_in slot else None) ≡ element_at a key (arrays_of m)
held_case a key i m slot live true h laid is at same = let lt = ltb-true a live h in sym (slot_element a key i m slot laid (omega (arith, lt, same)) is at)
held_case a key i m slot live false h laid is at same = let le = ltb-false a live h in sym (past_element a key m (omega (arith, le, same)))

pub held_is : (a : ℕ) (key : Bytes) (i : ℕ) (m : Laid) (slot : Option (Option Value)) (live : ℕ) → IsLaid m.index m.slots → IsSlotOf a key m (Some i) → slice_get m.slots i ≡ slot → m.live ≡ live →
    (if nat_lt a live then held_in slot else None) ≡ element_at a key (arrays_of m)
held_is a key i m slot live = held_case a key i m slot live (nat_lt a live) refl

-- before a step that is kept the arrays were those to which it leads back
pub on_arrays : (l : Layout) (sets : List SetAt) (point : ℕ) (here : List Group) (items : List Kept) (item : Kept) (rest : List Kept) (s : Observed) → items ≡ item ∷ rest → here ≡ [] → seen_first (pasts l sets point here items) ≡ Some s →
    s.arrays ≡ arrays_of (arrays_in l.arrays item.step.others)
on_arrays l sets point here items item rest s is clean h =
    let first = ap (λ (ks : List Kept). seen_first (pasts l sets point here ks)) (sym is) ∙ h in
    ap (λ (x : Observed). x.arrays) (sym (same_Some _ _ first)) ∙ ap (λ (gs : List Group). arrays_of (back_in l gs item).arrays) clean
