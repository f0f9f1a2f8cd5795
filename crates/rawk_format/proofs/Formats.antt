-- Lemmas on the items of a format.
use Rattle.std.proofs.Common.{◌≡◌, refl, sym, ap, ◌∙◌, ℕ, ◌≤◌, zero, suc, List, [], ◌∷◌, ◌++◌, length, arith, append_assoc, append-nil, subst, true, Result, Ok, Err}
use Rattle.rawk_value.specs.Values.{Bytes, next_ok}
use Rattle.rawk_format.specs.Format.{Item, item, percent_item, is_percent, item_after, items_text, prefixed, IsSoFar}
use Rattle.rawk_value.specs.declared.value.Value.{Value}
use Rattle.rawk_value.specs.declared.fault.Fault.{Fault}

prefixed_prefixed : (a b : Bytes) (r : Result Bytes Fault) → prefixed a (prefixed b r) ≡ prefixed (a ++ b) r
prefixed_prefixed a b (Ok t) = ap Ok (sym (append_assoc a b t))
prefixed_prefixed a b (Err f) = refl

parts_of : (before after rest : Bytes) (values : List Value) (turns : ℕ) (i : Item) → after ≡ before ++ i.text → rest ≡ i.rest → values ≡ i.values
    → prefixed before (prefixed i.text (items_text turns i.rest i.values)) ≡ prefixed after (items_text turns rest values)
parts_of before after rest values turns i e f g = prefixed_prefixed before i.text (items_text turns i.rest i.values) ∙ cc

ok_same : (i j : Item) (r s : Result Item Fault) → r ≡ Ok i → s ≡ Ok j → r ≡ s → i ≡ j
ok_same i j r s p q e = cc

with_item : (before after rest : Bytes) (values : List Value) (turns : ℕ) (r : Result Item Fault) → Ok (record { text = after; rest = rest; values = values }) ≡ item_after before r
    → prefixed before (next_ok r (λ i. prefixed i.text (items_text turns i.rest i.values))) ≡ prefixed after (items_text turns rest values)
with_item before after rest values turns (Ok i) e =
    let same = ok_same (record { text = after; rest = rest; values = values }) (record { text = before ++ i.text; rest = i.rest; values = i.values }) _ _ refl refl e in
    parts_of before after rest values turns i (ap (λ (j : Item). j.text) same) (ap (λ (j : Item). j.rest) same) (ap (λ (j : Item). j.values) same)
with_item before after rest values turns (Err f) e = absurd (cc)

next_from : (whole : Result Bytes Fault) (before after : Bytes) (b : ℕ) (text rest : Bytes) (values left : List Value) (turns : ℕ) → length (b ∷ text) ≤ turns → whole ≡ prefixed before (items_text turns (b ∷ text) values)
    → Ok (record { text = after; rest = rest; values = left }) ≡ item_after before (item b text values) → length rest ≤ length text → IsSoFar whole after rest left
next_from whole before after b text rest values left zero l m e h = absurd (omega arith)
next_from whole before after b text rest values left (suc turns) l m e h =
    record { turns = turns; enough = omega arith; more = m ∙ with_item before after rest left turns (item b text values) e }

pub so_far_next : (whole : Result Bytes Fault) (before after : Bytes) (b : ℕ) (text rest : Bytes) (values left : List Value)
    → IsSoFar whole before (b ∷ text) values → Ok (record { text = after; rest = rest; values = left }) ≡ item_after before (item b text values) → length rest ≤ length text → IsSoFar whole after rest left
so_far_next whole before after b text rest values left far e h = next_from whole before after b text rest values left far.turns far.enough far.more e h

fault_from : (whole : Result Bytes Fault) (before : Bytes) (b : ℕ) (text : Bytes) (values : List Value) (fault : Fault) (turns : ℕ) → length (b ∷ text) ≤ turns → whole ≡ prefixed before (items_text turns (b ∷ text) values)
    → item b text values ≡ Err fault → whole ≡ Err fault
fault_from whole before b text values fault zero l m e = absurd (omega arith)
fault_from whole before b text values fault (suc turns) l m e = m ∙ ap (λ r. prefixed before (next_ok r (λ i. prefixed i.text (items_text turns i.rest i.values)))) e

pub so_far_fault : (whole : Result Bytes Fault) (before : Bytes) (b : ℕ) (text : Bytes) (values : List Value) (fault : Fault) → IsSoFar whole before (b ∷ text) values → item b text values ≡ Err fault → whole ≡ Err fault
so_far_fault whole before b text values fault far e = fault_from whole before b text values fault far.turns far.enough far.more e

end_from : (before : Bytes) (values : List Value) (turns : ℕ) → prefixed before (items_text turns [] values) ≡ Ok before
end_from before values zero = ap Ok (append-nil before)
end_from before values (suc turns) = ap Ok (append-nil before)

pub so_far_end : (whole : Result Bytes Fault) (before : Bytes) (values : List Value) → IsSoFar whole before [] values → whole ≡ Ok before
so_far_end whole before values far = far.more ∙ end_from before values far.turns

prefixed_fault : (before : Bytes) (r : Result Bytes Fault) (fault : Fault) → prefixed before r ≡ Err fault → r ≡ Err fault
prefixed_fault before (Ok t) fault e = absurd (cc)
prefixed_fault before (Err f) fault e = e

item_percent : (b : ℕ) (text : Bytes) (values : List Value) → is_percent b ≡ true → item b text values ≡ percent_item text values
item_percent b text values e = rw e

pub percent_next : (whole : Result Bytes Fault) (before after from : Bytes) (b : ℕ) (text rest : Bytes) (values left : List Value)
    → IsSoFar whole before from values → from ≡ b ∷ text → is_percent b ≡ true → Ok (record { text = after; rest = rest; values = left }) ≡ item_after before (percent_item text values) → length rest ≤ length text → IsSoFar whole after rest left
percent_next whole before after from b text rest values left far is p e h =
    let P : Bytes → Type 0 = λ x. IsSoFar whole before x values in
    so_far_next whole before after b text rest values left (subst P is far) (e ∙ ap (item_after before) (sym (item_percent b text values p))) h

pub percent_fault : (old before from : Bytes) (b : ℕ) (text : Bytes) (values : List Value) (made : Result Bytes Fault) (fault : Fault)
    → IsSoFar (prefixed old made) before from values → from ≡ b ∷ text → is_percent b ≡ true → percent_item text values ≡ Err fault → made ≡ Err fault
percent_fault old before from b text values made fault far is p e =
    let P : Bytes → Type 0 = λ x. IsSoFar (prefixed old made) before x values in
    prefixed_fault old made fault (so_far_fault (prefixed old made) before b text values fault (subst P is far) (item_percent b text values p ∙ e))
