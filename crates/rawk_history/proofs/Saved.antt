-- How many old values the newest steps hold that lie behind one another.
use Rattle.std.proofs.Common.{◌≡◌, inl, inr, ℕ, suc, zero, ◌+◌, ◌-◌, ◌≤◌, Bool, true, false, cond, List, [], ◌∷◌, ◌++◌, Some, length, take, drop, reverse, refl, sym, ap, ◌∙◌, arith}
use Rattle.std.specs.Global.{Vec}
use Rattle.std.specs.List.{count_by, slice_get}
use Rattle.std.proofs.lemmas.List.{reverse-append, take_all, take_at, take-append-drop, length-reverse, length-take-le, length-drop}
use Rattle.std.proofs.lemmas.List.Sums.{sum_by-cons}
use Rattle.std.proofs.lemmas.Bool.{cases_lt}
use Rattle.std.proofs.lemmas.List.Sorted.{sum_by-IsPermutation, IsPermutation-reverse}
use Rattle.rawk_value.specs.declared.value.Value.{Value}
use Rattle.rawk_slots.specs.declared.saved.Saved.{Saved}
use Rattle.rawk_record.specs.Shown.{Shown}
use Rattle.rawk_store.specs.declared.rare_changes.RareChanges.{RareChanges}
use Rattle.rawk_history.specs.declared.full.Mark.{Mark}
use Rattle.rawk_history.specs.declared.full.RareRegisters.{RareRegisters}
use Rattle.rawk_store.specs.Groups.{Group}
use Rattle.rawk_history.specs.Steps.{Kept}
use Rattle.rawk_store.specs.Saving.{one_if_some, saved_in_part, saved_others}
use Rattle.rawk_history.specs.Saving.{saved_in_groups, saved_by, saved_by_all, saved_in_others, saved_in_sets}
use Rattle.rawk_slots.specs.StackGroups.{first_if, rest_if}
use Rattle.rawk_frames.specs.KeptStacks.{StackLists, newest_frames, newest_operands, older_stacks}
use Rattle.rawk_history.specs.Flat.{AreMarked, began_by, items_of, kept_of, newest_slow, step_of}

take_none : (T : Type 0) (n : ℕ) → take {A = T} n [] ≡ []
take_none T zero = refl
take_none T (suc n) = refl

count_if : {T : Type 0} (b : Bool) (n : ℕ) (xs : List T) → length (take (cond b 1 0 + n) xs) ≡ one_if_some (first_if b xs) + length (take n (rest_if b xs))
count_if false n xs = let e : 0 + n ≡ n = omega arith in rw e (omega arith)
count_if {T} true n [] = let e : 1 + n ≡ suc n = omega arith in let f = ap length (take_none T n) in rw e (omega (arith, f))
count_if true n (x ∷ xs) = let e : 1 + n ≡ suc n = omega arith in rw e (omega arith)

others_if : (b : Bool) (n : ℕ) (xs : List RareChanges) → saved_in_others (take (cond b 1 0 + n) xs) ≡ saved_others (first_if b xs) + saved_in_others (take n (rest_if b xs))
others_if false n xs = let e : 0 + n ≡ n = omega arith in rw e (omega arith)
others_if true n [] = let e : 1 + n ≡ suc n = omega arith in let f = ap saved_in_others (take_none RareChanges n) in rw e (omega (arith, f))
others_if true n (x ∷ xs) = let e : 1 + n ≡ suc n = omega arith in rw e (sum_by-cons saved_in_part x (take n xs))

sets_if : (b : Bool) (n : ℕ) (xs : List (Vec Group)) → saved_in_sets (take (cond b 1 0 + n) xs) ≡ saved_in_groups (items_of (first_if b xs)) + saved_in_sets (take n (rest_if b xs))
sets_if false n xs = let e : 0 + n ≡ n = omega arith in rw e (omega arith)
sets_if true n [] = let e : 1 + n ≡ suc n = omega arith in let f = ap saved_in_sets (take_none (Vec Group) n) in rw e (omega (arith, f))
sets_if true n (x ∷ xs) = let e : 1 + n ≡ suc n = omega arith in rw e (sum_by-cons (λ (v : Vec Group). saved_in_groups v.items) x (take n xs))

pub saved_newest : (n : ℕ) (marks : List Mark) (slows : List RareRegisters) (globals : List (Saved Value)) (stacks : StackLists) (others : List RareChanges) (records : List Shown) (sets : List (Vec Group)) → AreMarked marks globals others records sets →
    saved_by_all (take n (kept_of marks slows globals stacks others records sets)) + began_by (take n marks) (length globals) ≡
    length globals + length (take (count_by (λ m. m.has_record) (take n marks)) records) + saved_in_others (take (count_by (λ m. m.has_others) (take n marks)) others) + saved_in_sets (take (count_by (λ m. m.has_sets) (take n marks)) sets)
saved_newest zero marks slows globals stacks others records sets h = omega arith
saved_newest (suc n) [] slows globals stacks others records sets h = omega arith
saved_newest (suc n) (m ∷ ms) slows globals stacks others records sets (le, d, h) =
    let newest = take n ms in
    let older = kept_of ms (rest_if m.has_state slows) (take m.globals globals) (older_stacks m.stacks stacks) (rest_if m.has_others others) (rest_if m.has_record records) (rest_if m.has_sets sets) in
    let rest = saved_newest n ms (rest_if m.has_state slows) (take m.globals globals) (older_stacks m.stacks stacks) (rest_if m.has_others others) (rest_if m.has_record records) (rest_if m.has_sets sets) h in
    let item : Kept = record { step = step_of m (newest_slow slows) globals (newest_frames m.stacks stacks) (newest_operands m.stacks stacks) (first_if m.has_others others) (first_if m.has_record records); sets = items_of (first_if m.has_sets sets) } in
    let whole = sum_by-cons saved_by item (take n older) in
    let first = length-take-le m.globals globals le in
    let last = length-drop m.globals globals in
    let began = ap (began_by newest) first in
    let r = ap (λ k. length (take k records)) (sum_by-cons (λ (x : Mark). cond x.has_record 1 0) m newest) ∙ count_if m.has_record (count_by (λ (x : Mark). x.has_record) newest) records in
    let o = ap (λ k. saved_in_others (take k others)) (sum_by-cons (λ (x : Mark). cond x.has_others 1 0) m newest) ∙ others_if m.has_others (count_by (λ (x : Mark). x.has_others) newest) others in
    let s = ap (λ k. saved_in_sets (take k sets)) (sum_by-cons (λ (x : Mark). cond x.has_sets 1 0) m newest) ∙ sets_if m.has_sets (count_by (λ (x : Mark). x.has_sets) newest) sets in
    omega (arith, whole, rest, first, last, le, began, r, o, s)

-- none of the newest steps begins behind the end
pub began-le : (n : ℕ) (marks : List Mark) (globals : List (Saved Value)) (others : List RareChanges) (records : List Shown) (sets : List (Vec Group)) → AreMarked marks globals others records sets → began_by (take n marks) (length globals) ≤ length globals
began-le zero marks globals others records sets h = omega arith
began-le (suc n) [] globals others records sets h = omega arith
began-le (suc n) (m ∷ ms) globals others records sets (le, d, h) =
    let first = length-take-le m.globals globals le in
    omega (arith, began-le n ms (take m.globals globals) (rest_if m.has_others others) (rest_if m.has_record records) (rest_if m.has_sets sets) h, ap (began_by (take n ms)) first, first, le)

-- where the oldest of these steps begins
began-append : (ms : List Mark) (m : Mark) (live : ℕ) → began_by (ms ++ m ∷ []) live ≡ m.globals
began-append [] m live = refl
began-append (x ∷ xs) m live = began-append xs m x.globals

began-reverse : (m : Mark) (ms : List Mark) (live : ℕ) → began_by (reverse (m ∷ ms)) live ≡ m.globals
began-reverse m ms live = ap (λ (xs : List Mark). began_by xs live) (reverse-append (m ∷ []) ms) ∙ began-append (reverse ms) m live

pub began_first : (marks : List Mark) (m : Mark) (live : ℕ) → Some m ≡ slice_get marks 0 → m.globals ≡ began_by (reverse marks) live
began_first [] m live is = absurd (cc is)
began_first (x ∷ xs) m live is = let e : m ≡ x = cc is in ap (λ (k : Mark). k.globals) e ∙ sym (began-reverse x xs live)

-- the last of a list are the first from its end on
pub last_are : {T : Type 0} (n : ℕ) (xs : List T) → reverse (drop (length xs - n) xs) ≡ take n (reverse xs)
last_are {T} n xs =
    let k = length xs - n in
    let back : List T = reverse (drop k xs) in
    let parts : reverse xs ≡ back ++ reverse (take k xs) = ap (reverse {A = T}) (sym (take-append-drop k xs)) ∙ reverse-append (take k xs) (drop k xs) in
    let size = length-reverse (drop k xs) in
    let size2 = length-drop k xs in
    let all = length-reverse xs in
    elim (cases_lt n (length xs)) [
      | inl lt ↦ sym (ap (take n) parts ∙ take_at back (reverse (take k xs)) n (omega (arith, size, size2, lt)))
      | inr le ↦ let none : k ≡ 0 = omega (arith, le) in ap (λ i. reverse (drop i xs)) none ∙ sym (take_all n (reverse xs) (omega (arith, all, le)))
    ]

-- in whatever order they are counted
pub count-reverse : (p : Mark → Bool) (ms : List Mark) → count_by p (reverse ms) ≡ count_by p ms
count-reverse p ms = sum_by-IsPermutation (λ x. cond (p x) 1 0) ms (reverse ms) (IsPermutation-reverse ms)

pub length_of : (marks : List Mark) (slows : List RareRegisters) (globals : List (Saved Value)) (stacks : StackLists) (others : List RareChanges) (records : List Shown) (sets : List (Vec Group)) → length (kept_of marks slows globals stacks others records sets) ≡ length marks
length_of [] slows globals stacks others records sets = refl
length_of (m ∷ ms) slows globals stacks others records sets = ap suc (length_of ms (rest_if m.has_state slows) (take m.globals globals) (older_stacks m.stacks stacks) (rest_if m.has_others others) (rest_if m.has_record records) (rest_if m.has_sets sets))
