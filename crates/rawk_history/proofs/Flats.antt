-- Steps that are kept behind one another.
use Rattle.std.proofs.Common.{◌≡◌, ℕ, suc, zero, ◌+◌, ◌-◌, ◌<◌, ◌≤◌, List, [], ◌∷◌, ◌++◌, get_or, length, take, drop, reverse, Option, Some, None, MatchOption, option_copied, Bor, option_to_list, is_some, if◌then◌else◌, refl, sym, ap, ◌∙◌, subst, arith, append-nil}
use Rattle.std.specs.Global.{Box, Vec}
use Rattle.std.specs.Option.{unwrap_or}
use Rattle.std.proofs.lemmas.List.{reverse-append, take_all, drop_at, take_at, take_more, length-append, length-take-le, length-drop}
use Rattle.std.specs.List.{slice_get}
use Rattle.std.proofs.lemmas.Option.{slice_get-get_or}
use Rattle.std.proofs.lemmas.List.Sorted.{sum_by-IsPermutation, IsPermutation-reverse}
use Rattle.rawk_value.specs.declared.value.Value.{Value}
use Rattle.rawk_slots.specs.declared.saved.Saved.{Saved}
use Rattle.rawk_slots.specs.Back.{AreDistinctFrom, HasDistinctPlaces}
use Rattle.rawk_slots.specs.BackLaws.{distinct_behind}
use Rattle.rawk_slots.specs.StackGroups.{StackGroup, first_if, rest_if}
use Rattle.rawk_frames.specs.declared.frames.FramesGroup.{FramesGroup}
use Rattle.rawk_frames.specs.KeptStacks.{StackLists, newest_frames, newest_operands, older_stacks}
use Rattle.rawk_record.specs.Shown.{Shown}
use Rattle.rawk_store.specs.declared.rare_changes.FewGroup.{FewGroup}
use Rattle.rawk_store.specs.declared.rare_changes.RareChanges.{RareChanges}
use Rattle.rawk_history.specs.declared.full.Mark.{Mark}
use Rattle.rawk_history.specs.declared.full.RareRegisters.{RareRegisters}
use Rattle.rawk_store.specs.Groups.{Group}
use Rattle.rawk_history.specs.Steps.{Kept}
use Rattle.rawk_store.specs.Saving.{ElementsOnce, FewOnce, saved_in_part}
use Rattle.rawk_history.specs.Saving.{saved_in_groups, saved_in_others, saved_in_sets}
use Rattle.rawk_history.specs.Flat.{items_of, step_by, step_of, kept_of, newest_slow, registers_by, slow_of, AreMarked, EndsBehind, IsFull}
use Rattle.rawk_store.specs.Layout.{Layout}
use Rattle.rawk_history.specs.Keeping.{IsPutBack, KeepsStep}
use Rattle.rawk_store.specs.GroupBack.{ArraysFit, FitsIn, arrays_in, globals_on, put_back}
use Rattle.rawk_record.specs.Shown.{record_back}
use Rattle.rawk_store.specs.declared.registers.Registers.{Registers}

pub same_first : {T : Type 0} (x y : T) (xs ys : List T) → x ∷ xs ≡ y ∷ ys → x ≡ y
same_first x y xs ys e = cc e

pub same_rest : {T : Type 0} (x y : T) (xs ys : List T) → x ∷ xs ≡ y ∷ ys → xs ≡ ys
same_rest x y xs ys e = cc e

-- a step more
pub kept_added : (marks marks2 : List Mark) (m : Mark) (slows slows2 : List RareRegisters) (globals list globals2 entries : List (Saved Value)) (live n : ℕ) (stacks stacks2 : StackLists) (others others2 : List RareChanges) (records records2 : List Shown) (sets sets2 : List (Vec Group)) →
    marks2 ≡ marks ++ m ∷ [] → list ≡ take live globals → live ≤ length globals → m.globals ≡ live → globals2 ≡ list ++ entries → n ≡ length globals2 → rest_if m.has_state (reverse slows2) ≡ reverse slows → older_stacks m.stacks stacks2 ≡ stacks →
    rest_if m.has_others (reverse others2) ≡ reverse others → rest_if m.has_record (reverse records2) ≡ reverse records → rest_if m.has_sets (reverse sets2) ≡ reverse sets →
    kept_of (reverse marks2) (reverse slows2) (take n globals2) stacks2 (reverse others2) (reverse records2) (reverse sets2) ≡
    record {
      step = record { globals = entries; frames = newest_frames m.stacks stacks2; operands = newest_operands m.stacks stacks2; others = first_if m.has_others (reverse others2); current = first_if m.has_record (reverse records2); output = (newest_slow (reverse slows2)).output; registers = registers_by m (newest_slow (reverse slows2)) };
      sets = items_of (first_if m.has_sets (reverse sets2));
    }
    ∷ kept_of (reverse marks) (reverse slows) (take live globals) stacks (reverse others) (reverse records) (reverse sets)
kept_added marks marks2 m slows slows2 globals list globals2 entries live n stacks stacks2 others others2 records records2 sets sets2 marked is le at behind count w t o r s =
    let size : length list ≡ live = ap length is ∙ length-take-le live globals le in
    let own : drop m.globals globals2 ≡ entries = ap (λ k. drop k globals2) at ∙ (ap (drop live) behind ∙ drop_at list entries live size) in
    let older : take m.globals globals2 ≡ take live globals = ap (λ k. take k globals2) at ∙ (ap (take live) behind ∙ (take_at list entries live size ∙ is)) in
    let whole : take n globals2 ≡ globals2 = take_all n globals2 (omega (arith, count)) in
    let item = λ (es : List (Saved Value)). let k : Kept = record {
      step = record { globals = es; frames = newest_frames m.stacks stacks2; operands = newest_operands m.stacks stacks2; others = first_if m.has_others (reverse others2); current = first_if m.has_record (reverse records2); output = (newest_slow (reverse slows2)).output; registers = registers_by m (newest_slow (reverse slows2)) };
      sets = items_of (first_if m.has_sets (reverse sets2));
    } in k in
    ap (λ (ms : List Mark). kept_of (reverse ms) (reverse slows2) (take n globals2) stacks2 (reverse others2) (reverse records2) (reverse sets2)) marked
    ∙ ap (λ (ms : List Mark). kept_of ms (reverse slows2) (take n globals2) stacks2 (reverse others2) (reverse records2) (reverse sets2)) (reverse-append marks (m ∷ []))
    ∙ ap (λ (gs : List (Saved Value)). kept_of (m ∷ reverse marks) (reverse slows2) gs stacks2 (reverse others2) (reverse records2) (reverse sets2)) whole
    ∙ ap (λ (gs : List (Saved Value)). item gs ∷ kept_of (reverse marks) (rest_if m.has_state (reverse slows2)) (take m.globals globals2) (older_stacks m.stacks stacks2) (rest_if m.has_others (reverse others2)) (rest_if m.has_record (reverse records2)) (rest_if m.has_sets (reverse sets2))) own
    ∙ ap (λ (ws : List RareRegisters). item entries ∷ kept_of (reverse marks) ws (take m.globals globals2) (older_stacks m.stacks stacks2) (rest_if m.has_others (reverse others2)) (rest_if m.has_record (reverse records2)) (rest_if m.has_sets (reverse sets2))) w
    ∙ ap (λ (gs : List (Saved Value)). item entries ∷ kept_of (reverse marks) (reverse slows) gs (older_stacks m.stacks stacks2) (rest_if m.has_others (reverse others2)) (rest_if m.has_record (reverse records2)) (rest_if m.has_sets (reverse sets2))) older
    ∙ ap (λ (xs : StackLists). item entries ∷ kept_of (reverse marks) (reverse slows) (take live globals) xs (rest_if m.has_others (reverse others2)) (rest_if m.has_record (reverse records2)) (rest_if m.has_sets (reverse sets2))) t
    ∙ ap (λ (xs : List RareChanges). item entries ∷ kept_of (reverse marks) (reverse slows) (take live globals) stacks xs (rest_if m.has_record (reverse records2)) (rest_if m.has_sets (reverse sets2))) o
    ∙ ap (λ (xs : List Shown). item entries ∷ kept_of (reverse marks) (reverse slows) (take live globals) stacks (reverse others) xs (rest_if m.has_sets (reverse sets2))) r
    ∙ ap (λ (xs : List (Vec Group)). item entries ∷ kept_of (reverse marks) (reverse slows) (take live globals) stacks (reverse others) (reverse records) xs) s

pub full_added : (marks marks2 : List Mark) (m : Mark) (globals list globals2 entries : List (Saved Value)) (live n : ℕ) (others others2 : List RareChanges) (records records2 : List Shown) (sets sets2 : List (Vec Group)) →
    IsFull marks globals live others records sets → HasDistinctPlaces entries →
    marks2 ≡ marks ++ m ∷ [] → list ≡ take live globals → m.globals ≡ live → globals2 ≡ list ++ entries → n ≡ length globals2 →
    rest_if m.has_others (reverse others2) ≡ reverse others → rest_if m.has_record (reverse records2) ≡ reverse records → rest_if m.has_sets (reverse sets2) ≡ reverse sets →
    IsFull marks2 globals2 n others2 records2 sets2
full_added marks marks2 m globals list globals2 entries live n others others2 records records2 sets sets2 h distinct marked is at behind count o r s =
    let size : length list ≡ live = ap length is ∙ length-take-le live globals h.within in
    let older : take m.globals globals2 ≡ take live globals = ap (λ k. take k globals2) at ∙ (ap (take live) behind ∙ (take_at list entries live size ∙ is)) in
    let whole : take n globals2 ≡ globals2 = take_all n globals2 (omega (arith, count)) in
    let from : AreDistinctFrom m.globals globals2 =
    subst (λ k. AreDistinctFrom k globals2) (size ∙ sym at) (subst (λ (gs : List (Saved Value)). AreDistinctFrom (length list) gs) (sym behind) (distinct_behind list entries distinct)) in
    let total = length-append list entries in
    let rest : AreMarked (reverse marks) (take m.globals globals2) (rest_if m.has_others (reverse others2)) (rest_if m.has_record (reverse records2)) (rest_if m.has_sets (reverse sets2)) =
    rw (older, o, r, s) h.marked in
    let all : AreMarked (m ∷ reverse marks) globals2 (reverse others2) (reverse records2) (reverse sets2) = (omega (arith, at, size, total, ap length behind), from, rest) in
    record {
      within = omega (arith, count);
      marked = subst (λ (gs : List (Saved Value)). AreMarked (reverse marks2) gs (reverse others2) (reverse records2) (reverse sets2)) (sym whole)
          (subst (λ (ms : List Mark). AreMarked ms globals2 (reverse others2) (reverse records2) (reverse sets2)) (sym (ap (λ (ms : List Mark). reverse ms) marked ∙ reverse-append marks (m ∷ []))) all);
    }

-- old values of elements carry that no slot stands twice
few_once : (few : Option (Box FewGroup)) → FewOnce few
few_once None = tt
few_once (Some f) = f.value.arrays.slots.distinct

pub elements_once : (others : Option RareChanges) → ElementsOnce others
elements_once None = tt
elements_once (Some o) = few_once o.few

-- the step with its sets, in front of what was kept
pub is_added : (start now : Layout) (list longer : List (Saved Value)) (frames : FramesGroup) (operands : Option (StackGroup Value)) (others fo : Option RareChanges) (current fr : Option Shown) (output out : ℕ) (registers regs : Registers) (taken fs : Option (Vec Group)) (here : List Group) (old old2 new : List Kept) →
    (e : EndsBehind frames operands others current output registers start now list longer) →
    new ≡ record { step = record { globals = e.entries; frames = frames; operands = operands; others = fo; current = fr; output = out; registers = regs }; sets = items_of fs } ∷ old2 →
    out ≡ output → regs ≡ registers → fo ≡ others → fr ≡ current → fs ≡ taken → items_of taken ≡ here → old2 ≡ old → KeepsStep start now old new here None
is_added start now list longer frames operands others fo current fr output out registers regs taken fs here old old2 new e all p q o r s h same =
    let item : Kept = record { step = record { globals = e.entries; frames = frames; operands = operands; others = others; current = current; output = output; registers = registers }; sets = here } in
    let is : new ≡ item ∷ old = all ∙ rw (p, q, o, r, s, h, same) refl in
    record {
      item = item;
      back = e.back;
      fits = e.fits;
      once = record { globals = e.distinct; elements = elements_once others; alone = e.alone };
      sets = refl;
      front = record { rest = []; is = sym (append-nil new ∙ is) };
      count = omega (arith, ap length is);
    }

-- the newest step, and those before it
pub put_back_is : (marks marks2 : List Mark) (m : Mark) (slows slows2 : List RareRegisters) (slow : RareRegisters) (globals globals2 : List (Saved Value)) (live : ℕ) (stacks stacks2 : StackLists) (others others2 : List RareChanges) (records records2 : List Shown) (sets sets2 : List (Vec Group)) (took_frames : FramesGroup) (took_operands : Option (StackGroup Value)) (took : Option RareChanges) (earlier : Option Shown) (group_sets : Option (Vec Group))
    (item : Kept) (rest : List Kept) (old new : Layout) (cut : List (Saved Value)) (stood ready newer_sets : List Group) (newer_others : Option RareChanges) (newer : Option Shown) →
    marks ≡ marks2 ++ m ∷ [] → cut ≡ take live globals → took_frames ≡ newest_frames m.stacks stacks → took_operands ≡ newest_operands m.stacks stacks → stacks2 ≡ older_stacks m.stacks stacks → took ≡ first_if m.has_others (reverse others) → earlier ≡ first_if m.has_record (reverse records) → group_sets ≡ first_if m.has_sets (reverse sets) → slow ≡ newest_slow (reverse slows) → reverse slows2 ≡ rest_if m.has_state (reverse slows) →
    reverse others2 ≡ rest_if m.has_others (reverse others) → reverse records2 ≡ rest_if m.has_record (reverse records) → reverse sets2 ≡ rest_if m.has_sets (reverse sets) →
    take m.globals globals2 ≡ take m.globals cut → new ≡ put_back old (step_of m slow cut took_frames took_operands took earlier) → globals_on new.globals (drop m.globals globals2) newer_others ≡ old.globals → arrays_in new.arrays newer_others ≡ old.arrays → ArraysFit newer_others new.arrays → record_back new.current newer ≡ old.current →
    ready ≡ items_of group_sets → newer_sets ≡ stood →
    kept_of (reverse marks) (reverse slows) (take live globals) stacks (reverse others) (reverse records) (reverse sets) ≡ item ∷ rest →
    IsPutBack item rest old new stood ready (kept_of (reverse marks2) (reverse slows2) (take m.globals globals2) stacks2 (reverse others2) (reverse records2) (reverse sets2)) (Some (record { globals = drop m.globals globals2; others = newer_others; current = newer; sets = newer_sets }))
put_back_is marks marks2 m slows slows2 slow globals globals2 live stacks stacks2 others others2 records records2 sets sets2 took_frames took_operands took earlier group_sets item rest old new cut stood ready newer_sets newer_others newer marked is tf tp t2 o r s w w2 o2 r2 s2 same now globals_forth arrays_forth fits_forth current_forth readied stood_is e =
    let mine : Kept = record { step = step_of m (newest_slow (reverse slows)) (take live globals) (newest_frames m.stacks stacks) (newest_operands m.stacks stacks) (first_if m.has_others (reverse others)) (first_if m.has_record (reverse records)); sets = items_of (first_if m.has_sets (reverse sets)) } in
    let older : List Kept = kept_of (reverse marks2) (rest_if m.has_state (reverse slows)) (take m.globals (take live globals)) (older_stacks m.stacks stacks) (rest_if m.has_others (reverse others)) (rest_if m.has_record (reverse records)) (rest_if m.has_sets (reverse sets)) in
    let whole : mine ∷ older ≡ item ∷ rest =
    sym (ap (λ (ms : List Mark). kept_of ms (reverse slows) (take live globals) stacks (reverse others) (reverse records) (reverse sets)) (ap (λ (ms : List Mark). reverse ms) marked ∙ reverse-append marks2 (m ∷ []))) ∙ e in
    let first : mine ≡ item = same_first mine item older rest whole in
    let step : step_of m slow cut took_frames took_operands took earlier ≡ mine.step = rw (is, tf, tp, o, r, w) refl in
    record {
      now = now ∙ ap (λ (g : Group). put_back old g) (step ∙ ap (λ (k : Kept). k.step) first);
      sets = readied ∙ (ap items_of s ∙ ap (λ (k : Kept). k.sets) first);
      left = rw (same, is, w2, t2, o2, r2, s2) (same_rest mine item older rest whole);
      forth = record { forth = record { globals = drop m.globals globals2; others = newer_others; current = newer; sets = newer_sets }; is = refl; globals = globals_forth; arrays = arrays_forth; fits = fits_forth; current = current_forth; sets = stood_is };
    }

-- the newest step fits
pub fits_newest : (marks marks2 : List Mark) (m : Mark) (slows : List RareRegisters) (slow : RareRegisters) (globals : List (Saved Value)) (live : ℕ) (stacks : StackLists) (others : List RareChanges) (records : List Shown) (sets : List (Vec Group)) (took_frames : FramesGroup) (took_operands : Option (StackGroup Value)) (took : Option RareChanges) (earlier : Option Shown) (registers : Registers) (cut : List (Saved Value)) (now : Layout) (kept : List Kept) →
    marks ≡ marks2 ++ m ∷ [] → cut ≡ take live globals → took_frames ≡ newest_frames m.stacks stacks → took_operands ≡ newest_operands m.stacks stacks → took ≡ first_if m.has_others (reverse others) → earlier ≡ first_if m.has_record (reverse records) → slow ≡ newest_slow (reverse slows) → registers ≡ registers_by m slow →
    kept ≡ kept_of (reverse marks) (reverse slows) (take live globals) stacks (reverse others) (reverse records) (reverse sets) →
    ((item : Kept) (rest : List Kept) → kept ≡ item ∷ rest → FitsIn item.step now) → FitsIn (step_by m.globals slow.output registers cut took_frames took_operands took earlier) now
fits_newest marks marks2 m slows slow globals live stacks others records sets took_frames took_operands took earlier registers cut now kept marked is tf tp o r w by whole fits =
    let mine : Kept = record { step = step_of m (newest_slow (reverse slows)) (take live globals) (newest_frames m.stacks stacks) (newest_operands m.stacks stacks) (first_if m.has_others (reverse others)) (first_if m.has_record (reverse records)); sets = items_of (first_if m.has_sets (reverse sets)) } in
    let older : List Kept = kept_of (reverse marks2) (rest_if m.has_state (reverse slows)) (take m.globals (take live globals)) (older_stacks m.stacks stacks) (rest_if m.has_others (reverse others)) (rest_if m.has_record (reverse records)) (rest_if m.has_sets (reverse sets)) in
    let split : kept ≡ mine ∷ older =
    whole ∙ ap (λ (ms : List Mark). kept_of ms (reverse slows) (take live globals) stacks (reverse others) (reverse records) (reverse sets)) (ap (λ (ms : List Mark). reverse ms) marked ∙ reverse-append marks2 (m ∷ [])) in
    let step : step_of m slow cut took_frames took_operands took earlier ≡ mine.step = rw (is, tf, tp, o, r, w) refl in
    subst (λ (g : Group). FitsIn g now) (sym (ap (λ (regs : Registers). step_by m.globals slow.output regs cut took_frames took_operands took earlier) by ∙ step)) (fits mine older split)

-- the newest step, lent
pub newest_is : (marks : List Mark) (m : Mark) (slows : List RareRegisters) (globals : List (Saved Value)) (stacks : StackLists) (others : List RareChanges) (records : List Shown) (sets : List (Vec Group)) → (ms : List Mark) → reverse marks ≡ m ∷ ms →
    (item : Kept) × (rest : List Kept) × (kept_of (reverse marks) slows globals stacks others records sets ≡ item ∷ rest) × (item.step.globals ≡ drop m.globals globals) × (item.step.current ≡ first_if m.has_record records) × (item.step.others ≡ first_if m.has_others others)
newest_is marks m slows globals stacks others records sets ms is = (
  record { step = step_of m (newest_slow slows) globals (newest_frames m.stacks stacks) (newest_operands m.stacks stacks) (first_if m.has_others others) (first_if m.has_record records); sets = items_of (first_if m.has_sets sets) },
  kept_of ms (rest_if m.has_state slows) (take m.globals globals) (older_stacks m.stacks stacks) (rest_if m.has_others others) (rest_if m.has_record records) (rest_if m.has_sets sets),
  ap (λ (xs : List Mark). kept_of xs slows globals stacks others records sets) is,
  refl,
  refl,
  refl,
)

-- the last is the newest, or there is none
pub taken : {T : Type 0} (xs : List T) → MatchOption (slice_get xs (length xs - 1)) ((reverse xs ≡ []) × (reverse (take (length xs - 1) xs) ≡ [])) (λ e. reverse xs ≡ e ∷ reverse (take (length xs - 1) xs))
taken [] = (refl, refl)
taken {T} (y ∷ ys) =
    let xs = y ∷ ys in
    let n = length xs - 1 in
    let lt : n < length xs = omega arith in
    let all : xs ≡ take n xs ++ get_or xs n y ∷ [] = sym (take_all (n + 1) xs (omega arith)) ∙ take_more xs n y lt in
    rw (slice_get-get_or xs n y lt) (ap (reverse {A = T}) all ∙ reverse-append (take n xs) (get_or xs n y ∷ []))

-- the last, lent, where there is one
pub lent_some : {T : Type 0} (xs : List T) (o : Option (Bor T)) (r : Bor T) → option_copied o ≡ slice_get xs (length xs - 1) → o ≡ Some r → (rest : List T) × (reverse xs ≡ r.now ∷ rest)
lent_some {T} xs o r last is =
    let some : slice_get xs (length xs - 1) ≡ Some r.now = sym last ∙ ap (λ (x : Option (Bor T)). option_copied x) is in
    (reverse (take (length xs - 1) xs), rw some at (taken xs))

pub popped_is : (marks rest : List Mark) (o : Option Mark) (m : Mark) → marks ≡ rest ++ option_to_list o → o ≡ Some m → marks ≡ rest ++ m ∷ []
popped_is marks rest o m all is = all ∙ ap (λ (x : Option Mark). rest ++ option_to_list x) is

pub others_reverse : (xs : List RareChanges) → saved_in_others (reverse xs) ≡ saved_in_others xs
others_reverse xs = sum_by-IsPermutation saved_in_part xs (reverse xs) (IsPermutation-reverse xs)

pub sets_reverse : (xs : List (Vec Group)) → saved_in_sets (reverse xs) ≡ saved_in_sets xs
sets_reverse xs = sum_by-IsPermutation (λ (v : Vec Group). saved_in_groups v.items) xs (reverse xs) (IsPermutation-reverse xs)

take_none : (n : ℕ) (xs : List (Saved Value)) → xs ≡ [] → [] ≡ take n xs
take_none zero xs is = refl
take_none (suc n) xs is = rw is refl

drop-take_less : (b n : ℕ) (xs : List (Saved Value)) → drop b (take n xs) ≡ take (n - b) (drop b xs)
drop-take_less zero n xs = let e : n - 0 ≡ n = omega arith in ap (λ k. take k xs) (sym e)
drop-take_less (suc b) zero xs = let e : 0 - suc b ≡ 0 = omega arith in ap (λ k. take k (drop (suc b) xs)) (sym e)
drop-take_less (suc b) (suc n) [] = take_none (suc n - suc b) [] refl
drop-take_less (suc b) (suc n) (x ∷ xs) = let e : suc n - suc b ≡ n - b = omega arith in drop-take_less b n xs ∙ ap (λ k. take k (drop b xs)) (sym e)

pub slice_is : (began live : ℕ) (slice globals : List (Saved Value)) → slice ≡ globals → take (live - began) (drop began slice) ≡ drop began (take live globals)
slice_is began live slice globals is = rw is (sym (drop-take_less began live globals))

pub behind_is : (live : ℕ) (slice globals : List (Saved Value)) → slice ≡ globals → take (length slice - live) (drop live slice) ≡ drop live globals
behind_is live slice globals is = rw is (take_all (length globals - live) (drop live globals) (omega (arith, length-drop live globals)))

-- the registers that a mark was made of
pub registers_are : (m : Mark) (s : RareRegisters) (r : Registers) (output : ℕ) → s ≡ slow_of output r → m.place ≡ r.place → m.here ≡ r.here → m.consumed ≡ r.consumed → (if m.has_site then Some m.site else None) ≡ r.site → registers_by m s ≡ r
registers_are m s r output w p h k e = rw (w, p, h, k, e) refl

pub site_is : (o : Option ℕ) → (if is_some o then Some (unwrap_or o 0) else None) ≡ o
site_is None = refl
site_is (Some x) = refl
