use Rattle.std.proofs.Common.{◌≡◌, ◌≢◌, ℕ, ◌+◌, ◌-◌, ◌<◌, ◌≤◌, suc, zero, List, [], ◌∷◌, ◌++◌, ◌⊎◌, inl, inr, length, get_or, set, take, drop, slice_get, Some, refl, sym, ap, ◌∙◌, arith, get_or-set_other, get_or-set_same, IsTrue, ◌↔◌, nat_eq, nat_lt, true}
use Rattle.std.proofs.lemmas.Bool.Decides.{Decides-eqb, Decides-ltb}
use Rattle.std.proofs.lemmas.List.{get_or-take, get_or_push, get_or_append_left, set-set, set_comm, set-get_or, length-set, drop_more, length_push, take-take, drop-set}
use Rattle.std.proofs.lemmas.Bool.{cases_eq, cases_lt}
use Rattle.std.specs.List.{list_any}
use Rattle.std.proofs.lemmas.List.Folds.{list_any_at}
use Rattle.std.proofs.lemmas.Map.Steps.{le-length_from_below}
use Rattle.std.proofs.lemmas.Option.{none-some, same_Some, slice_get_within, slice_get-get_or, get_or_from_slice_get}
use Rattle.rawk_slots.specs.declared.saved.Saved.{Saved}
use Rattle.rawk_slots.specs.BackLaws.{AreBelow-more, length-back, length-places}
use Rattle.rawk_slots.specs.Back.{back, AreBelow, IsSavedAt, IsJournal, places, AreDistinctFrom, HasAdded, HasDistinctPlaces}

-- the newest is put back first
pub back_push : {T : Type 0} (xs : List T) (es : List (Saved T)) (e : Saved T) → back xs (es ++ e ∷ []) ≡ back (set xs e.place e.old) es
back_push xs [] e = refl
back_push {T} xs (d ∷ es) e = ap (λ (ys : List T). set ys d.place d.old) (back_push xs es e)

-- a write to a place is hidden under a later write to it
pub back_under : {T : Type 0} (xs : List T) (es : List (Saved T)) (p : ℕ) (v w : T) → set (back (set xs p v) es) p w ≡ set (back xs es) p w
back_under xs [] p v w = set-set xs p v w
back_under {T} xs (e ∷ es) p v w =
    elim (cases_eq e.place p) [
      | inl s ↦ rw s (set-set (back (set xs p v) es) p e.old w ∙ back_under xs es p v w ∙ sym (set-set (back xs es) p e.old w))
      | inr d ↦ set_comm (back (set xs p v) es) e.place p e.old w d ∙ ap (λ (ys : List T). set ys e.place e.old) (back_under xs es p v w) ∙ sym (set_comm (back xs es) e.place p e.old w d)
    ]

-- a write to a saved place is forgotten
pub back_hides : {T : Type 0} (xs : List T) (es : List (Saved T)) (j p : ℕ) (v : T) → IsSavedAt es j p → back (set xs p v) es ≡ back xs es
back_hides xs [] j p v s = absurd (none-some s.0 s.1)
back_hides xs (e ∷ es) zero p v s = let h : e.place ≡ p = ap (λ d. d.place) (same_Some _ _ s.1) ∙ s.2 in rw h (back_under xs es p v e.old)
back_hides {T} xs (e ∷ es) (suc j) p v s = ap (λ (ys : List T). set ys e.place e.old) (back_hides xs es j p v (s.0, s.1, s.2))

-- a first write, with what stood there saved, is taken back
pub back_saves : {T : Type 0} (xs : List T) (es : List (Saved T)) (e : Saved T) (v : T) → e.old ≡ get_or xs e.place e.old → back (set xs e.place v) (es ++ e ∷ []) ≡ back xs es
back_saves {T} xs es e v h =
    back_push (set xs e.place v) es e
    ∙ ap (λ (ys : List T). back ys es) (set-set xs e.place v e.old ∙ (ap (λ (x : T). set xs e.place x) h ∙ set-get_or xs e.place e.old))

pub AreBelow-push : {T : Type 0} (n : ℕ) (es : List (Saved T)) (e : Saved T) → AreBelow n es → e.place < n → AreBelow n (es ++ e ∷ [])
AreBelow-push n [] e h p = (p, tt)
AreBelow-push n (d ∷ es) e h p = (h.0, AreBelow-push n es e h.1 p)

pub AreBelow-at : {T : Type 0} (n : ℕ) (es : List (Saved T)) (j : ℕ) (d : Saved T) → AreBelow n es → j < length es → (get_or es j d).place < n
AreBelow-at n [] j d h p = absurd (omega arith)
AreBelow-at n (e ∷ es) zero d h p = h.0
AreBelow-at n (e ∷ es) (suc j) d h p = AreBelow-at n es j d h.1 (omega arith)

pub AreBelow-from : {T : Type 0} (n b : ℕ) (es : List (Saved T)) (j : ℕ) (d : Saved T) → AreBelow n (drop b es) → b ≤ j → j < length es → (get_or es j d).place < n
AreBelow-from n b [] j d h le p = absurd (omega arith)
AreBelow-from n zero (e ∷ es) j d h le p = AreBelow-at n (e ∷ es) j d h p
AreBelow-from n (suc b) (e ∷ es) zero d h le p = absurd (omega arith)
AreBelow-from n (suc b) (e ∷ es) (suc j) d h le p = AreBelow-from n b es j d h (omega arith) (omega arith)

-- one step of the loop that puts back
pub back_drop : {T : Type 0} (xs : List T) (es : List (Saved T)) (i : ℕ) (d : Saved T) → i < length es → back xs (drop i es) ≡ set (back xs (drop (i + 1) es)) (get_or es i d).place (get_or es i d).old
back_drop xs es i d h = ap (back xs) (drop_more es i d h)

pub same_at : {T : Type 0} (xs ys : List T) (i k : ℕ) (d : T) → take i xs ≡ take i ys → k < i → get_or xs k d ≡ get_or ys k d
same_at {T} xs ys i k d h p = sym (get_or-take i xs k d p) ∙ (ap (λ (zs : List T). get_or zs k d) h ∙ get_or-take i ys k d p)

-- the test of the code
pub saved_test : {T : Type 0} (xs : List (Saved T)) (i p : ℕ) (x : Saved T) → i < length xs → IsTrue (nat_eq (get_or xs i x).place p) ↔ IsSavedAt xs i p
saved_test xs i p x h = (
  λ t. (get_or xs i x, slice_get-get_or xs i x h, (Decides-eqb (get_or xs i x).place p).0 t),
  λ s. (Decides-eqb (get_or xs i x).place p).1 (ap (λ e. e.place) (get_or_from_slice_get xs i s.0 x s.1) ∙ s.2),
)

pub no_test : {T : Type 0} (xs : List (Saved T)) (i p : ℕ) → length xs ≤ i → IsTrue (nat_lt i (length xs)) ↔ IsSavedAt xs i p
no_test xs i p h =
    (λ t. absurd (omega (arith, (Decides-ltb i (length xs)).0 t)), λ s. absurd (omega (arith, slice_get_within xs i s.0 s.1)))

pub slice_get-append_left : {T : Type 0} (xs ys : List T) (i : ℕ) → i < length xs → slice_get (xs ++ ys) i ≡ slice_get xs i
slice_get-append_left [] ys i h = absurd (omega arith)
slice_get-append_left (x ∷ xs) ys zero h = refl
slice_get-append_left (x ∷ xs) ys (suc i) h = slice_get-append_left xs ys i (omega arith)

-- a place that is saved for the first time gets its mark
pub IsJournal-push : {T : Type 0} (items : List T) (marks : List ℕ) (saved : List (Saved T)) (e : Saved T) (v : T) →
    IsJournal items marks saved → e.place < length items → (IsSavedAt saved (get_or marks e.place 0) e.place → ⊥) →
    IsJournal (set items e.place v) (set marks e.place (length saved)) (saved ++ e ∷ [])
IsJournal-push {T} items marks saved e v h p fresh = record {
  marked = length-set marks e.place (length saved) ∙ (h.marked ∙ sym (length-set items e.place v));
  below = let k : length (set items e.place v) ≡ length items = length-set items e.place v in rw k (AreBelow-push (length items) saved e h.below p);
  once = λ j d q. mark j d q (cases_lt j (length saved));
}
  where
    mark : (j : ℕ) (d : Saved T) → slice_get (saved ++ e ∷ []) j ≡ Some d → (j < length saved) ⊎ (length saved ≤ j) → get_or (set marks e.place (length saved)) d.place 0 ≡ j
    mark j d q (inl lt) =
        let old : slice_get saved j ≡ Some d = sym (slice_get-append_left saved (e ∷ []) j lt) ∙ q in
        let ne : d.place ≢ e.place = λ s. fresh (d, rw (← s, h.once j d old) old, s) in
        get_or-set_other marks e.place d.place (length saved) 0 ne ∙ h.once j d old
    mark j d q (inr ge) =
        let last : j ≡ length saved = omega (arith, slice_get_within (saved ++ e ∷ []) j d q, length_push saved e) in
        let same : e ≡ d = sym (get_or_push saved e d j (sym last)) ∙ get_or_from_slice_get (saved ++ e ∷ []) j d d q in
        rw (← same, last) (get_or-set_same marks e.place (length saved) 0 (omega (arith, h.marked)))

AreBelow-of : {T : Type 0} (n : ℕ) (es : List (Saved T)) (j : ℕ) (e : Saved T) → AreBelow n es → slice_get es j ≡ Some e → e.place < n
AreBelow-of n es j e b q = let k = AreBelow-at n es j e b (slice_get_within es j e q) in rw (get_or_from_slice_get es j e e q) at k

pub IsJournal-add : {T : Type 0} (items : List T) (marks : List ℕ) (saved : List (Saved T)) (v : T) → IsJournal items marks saved → IsJournal (items ++ v ∷ []) (marks ++ 0 ∷ []) saved
IsJournal-add {T} items marks saved v h = record {
  marked = length_push marks 0 ∙ (ap (λ n. n + 1) h.marked ∙ sym (length_push items v));
  below = AreBelow-more (length items) (length (items ++ v ∷ [])) saved (omega (arith, length_push items v)) h.below;
  once = λ j e q.
      let p : e.place < length items = AreBelow-of (length items) saved j e h.below q in
      get_or_append_left marks (0 ∷ []) 0 e.place (omega (arith, h.marked)) ∙ h.once j e q;
}

pub IsJournal-none : {T : Type 0} (items : List T) (marks : List ℕ) → length marks ≡ length items → IsJournal items marks []
IsJournal-none items marks h = record { marked = h; below = tt; once = λ j e q. absurd (cc q) }

-- an entry with another old value stands at the same place
pub places-set : {T : Type 0} (xs : List (Saved T)) (i : ℕ) (e d : Saved T) → e.place ≡ (get_or xs i d).place → places (set xs i e) ≡ places xs
places-set [] i e d h = refl
places-set (x ∷ xs) zero e d h = ap (λ (n : ℕ). n ∷ places xs) h
places-set (x ∷ xs) (suc i) e d h = ap (λ (ns : List ℕ). x.place ∷ ns) (places-set xs i e d h)

entry_at : {T : Type 0} (xs : List (Saved T)) (i : ℕ) → i < length (places xs) → (e : Saved T) × (slice_get xs i ≡ Some e) × (get_or (places xs) i 0 ≡ e.place)
entry_at [] i h = absurd (omega arith)
entry_at (x ∷ xs) zero h = (x, refl, refl)
entry_at (x ∷ xs) (suc i) h = entry_at xs i (omega arith)

-- a journal's places are distinct
pub distinct_places : {T : Type 0} (items : List T) (marks : List ℕ) (saved : List (Saved T)) → IsJournal items marks saved → HasDistinctPlaces saved
distinct_places items marks saved h i j _ _ p q e =
    let d = entry_at saved i p in
    let f = entry_at saved j q in
    let same : d.0.place ≡ f.0.place = sym d.2 ∙ (e ∙ f.2) in
    sym (h.once i d.0 d.1) ∙ (ap (λ n. get_or marks n 0) same ∙ h.once j f.0 f.1)

-- one turn of the loop that puts back
pub back_next : {T : Type 0} (xs items : List T) (es : List (Saved T)) (i : ℕ) (e : Saved T) (x : T) → 0 < i → i ≤ length es → items ≡ back xs (drop i es) → e ≡ get_or es (i - 1) e → x ≡ e.old → set items e.place x ≡ back xs (drop (i - 1) es)
back_next {T} xs items es i e x p le h q y =
    let n : i - 1 + 1 ≡ i = omega arith in
    let put : T → Saved T → List T = λ v d. set (back xs (drop i es)) d.place v in
    ap (λ (ys : List T). set ys e.place x) h
    ∙ (ap (λ v. put v e) y
    ∙ (ap (λ (d : Saved T). set (back xs (drop i es)) d.place d.old) q
    ∙ (ap (λ k. set (back xs (drop k es)) (get_or es (i - 1) e).place (get_or es (i - 1) e).old) (sym n)
    ∙ sym (back_drop xs es (i - 1) e (omega arith)))))

pub take_less : {T : Type 0} (xs ys : List T) (i j : ℕ) → j ≤ i → take i xs ≡ take i ys → take j xs ≡ take j ys
take_less xs ys i j le h = sym (take-take j i xs le) ∙ (ap (take j) h ∙ take-take j i ys le)

get_drop : {T : Type 0} (i k : ℕ) (xs : List T) → slice_get (drop i xs) k ≡ slice_get xs (i + k)
get_drop zero k xs = let e : k ≡ 0 + k = omega arith in ap (slice_get xs) e
get_drop (suc i) k [] = refl
get_drop (suc i) k (x ∷ xs) = let e : suc (i + k) ≡ suc i + k = omega arith in get_drop i k xs ∙ ap (slice_get (x ∷ xs)) e

-- what stands at a place that is not saved
back_other : {T : Type 0} (xs : List T) (es : List (Saved T)) (p : ℕ) (d : T) → ((k : ℕ) (e : Saved T) → slice_get es k ≡ Some e → p ≢ e.place) → get_or (back xs es) p d ≡ get_or xs p d
back_other xs [] p d ne = refl
back_other xs (e ∷ es) p d ne = get_or-set_other (back xs es) e.place p e.old d (ne 0 e refl) ∙ back_other xs es p d (λ k f h. ne (suc k) f h)

place_at : {T : Type 0} (xs : List (Saved T)) (i : ℕ) (e : Saved T) → slice_get xs i ≡ Some e → (i < length (places xs)) × (get_or (places xs) i 0 ≡ e.place)
place_at [] i e h = absurd (cc h)
place_at (x ∷ xs) zero e h = (omega arith, ap (λ d. d.place) (same_Some _ _ h))
place_at (x ∷ xs) (suc i) e h = let r = place_at xs i e h in (omega (arith, r.0), r.1)

-- one turn of the loop that puts back: the entries lead forward again
pub newer_next : {T : Type 0} (xs items : List T) (es saved : List (Saved T)) (i : ℕ) (e y : Saved T) (v d : T) (began : ℕ) → began < i → 0 < i → i ≤ length es → i ≤ length saved → AreDistinctFrom began es → e ≡ get_or es (i - 1) e →
    items ≡ back xs (drop i es) → back items (drop i saved) ≡ xs → y.place ≡ e.place → y.old ≡ get_or items e.place d → back (set items e.place v) (drop (i - 1) (set saved (i - 1) y)) ≡ xs
newer_next {T} xs items es saved i e y v d began from pos le le2 distinct is done newer same old =
    let p = e.place in
    let w = y.old in
    let n : i - 1 + 1 ≡ i = omega arith in
    let here : slice_get es (i - 1) ≡ Some e = slice_get-get_or es (i - 1) e (omega arith) ∙ ap (λ (x : Saved T). Some x) (sym is) in
    let other : (k : ℕ) (f : Saved T) → slice_get (drop i es) k ≡ Some f → p ≢ f.place = λ k f h eq.
    let a = place_at es (i - 1) e here in
    let b = place_at es (i + k) f (sym (get_drop i k es) ∙ h) in
    let q : i - 1 ≡ i + k = distinct (i - 1) (i + k) (omega (arith, from)) (omega (arith, from)) a.0 b.0 (a.1 ∙ (eq ∙ sym b.1)) in
    omega (arith, q) in
    let stays : get_or items p d ≡ get_or xs p d = ap (λ (zs : List T). get_or zs p d) done ∙ back_other xs (drop i es) p d other in
    ap (back (set items p v)) (drop-set saved (i - 1) y (omega arith) ∙ ap (λ k. y ∷ drop k saved) n)
    ∙ (ap (λ k. set (back (set items p v) (drop i saved)) k w) same
    ∙ (back_under items (drop i saved) p v w
    ∙ (ap (λ (zs : List T). set zs p w) newer
    ∙ (ap (λ (x : T). set xs p x) (old ∙ stays)
    ∙ set-get_or xs p d))))

get_set_other : {T : Type 0} (ys : List T) (i p : ℕ) (v : T) → p ≢ i → slice_get (set ys i v) p ≡ slice_get ys p
get_set_other [] i p v ne = refl
get_set_other (y ∷ ys) zero zero v ne = absurd (ne refl)
get_set_other (y ∷ ys) zero (suc p) v ne = refl
get_set_other (y ∷ ys) (suc i) zero v ne = refl
get_set_other (y ∷ ys) (suc i) (suc p) v ne = get_set_other ys i p v (λ e. ne (ap suc e))

get_set_same : {T : Type 0} (ys : List T) (p : ℕ) (v : T) → p < length ys → slice_get (set ys p v) p ≡ Some v
get_set_same [] p v h = absurd (omega arith)
get_set_same (y ∷ ys) zero v h = refl
get_set_same (y ∷ ys) (suc p) v h = get_set_same ys p v (omega arith)

-- what stands at a saved place
pub back_found : {T : Type 0} (xs : List T) (es : List (Saved T)) (i : ℕ) (e : Saved T) (p : ℕ) → slice_get es i ≡ Some e → e.place ≡ p → p < length xs → ((k : ℕ) (f : Saved T) → k < i → slice_get es k ≡ Some f → p ≢ f.place) → slice_get (back xs es) p ≡ Some e.old
back_found xs [] i e p h is lt ne = absurd (none-some e h)
back_found {T} xs (x ∷ es) zero e p h is lt ne =
    let same : x ≡ e = same_Some _ _ h in
    ap (λ (d : Saved T). slice_get (set (back xs es) d.place d.old) p) same ∙ ap (λ k. slice_get (set (back xs es) k e.old) p) is ∙ get_set_same (back xs es) p e.old (omega (arith, length-back xs es))
back_found xs (x ∷ es) (suc i) e p h is lt ne = get_set_other (back xs es) x.place p x.old (ne 0 x (omega arith) refl) ∙ back_found xs es i e p h is lt (λ k f le q. ne (suc k) f (omega (arith, le)) q)

pub back_missing : {T : Type 0} (xs : List T) (es : List (Saved T)) (p : ℕ) → ((k : ℕ) (f : Saved T) → slice_get es k ≡ Some f → p ≢ f.place) → slice_get (back xs es) p ≡ slice_get xs p
back_missing xs [] p ne = refl
back_missing xs (x ∷ es) p ne = get_set_other (back xs es) x.place p x.old (ne 0 x refl) ∙ back_missing xs es p (λ k f q. ne (suc k) f q)

-- no entry up to the next is of the place
pub none_next : {T : Type 0} (es : List (Saved T)) (i p : ℕ) (e : Saved T) → slice_get es i ≡ Some e → (e.place ≡ p → ⊥) → ((k : ℕ) (f : Saved T) → k < i → slice_get es k ≡ Some f → p ≢ f.place) → (k : ℕ) (f : Saved T) → k < i + 1 → slice_get es k ≡ Some f → p ≢ f.place
none_next {T} es i p e is ne before k f lt h = elim (cases_eq k i) [
  | inl s ↦
      let there : slice_get es i ≡ Some f = ap (slice_get es) (sym s) ∙ h in
      let same : e ≡ f = same_Some _ _ (sym is ∙ there) in
      λ q. ne (ap (λ (d : Saved T). d.place) same ∙ sym q)
  | inr d ↦ before k f (omega (arith, lt, d)) h
]

-- what a step changed, behind a list
pub added_by : {T : Type 0} (items : List T) (marks : List ℕ) (saved list longer : List (Saved T)) → IsJournal items marks saved → longer ≡ list ++ saved → HasAdded items (back items saved) list longer
added_by items marks saved list longer h is = record { entries = saved; is = is; back = refl; below = h.below; distinct = distinct_places items marks saved h }

-- old values at the same places are below the same number
pub AreBelow-places : {T : Type 0} (n : ℕ) (es ds : List (Saved T)) → places ds ≡ places es → AreBelow n es → AreBelow n ds
AreBelow-places n es [] same h = tt
AreBelow-places n [] (d ∷ ds) same h = absurd (cc same)
AreBelow-places n (e ∷ es) (d ∷ ds) same h = (rw (ap (λ (ps : List ℕ). head_or 0 ps) same) h.0, AreBelow-places n es ds (ap (drop 1) same) h.1)
  where
    head_or : ℕ → List ℕ → ℕ
    head_or d [] = d
    head_or d (x ∷ xs) = x

-- the same, with the list that was made
pub back_saved : {T : Type 0} (xs : List T) (es ns : List (Saved T)) (e : Saved T) (v : T) → ns ≡ es ++ e ∷ [] → e.old ≡ get_or xs e.place e.old → back (set xs e.place v) ns ≡ back xs es
back_saved {T} xs es ns e v is h = ap (λ (ds : List (Saved T)). back (set xs e.place v) ds) is ∙ back_saves xs es e v h

-- a write leaves as many slots at the beginning as there were
pub length-written : {T : Type 0} (xs : List T) (es ns : List (Saved T)) (p : ℕ) (v : T) → length (back (set xs p v) ns) ≡ length (back xs es)
length-written xs es ns p v = length-back (set xs p v) ns ∙ (length-set xs p v ∙ sym (length-back xs es))

-- a journal saves no more values than there are slots
pub saved-le : {T : Type 0} (items : List T) (marks : List ℕ) (saved : List (Saved T)) → IsJournal items marks saved → length saved ≤ length items
saved-le {T} items marks saved h = rw (← h.marked) (le-length_from_below marks (length saved) (λ q lt. marked_at q (entry_at saved q (omega (arith, lt, length-places saved)))))
  where
    marked_at : (q : ℕ) → (e : Saved T) × (slice_get saved q ≡ Some e) × (get_or (places saved) q 0 ≡ e.place) → list_any (nat_eq q) marks ≡ true
    marked_at q (e, there, is) =
        let inside : e.place < length items = AreBelow-of (length items) saved q e h.below there in
        list_any_at (nat_eq q) marks e.place 0 (omega (arith, inside, h.marked)) ((Decides-eqb q (get_or marks e.place 0)).1 (sym (h.once q e there)))
