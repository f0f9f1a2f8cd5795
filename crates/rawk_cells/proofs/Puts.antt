-- Values that are put into a slot and taken out of it again.
use Rattle.std.proofs.Common.{◌≡◌, refl, ◌≤◌, ◌<◌, ◌+◌, ◌++◌, ◌∙◌, ℕ, List, ap, sym, subst, inl, inr, length, Some, None, Result, Ok, Err, OnErr, take, arith}
use Rattle.std.specs.Prelude.{slice_get, slice_set, slice_index_or}
use Rattle.std.proofs.lemmas.List.{set-set, set-get_or, set_past, get_or-set_same, take-append-le, take_all, take_at}
use Rattle.std.proofs.lemmas.Option.{get_or_from_slice_get, slice_get_cases}
use Rattle.rawk_value.specs.declared.value.Value.{Value}
use Rattle.rawk_value.specs.declared.value.Value.TheVariants.{Uninitialized, String}
use Rattle.rawk_value.specs.Values.{Bytes, text_of}
use Rattle.rawk_slots.specs.Journaled.{Journaled, at_rest}
use Rattle.rawk_cells.specs.declared.cells.Appended.{Appended}
use Rattle.rawk_cells.specs.declared.cells.Grown.{Grown}
use Rattle.rawk_cells.specs.Cells.{Grew, GrewAlone, IsAppended, OnSameTexts, added_at, before_growth, cut_at, lengthened, longer_at, own_length, shortened}

pub same_set : (xs : List Value) (p : ℕ) (v : Value) → slice_get xs p ≡ Some v → slice_set xs p v ≡ xs
same_set xs p v h = ap (λ w. slice_set xs p w) (sym (get_or_from_slice_get xs p v v h)) ∙ set-get_or xs p v

pub put_again : (xs : List Value) (p : ℕ) (v u : Value) → slice_get xs p ≡ Some v → slice_set (slice_set xs p u) p v ≡ xs
put_again xs p v u h = set-set xs p u v ∙ same_set xs p v h

pub rested : (slots : Journaled (List Value)) → slots.start ≡ slots.now → at_rest slots.now ≡ slots
rested slots rest = ap (λ (xs : List Value). let j : Journaled (List Value) = record { now = slots.now; start = xs } in j) (sym rest)

-- what stood there stands there again
pub same_again : (slots mid new : Journaled (List Value)) (p : ℕ) (v u : Value) → slice_get slots.now p ≡ Some v → slots.start ≡ slots.now → mid ≡ at_rest (slice_set slots.now p u) → new ≡ at_rest (slice_set mid.now p v) → new ≡ slots
same_again slots mid new p v u h rest m n =
    n ∙ (ap (λ (j : Journaled (List Value)). at_rest (slice_set j.now p v)) m ∙ (ap (λ (xs : List Value). at_rest xs) (put_again slots.now p v u h) ∙ rested slots rest))

pub on_err : {T E : Type 0} (r : Result T E) (P : Type 0) → P → OnErr r P
on_err (Ok x) P p = tt
on_err (Err x) P p = p

-- what stood there still stands there
pub same_there : (slots new : Journaled (List Value)) (p : ℕ) (v : Value) → slice_get slots.now p ≡ Some v → slots.start ≡ slots.now → new ≡ at_rest (slice_set slots.now p v) → new ≡ slots
same_there slots new p v h rest e = e ∙ (ap (λ (xs : List Value). at_rest xs) (same_set slots.now p v h) ∙ rested slots rest)

-- a longer text stands there
pub grew : (slots new : Journaled (List Value)) (p n : ℕ) (text longer more : Bytes) → slice_get slots.now p ≡ Some (String text) → new ≡ at_rest (slice_set slots.now p (String longer)) →
    longer ≡ text ++ more → n ≡ length text → Grew p more slots.now new (Some n)
grew slots new p n text longer more h e t k =
    let v : slice_index_or slots.now p Uninitialized ≡ String text = get_or_from_slice_get slots.now p (String text) Uninitialized h in
    let is : new ≡ at_rest (longer_at p more slots.now) =
    e ∙ (ap (λ (b : Bytes). at_rest (slice_set slots.now p (String b))) t
    ∙ ap (λ (w : Value). at_rest (slice_set slots.now p (String (text_of w ++ more)))) (sym v)) in
    (ap (λ j. j.start) is, ap (λ j. j.now) is, ap own_length v ∙ sym k, v ∙ ap (λ (w : Value). String (text_of w)) (sym v))

pub before_on : (g : Grown) (slots new : Journaled (List Value)) (more : Bytes) (n : ℕ) → GrewAlone g slots → Grew g.place more slots.now new (Some n) → before_growth (Some g) new.start ≡ before_growth (Some g) slots.start
before_on g slots new more n a w =
    let p = g.place in
    let t = text_of (slice_index_or slots.now p Uninitialized) in
    let own : g.count ≤ length t = subst (λ k. g.count ≤ k) (ap own_length w.3) a.count in
    let back = λ (xs : List Value). slice_set xs p (shortened g.count (slice_index_or xs p Uninitialized)) in
    let at : slice_index_or (longer_at p more slots.now) p Uninitialized ≡ String (t ++ more) = get_or-set_same slots.now p (String (t ++ more)) Uninitialized a.within in
    ap back w.0
    ∙ (ap (λ (v : Value). slice_set (longer_at p more slots.now) p (shortened g.count v)) at
    ∙ (set-set slots.now p (String (t ++ more)) (String (take g.count (t ++ more)))
    ∙ (ap (λ (b : Bytes). slice_set slots.now p (String b)) (take-append-le g.count t more own)
    ∙ (ap (λ (v : Value). slice_set slots.now p (shortened g.count v)) (sym w.3)
    ∙ ap back (sym a.rest)))))

-- a text that grew first leads back
pub grew_first : (slots new : Journaled (List Value)) (p n : ℕ) (more : Bytes) → p < length slots.now → slots.start ≡ slots.now → Grew p more slots.now new (Some n) →
    GrewAlone (record { place = p; count = n }) slots × (before_growth (Some (record { place = p; count = n })) slots.start ≡ slots.start)
grew_first slots new p n more h rest w =
    let t = text_of (slice_index_or slots.now p Uninitialized) in
    let own : length t ≡ n = ap own_length (sym w.3) ∙ w.2 in
    let back = λ (xs : List Value). slice_set xs p (shortened n (slice_index_or xs p Uninitialized)) in (
      record { within = h; rest = rest; count = omega (arith, w.2) },
      ap back rest
          ∙ (ap (λ (v : Value). slice_set slots.now p (shortened n v)) w.3
          ∙ (ap (λ (b : Bytes). slice_set slots.now p (String b)) (take_all n t (omega arith))
          ∙ (ap (λ (v : Value). slice_set slots.now p v) (sym w.3) ∙ (set-get_or slots.now p Uninitialized ∙ sym rest)))),
    )

past_from_none : (xs : List Value) (p : ℕ) → slice_get xs p ≡ None → length xs ≤ p
past_from_none xs p h = elim ((slice_get_cases xs p).1) [ inl a ↦ absurd (let e = a.2 in cc) | inr b ↦ b.0 ]

-- no global has this number
pub longer_past : (xs : List Value) (p : ℕ) (more : Bytes) → slice_get xs p ≡ None → longer_at p more xs ≡ xs
longer_past xs p more h = set_past xs p (String (text_of (slice_index_or xs p Uninitialized) ++ more)) (past_from_none xs p h)

-- what was cut off comes behind the text again
pub again : (a : Appended) (xs : List Value) → IsAppended a xs → added_at a.place a.more (cut_at a.place a.count xs) ≡ xs
again a xs h =
    let p = a.place in
    let first : List Value = slice_set xs p (String h.front) in
    let cut : cut_at p a.count xs ≡ first = ap (λ (w : Value). slice_set xs p (shortened a.count w)) h.is ∙ ap (λ (b : Bytes). slice_set xs p (String b)) (take_at h.front a.more a.count h.size) in
    ap (λ (ys : List Value). added_at p a.more ys) cut
    ∙ (ap (λ (w : Value). slice_set first p (lengthened a.more w)) (get_or-set_same xs p (String h.front) Uninitialized h.within)
    ∙ (set-set xs p (String h.front) (String (h.front ++ a.more))
    ∙ (ap (λ (w : Value). slice_set xs p w) (sym h.is) ∙ set-get_or xs p Uninitialized)))

-- where the value in a slot stayed, all slots did
pub unset_slot : {T E : Type 0} (r : Result T E) (xs ys : List Value) (p : ℕ) (v w : Value) → slice_get xs p ≡ Some v → xs ≡ ys → OnErr r (w ≡ v) → OnErr r (slice_set xs p w ≡ ys)
unset_slot (Ok x) xs ys p v w h e same = tt
unset_slot (Err x) xs ys p v w h e same = ap (λ (u : Value). slice_set xs p u) same ∙ (same_set xs p v h ∙ e)

-- nothing is written
pub texts_stay : (slots new : Journaled (List Value)) (p : ℕ) (v : Value) → slice_get slots.now p ≡ Some v → new ≡ at_rest (slice_set slots.now p v) → OnSameTexts slots.now new
texts_stay slots new p v held is = subst (OnSameTexts slots.now) (sym (is ∙ ap at_rest (same_set slots.now p v held))) (record { size = refl; rest = refl; lengths = λ q. refl })
