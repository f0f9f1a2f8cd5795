-- Steps that lie in parts, of which the last ones are kept.
use Rattle.std.proofs.Common.{◌≡◌, ℕ, suc, zero, ◌+◌, ◌-◌, ◌<◌, ◌≤◌, min, List, [], ◌∷◌, ◌++◌, get_or, length, take, drop, Option, Some, None, MatchOption, option_copied, refl, sym, ap, ◌∙◌, arith, append-nil, append_assoc}
use Rattle.std.proofs.lemmas.List.{length-append, length-take-le, take-append-drop, take-append-le}
use Rattle.std.proofs.lemmas.List.Sums.{sum_by-append}
use Rattle.rawk_store.specs.Layout.{Layout}
use Rattle.rawk_store.specs.Groups.{Group}
use Rattle.rawk_history.specs.declared.keeper.StepRef.{StepRef}
use Rattle.rawk_history.specs.Steps.{Forth, Kept}
use Rattle.rawk_history.specs.Keeping.{IsFront, IsPutBack, Keeping, KeepsStep}
use Rattle.rawk_history.specs.Parts.{AreFilled, kept_in}
use Rattle.rawk_history.specs.Saving.{saved_by, saved_by_all}
use Rattle.rawk_history.proofs.Flats.{same_first, same_rest}

pub kept_in-append : (xs ys : List Keeping) → kept_in (xs ++ ys) ≡ kept_in xs ++ kept_in ys
kept_in-append [] ys = refl
kept_in-append (x ∷ xs) ys = ap (λ (ks : List Kept). x.kept ++ ks) (kept_in-append xs ys) ∙ sym (append_assoc x.kept (kept_in xs) (kept_in ys))

pub filled_front : (xs ys : List Keeping) → AreFilled (xs ++ ys) → AreFilled xs
filled_front [] ys h = tt
filled_front (x ∷ xs) ys h = (h.0, filled_front xs ys h.1)

pub none : {T : Type 0} (xs : List T) → length xs ≡ 0 → xs ≡ []
none [] is = refl
none (x ∷ xs) is = absurd (omega (arith, is))

-- where there is no limit, one step more is kept
pub one_more : (start now : Layout) (old new : List Kept) (here : List Group) (k : KeepsStep start now old new here None) → new ≡ k.item ∷ old
one_more start now old new here k =
    let rest = k.front.rest in
    let all : k.item ∷ old ≡ new ++ rest = k.front.is in
    let nothing : rest ≡ [] = none rest (omega (arith, ap length all, length-append new rest, k.count)) in
    sym (all ∙ (ap (λ (ks : List Kept). new ++ ks) nothing ∙ append-nil new))

-- and what lies behind stays
pub kept_behind : (start now : Layout) (old new behind : List Kept) (here : List Group) → KeepsStep start now old new here None → KeepsStep start now (old ++ behind) (new ++ behind) here None
kept_behind start now old new behind here k =
    let is : new ++ behind ≡ k.item ∷ (old ++ behind) = ap (λ (ks : List Kept). ks ++ behind) (one_more start now old new here k) in
    record {
      item = k.item;
      back = k.back;
      fits = k.fits;
      once = k.once;
      sets = k.sets;
      front = record { rest = []; is = sym (append-nil (new ++ behind) ∙ is) };
      count = omega (arith, ap length is);
    }

take_front : {T : Type 0} (m n : ℕ) (xs : List T) → m ≤ n → take m (take n xs) ≡ take m xs
take_front zero n xs le = refl
take_front (suc m) zero xs le = absurd (omega (arith, le))
take_front (suc m) (suc n) [] le = refl
take_front {T} (suc m) (suc n) (x ∷ xs) le = ap (λ (ys : List T). x ∷ ys) (take_front m n xs (omega (arith, le)))

-- of all steps the last ones are kept
pub kept_last : (start now : Layout) (all new front : List Kept) (here : List Group) (count m history : ℕ) → KeepsStep start now all new here None → IsFront front new → count ≤ length all → m ≤ length front → m ≡ min (count + 1) history → KeepsStep start now (take count all) (take m front) here (Some history)
kept_last start now all new front here count m history k f within enough is =
    let more : new ≡ k.item ∷ all = one_more start now all new here k in
    let longer : List Kept = k.item ∷ take count all in
    let same : take m longer ≡ take m front = take_front m (suc count) (k.item ∷ all) (omega (arith, is)) ∙ (ap (take m) (sym more ∙ f.is) ∙ take-append-le m front f.rest enough) in
    record {
      item = k.item;
      back = k.back;
      fits = k.fits;
      once = k.once;
      sets = k.sets;
      front = record { rest = drop m longer; is = sym (take-append-drop m longer) ∙ ap (λ (ks : List Kept). ks ++ drop m longer) same };
      count = omega (arith, length-take-le m front enough, length-take-le count all within, is);
    }

pub behind_front : (front more behind : List Kept) → IsFront more behind → IsFront (front ++ more) (front ++ behind)
behind_front front more behind f = record { rest = f.rest; is = ap (λ (ks : List Kept). front ++ ks) f.is ∙ sym (append_assoc front more f.rest) }

-- the newest of the newest part is the newest of all
pub first_last : (count : ℕ) (all newest behind : List Kept) (item : Kept) (rest : List Kept) → 0 < count → newest ++ behind ≡ all → newest ≡ item ∷ rest → take count all ≡ item ∷ take (count - 1) (rest ++ behind)
first_last zero all newest behind item rest some is first = absurd (omega (arith, some))
first_last (suc n) all newest behind item rest some is first =
    let e : suc n - 1 ≡ n = omega arith in
    ap (take (suc n)) (sym is ∙ ap (λ (ks : List Kept). ks ++ behind) first) ∙ ap (λ k. item ∷ take k (rest ++ behind)) (sym e)

none_first : (count : ℕ) (item : Kept) (rest : List Kept) → take count [] ≡ item ∷ rest → ⊥
none_first zero item rest e = absurd (cc e)
none_first (suc n) item rest e = absurd (cc e)

-- the newest step of all was put back
pub put_back_last : (count : ℕ) (all newest newest2 behind : List Kept) (item : Kept) (rest : List Kept) (old new : Layout) (stood ready : List Group) (ahead : Option Forth) →
    0 < count → newest ++ behind ≡ all → (newest ≡ [] → behind ≡ []) → ((i : Kept) (r : List Kept) → newest ≡ i ∷ r → IsPutBack i r old new stood ready newest2 ahead) → take count all ≡ item ∷ rest →
    IsPutBack item rest old new stood ready (take (count - 1) (newest2 ++ behind)) ahead
put_back_last count all [] newest2 behind item rest old new stood ready ahead some is nothing back first =
    let e : take count [] ≡ item ∷ rest = ap (take count) (sym (sym is ∙ nothing refl)) ∙ first in
    absurd (none_first count item rest e)
put_back_last count all (i ∷ r) newest2 behind item rest old new stood ready ahead some is nothing back first =
    let b = back i r refl in
    let e : i ∷ take (count - 1) (r ++ behind) ≡ item ∷ rest = sym (first_last count all (i ∷ r) behind i r some is refl) ∙ first in
    let item_is : i ≡ item = same_first i item (take (count - 1) (r ++ behind)) rest e in
    let rest_is : take (count - 1) (r ++ behind) ≡ rest = same_rest i item (take (count - 1) (r ++ behind)) rest e in
    let put : IsPutBack i (take (count - 1) (r ++ behind)) old new stood ready (take (count - 1) (newest2 ++ behind)) ahead =
    record { now = b.now; sets = b.sets; left = ap (λ (ks : List Kept). take (count - 1) (ks ++ behind)) b.left; forth = b.forth } in
    rw (← item_is, ← rest_is) put

pub within_last : (count gone : ℕ) (all newest newest2 behind : List Kept) → 0 < count → count + gone ≤ length all → newest ++ behind ≡ all → (newest ≡ [] → behind ≡ []) → ((i : Kept) (r : List Kept) → newest ≡ i ∷ r → newest2 ≡ r) → count - 1 + gone ≤ length (newest2 ++ behind)
within_last count gone all [] newest2 behind some within is nothing left = let e : length all ≡ 0 = ap length (sym is ∙ nothing refl) in absurd (omega (arith, e))
within_last count gone all (i ∷ r) newest2 behind some within is nothing left = omega (arith, within, some, ap length is, length-append r behind, length-append newest2 behind, ap length (left i r refl))

-- the newest step of a part that stands first, lent
pub lent_last : (count : ℕ) (all part behind kept : List Kept) (o : Option StepRef) → 0 < count → kept ≡ take count all → part ++ behind ≡ all → 0 < length part →
    MatchOption o (part ≡ []) (λ lent. (item : Kept) × (rest : List Kept) × (part ≡ item ∷ rest) × (lent.globals.now ≡ item.step.globals) × (option_copied lent.current ≡ item.step.current) × (option_copied lent.others ≡ item.step.others)) →
    MatchOption o (kept ≡ []) (λ lent. (item : Kept) × (rest : List Kept) × (kept ≡ item ∷ rest) × (lent.globals.now ≡ item.step.globals) × (option_copied lent.current ≡ item.step.current) × (option_copied lent.others ≡ item.step.others))
lent_last count all part behind kept None some shown is filled h = let e : length part ≡ 0 = ap length h in absurd (omega (arith, e, filled))
lent_last count all part behind kept (Some lent) some shown is filled (item, rest, first, a, b, c) = (item, take (count - 1) (rest ++ behind), shown ∙ first_last count all part behind item rest some is first, a, b, c)

pub stands_first : (parts : List Keeping) (part : Keeping) → 0 < length parts → part ≡ get_or parts 0 part → parts ≡ part ∷ drop 1 parts
stands_first [] part some is = absurd (omega (arith, some))
stands_first (x ∷ xs) part some is = ap (λ (k : Keeping). k ∷ xs) (sym is)

none_behind : {T : Type 0} (n : ℕ) (ys : List T) → take n ys ≡ take n [] ++ take n ys
none_behind zero ys = refl
none_behind (suc n) ys = refl

take_across : {T : Type 0} (n : ℕ) (xs ys : List T) → take n (xs ++ ys) ≡ take n xs ++ take (n - length xs) ys
take_across n [] ys = let e : n - 0 ≡ n = omega arith in none_behind n ys ∙ ap (λ k. take n [] ++ take k ys) (sym e)
take_across zero (x ∷ xs) ys = let e : 0 - length (x ∷ xs) ≡ 0 = omega arith in ap (λ k. take k ys) (sym e)
take_across {T} (suc n) (x ∷ xs) ys = let e : suc n - length (x ∷ xs) ≡ n - length xs = omega arith in ap (λ (zs : List T). x ∷ zs) (take_across n xs ys) ∙ ap (λ k. x ∷ (take n xs ++ take k ys)) (sym e)

-- how many old values the newest steps hold: those in a first part, and those in what lies behind
pub saved_across : (n : ℕ) (part behind : List Kept) → saved_by_all (take n (part ++ behind)) ≡ saved_by_all (take n part) + saved_by_all (take (n - length part) behind)
saved_across n part behind = ap saved_by_all (take_across n part behind) ∙ sum_by-append saved_by (take n part) (take (n - length part) behind)
