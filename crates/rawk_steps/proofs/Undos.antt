-- Groups that are put back one after another.
use Rattle.std.proofs.Common.{◌≡◌, ℕ, ◌+◌, ◌-◌, ◌<◌, ◌≤◌, List, [], ◌∷◌, ◌++◌, length, get_or, set, take, drop, reverse, refl, sym, ap, ◌∙◌, subst, arith}
use Rattle.std.proofs.lemmas.List.{get_or-take, take_more, drop_more, drop-set, take-take, reverse-append}
use Rattle.rawk_value.specs.declared.value.Value.{Value}
use Rattle.rawk_record.specs.Shown.{Shown, record_back}
use Rattle.rawk_arrays.specs.Laid.{Laid}
use Rattle.rawk_store.specs.Groups.{Group}
use Rattle.rawk_store.specs.Back.{back}
use Rattle.rawk_store.specs.Layout.{Layout}
use Rattle.rawk_store.specs.GroupBack.{ArraysFit, FitsIn, arrays_in, put_back}
use Rattle.rawk_steps.specs.Leading.{AllArraysFit, all_back, arrays_forth, globals_forth, record_forth}
use Rattle.rawk_steps.specs.Closing.{FitAll}

all_back_append : (l : Layout) (gs : List Group) (g : Group) → all_back l (gs ++ g ∷ []) ≡ put_back (all_back l gs) g
all_back_append l [] g = refl
all_back_append l (x ∷ gs) g = all_back_append (put_back l x) gs g

-- what stands at a place, where the lists begin alike
pub same_at : (xs ys : List Group) (i k : ℕ) (d : Group) → take i xs ≡ take i ys → k < i → get_or xs k d ≡ get_or ys k d
same_at xs ys i k d h p = sym (get_or-take i xs k d p) ∙ ap (λ (zs : List Group). get_or zs k d) h ∙ get_or-take i ys k d p

-- the newest of the groups that are left
pub left_newest : (fn : List Group) (i : ℕ) (x : Group) → 0 < i → i ≤ length fn → x ≡ get_or fn (i - 1) x → reverse (take i fn) ≡ x ∷ reverse (take (i - 1) fn)
left_newest fn i x pos le is =
    let n : i - 1 + 1 ≡ i = omega arith in
    ap (λ k. reverse (take k fn)) (sym n) ∙ ap (λ (gs : List Group). reverse gs) (take_more fn (i - 1) x (omega arith) ∙ ap (λ (y : Group). take (i - 1) fn ++ y ∷ []) (sym is)) ∙ reverse-append (take (i - 1) fn) (x ∷ [])

pub left_fits : (l : Layout) (fn : List Group) (i : ℕ) (x : Group) → 0 < i → i ≤ length fn → x ≡ get_or fn (i - 1) x → FitAll l (reverse (take i fn)) → FitsIn x l × FitAll (put_back l x) (reverse (take (i - 1) fn))
left_fits l fn i x pos le is h = subst (FitAll l) (left_newest fn i x pos le is) h

pub done_one : (first now : Layout) (fn : List Group) (i : ℕ) (x : Group) → 0 < i → i ≤ length fn → x ≡ get_or fn (i - 1) x → now ≡ all_back first (reverse (drop i fn)) → put_back now x ≡ all_back first (reverse (drop (i - 1) fn))
done_one first now fn i x pos le is e =
    let n : i - 1 + 1 ≡ i = omega arith in
    let cut : drop (i - 1) fn ≡ x ∷ drop i fn = drop_more fn (i - 1) x (omega arith) ∙ ap (λ (y : Group). y ∷ drop (i - 1 + 1) fn) (sym is) ∙ ap (λ k. x ∷ drop k fn) n in
    ap (λ (m : Layout). put_back m x) e ∙ sym (all_back_append first (reverse (drop i fn)) x) ∙ ap (all_back first) (sym (reverse-append (x ∷ []) (drop i fn))) ∙ ap (λ (gs : List Group). all_back first (reverse gs)) (sym cut)

cut_set : (gs : List Group) (i : ℕ) (y : Group) → 0 < i → i ≤ length gs → drop (i - 1) (set gs (i - 1) y) ≡ y ∷ drop i gs
cut_set gs i y pos le = let n : i - 1 + 1 ≡ i = omega arith in drop-set gs (i - 1) y (omega arith) ∙ ap (λ k. y ∷ drop k gs) n

pub globals_one : (now old : List Value) (gs : List Group) (i : ℕ) (y : Group) → 0 < i → i ≤ length gs → back now y.globals ≡ old → globals_forth now (drop (i - 1) (set gs (i - 1) y)) ≡ globals_forth old (drop i gs)
globals_one now old gs i y pos le e = ap (globals_forth now) (cut_set gs i y pos le) ∙ ap (λ (xs : List Value). globals_forth xs (drop i gs)) e

pub arrays_one : (now old : Laid) (gs : List Group) (i : ℕ) (y : Group) → 0 < i → i ≤ length gs → arrays_in now y.others ≡ old → arrays_forth now (drop (i - 1) (set gs (i - 1) y)) ≡ arrays_forth old (drop i gs)
arrays_one now old gs i y pos le e = ap (arrays_forth now) (cut_set gs i y pos le) ∙ ap (λ (a : Laid). arrays_forth a (drop i gs)) e

pub fits_one : (now old : Laid) (gs : List Group) (i : ℕ) (y : Group) → 0 < i → i ≤ length gs → arrays_in now y.others ≡ old → ArraysFit y.others now → AllArraysFit old (drop i gs) → AllArraysFit now (drop (i - 1) (set gs (i - 1) y))
fits_one now old gs i y pos le e fit all =
    subst (AllArraysFit now) (sym (cut_set gs i y pos le)) (fit, subst (λ (a : Laid). AllArraysFit a (drop i gs)) (sym e) all)

pub record_one : (now old : Shown) (gs : List Group) (i : ℕ) (y : Group) → 0 < i → i ≤ length gs → record_back now y.current ≡ old → record_forth now (drop (i - 1) (set gs (i - 1) y)) ≡ record_forth old (drop i gs)
record_one now old gs i y pos le e = ap (record_forth now) (cut_set gs i y pos le) ∙ ap (λ (s : Shown). record_forth s (drop i gs)) e

pub take_less : (xs ys : List Group) (i j : ℕ) → j ≤ i → take i xs ≡ take i ys → take j xs ≡ take j ys
take_less xs ys i j le h = sym (take-take j i xs le) ∙ ap (take j) h ∙ take-take j i ys le
