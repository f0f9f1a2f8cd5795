-- Lists of keys that loops still visit.
use Rattle.std.proofs.Common.{◌≡◌, ℕ, suc, zero, ◌+◌, ◌≤◌, List, [], ◌∷◌, length, drop, set, refl, sym, ap, ◌∙◌, arith, slice_get, None, Some}
use Rattle.std.proofs.lemmas.List.{drop_all}
use Rattle.std.proofs.lemmas.Option.{same_Some, none-some}
use Rattle.std.specs.Global.{Vec}
use Rattle.rawk_value.specs.Values.{Bytes}
use Rattle.rawk_frames.specs.LaidKeys.{left_lists, keys_now, without_first}

pub drop_lists : (count : ℕ) (ns : List ℕ) (ls : List (Vec Bytes)) → left_lists (drop count ns) (drop count ls) ≡ drop count (left_lists ns ls)
drop_lists zero ns ls = refl
drop_lists (suc count) [] ls = refl
drop_lists (suc count) (n ∷ ns) [] = nothing (drop count ns)
  where
    nothing : (ms : List ℕ) → left_lists ms [] ≡ []
    nothing [] = refl
    nothing (m ∷ ms) = refl
drop_lists (suc count) (n ∷ ns) (l ∷ ls) = drop_lists count ns ls

pub no_loops : (ns : List ℕ) (ls : List (Vec Bytes)) → None ≡ slice_get ns 0 → left_lists ns ls ≡ []
no_loops [] ls e = refl
no_loops (n ∷ ns) ls e = absurd (none-some n e)

pub no_lists : (ns : List ℕ) (ls : List (Vec Bytes)) → None ≡ slice_get ls 0 → left_lists ns ls ≡ []
no_lists [] ls e = refl
no_lists (n ∷ ns) [] e = refl
no_lists (n ∷ ns) (l ∷ ls) e = absurd (none-some l e)

pub loop_now : (ns : List ℕ) (ls : List (Vec Bytes)) (n : ℕ) (l : Vec Bytes) → Some n ≡ slice_get ns 0 → Some l ≡ slice_get ls 0 → keys_now (left_lists ns ls) ≡ drop n l.items
loop_now [] ls n l e f = absurd (none-some n (sym e))
loop_now (m ∷ ns) [] n l e f = absurd (none-some l (sym f))
loop_now (m ∷ ns) (k ∷ ls) n l e f = ap (λ i. drop i k.items) (sym (same_Some n m e)) ∙ ap (λ (x : Vec Bytes). drop n x.items) (sym (same_Some l k f))

drop_drop : (n : ℕ) (xs : List Bytes) → drop (n + 1) xs ≡ drop 1 (drop n xs)
drop_drop zero xs = refl
drop_drop (suc n) [] = (let e : suc n + 1 ≡ suc (n + 1) = omega arith in ap (λ k. drop {A = Bytes} k []) e)
drop_drop (suc n) (x ∷ xs) = (let e : suc n + 1 ≡ suc (n + 1) = omega arith in ap (λ k. drop k (x ∷ xs)) e) ∙ drop_drop n xs

pub loop_advanced : (ns : List ℕ) (ls : List (Vec Bytes)) (n : ℕ) → Some n ≡ slice_get ns 0 → left_lists (set ns 0 (n + 1)) ls ≡ without_first (left_lists ns ls)
loop_advanced [] ls n e = absurd (none-some n (sym e))
loop_advanced (m ∷ ns) [] n e = refl
loop_advanced (m ∷ ns) (l ∷ ls) n e =
    ap (λ (xs : List Bytes). xs ∷ left_lists ns ls) (drop_drop n l.items ∙ ap (λ k. drop 1 (drop k l.items)) (same_Some n m e))

-- a loop whose keys are all visited
pub loop_over : (ns : List ℕ) (ls : List (Vec Bytes)) (n : ℕ) (l : Vec Bytes) → Some n ≡ slice_get ns 0 → Some l ≡ slice_get ls 0 → length l.items ≤ n → left_lists ns ls ≡ without_first (left_lists ns ls)
loop_over [] ls n l e f le = absurd (none-some n (sym e))
loop_over (m ∷ ns) [] n l e f le = refl
loop_over (m ∷ ns) (k ∷ ls) n l e f le =
    let none : drop m k.items ≡ [] = drop_all m k.items (omega (arith, le, same_Some n m e, ap (λ (x : Vec Bytes). length x.items) (same_Some l k f))) in
    ap (λ (xs : List Bytes). xs ∷ left_lists ns ls) (none ∙ sym (ap (drop 1) none))

pub nothing_left : (ks : List (List Bytes)) → ks ≡ [] → ks ≡ without_first ks
nothing_left ks e = e ∙ sym (ap without_first e)

pub none_there : (ns : List ℕ) (ls : List (Vec Bytes)) → left_lists ns ls ≡ [] → None ≡ slice_get (keys_now (left_lists ns ls)) 0
none_there ns ls e = sym (ap (λ (ks : List (List Bytes)). slice_get (keys_now ks) 0) e)
