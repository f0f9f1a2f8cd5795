-- The text from its first token on stands behind a gap, the longest one.
use Rattle.std.proofs.Common.{◌≡◌, ◌≢◌, ℕ, zero, suc, ◌+◌, ◌-◌, ◌≤◌, Bool, true, false, not, ◌&&◌, cond, ◌==◌, List, [], ◌∷◌, length, drop, refl, sym, ap, subst, ◌∙◌, arith, rules}
use Rattle.std.specs.Prelude.{slice_index}
use Rattle.std.proofs.lemmas.List.{length-drop}
use Rattle.rawk_keywords.specs.declared.class.Class.TheVariants as class
use Rattle.rawk_keywords.specs.Classes.{is_in}
use Rattle.rawk_lexer.specs.Lex.{run, blank_len, skip_from, skip}
use Rattle.rawk_lexer.proofs.Lexemes.{is_same, drop_one}
use Rattle.rawk_lexer.specs.Token.{line_rest, Gap, no_blank, blank, comment, continued, HasNoGap}

-- ---- one blank

line_rest-drop : (z : List ℕ) → drop (run class.Line z) z ≡ line_rest z
line_rest-drop [] = refl
line_rest-drop (b ∷ z) = go (b == 10) (line_rest-drop z)
  where
    go : (s : Bool) → drop (run class.Line z) z ≡ line_rest z → drop (cond (not s) (1 + run class.Line z) 0) (b ∷ z) ≡ cond s (b ∷ z) (line_rest z)
    go true r = refl
    go false r = drop_one (run class.Line z) b z ∙ r

comment_gap : (b : ℕ) (z j : List ℕ) → (b == 35) ≡ true → Gap (drop (1 + run class.Line z) (b ∷ z)) j → Gap (b ∷ z) j
comment_gap b z j h g =
    let e : drop (1 + run class.Line z) (b ∷ z) ≡ line_rest z = drop_one (run class.Line z) b z ∙ line_rest-drop z in
    let P : List ℕ → Type 0 = λ i. Gap i j in
    let Q : ℕ → Type 0 = λ x. Gap (x ∷ z) j in
    subst Q (sym (is_same b 35 h)) (comment (subst P e g))

continued_gap : (b : ℕ) (z j : List ℕ) → (b == 92) ≡ true → (slice_index z 0 == 10) ≡ true → Gap (drop 2 (b ∷ z)) j → Gap (b ∷ z) j
continued_gap b [] j h f g = cc
continued_gap b (c ∷ z) j h f g =
    let Q : ℕ → Type 0 = λ x. Gap (x ∷ c ∷ z) j in
    let R : ℕ → Type 0 = λ x. Gap (92 ∷ x ∷ z) j in
    subst Q (sym (is_same b 92 h)) (subst R (sym (is_same c 10 f)) (continued g))

one_gap : (z j : List ℕ) → Gap (drop (blank_len z) z) j → Gap z j
one_gap [] j g = g
one_gap (b ∷ z) j g = go (is_in class.Blank b) (b == 35) (b == 92) (slice_index z 0 == 10) refl refl refl refl g
  where
    go : (s t u v : Bool) → is_in class.Blank b ≡ s → (b == 35) ≡ t → (b == 92) ≡ u → (slice_index z 0 == 10) ≡ v → Gap (drop (cond s 1 (cond t (1 + run class.Line z) (cond (u && v) 2 0))) (b ∷ z)) j → Gap (b ∷ z) j
    go true t u v a e c d g = blank a g
    go false true u v a e c d g = comment_gap b z j e g
    go false false true true a e c d g = continued_gap b z j c d g
    go false false true false a e c d g = g
    go false false false v a e c d g = g

-- ---- all of them

skip_from-drop : (n : ℕ) (z : List ℕ) → skip_from n z ≡ skip_from 0 (drop n z)
skip_from-drop zero z = refl
skip_from-drop (suc n) [] = refl
skip_from-drop (suc n) (b ∷ z) = skip_from-drop n z

from_goes : (n b : ℕ) (z : List ℕ) → n ≢ 0 → cond (n == 0) (b ∷ z) (skip_from (n - 1) z) ≡ skip_from 0 (drop n (b ∷ z))
from_goes zero b z h = absurd (h refl)
from_goes (suc n) b z h =
    let test : (suc n == 0) ≡ false = search rules in
    let less : suc n - 1 ≡ n = omega arith in
    rw (test, less) (skip_from-drop n z)

stops : (z : List ℕ) → blank_len z ≡ 0 → skip_from 0 z ≡ z
stops [] h = refl
stops (b ∷ z) h = ap (λ n. cond (n == 0) (b ∷ z) (skip_from (n - 1) z)) h

goes : (z : List ℕ) → blank_len z ≢ 0 → skip_from 0 z ≡ skip_from 0 (drop (blank_len z) z)
goes [] h = refl
goes (b ∷ z) h = from_goes (blank_len (b ∷ z)) b z h

-- where no blank stands, nothing is skipped
pub skip_stops : (z : List ℕ) → blank_len z ≡ 0 → skip z ≡ z
unfolding skip
skip_stops z h = stops z h

-- a blank is skipped
pub skip_goes : (z : List ℕ) → blank_len z ≢ 0 → skip z ≡ skip (drop (blank_len z) z)
unfolding skip
skip_goes z h = goes z h

-- a gap up to a place where no blank stands
abbrev Clears : List ℕ → List ℕ → Type 0
Clears z j = Gap z j × (blank_len j ≡ 0)

clears_from : (n : ℕ) (z : List ℕ) → length z ≤ n → Clears z (skip_from 0 z)
clears_from n [] h = (no_blank, refl)
clears_from zero (b ∷ z) h = absurd (omega arith)
clears_from (suc n) (b ∷ z) h = go (blank_len (b ∷ z)) refl (clears_from n)
  where
    go : (m : ℕ) → blank_len (b ∷ z) ≡ m → ((i : List ℕ) → length i ≤ n → Clears i (skip_from 0 i)) → Clears (b ∷ z) (skip_from 0 (b ∷ z))
    go zero e below = rw (stops (b ∷ z) e) (no_blank, e)
    go (suc m) e below =
        let some : blank_len (b ∷ z) ≢ 0 = λ q. let x : suc m ≡ 0 = sym e ∙ q in cc in
        let short = length-drop m z in
        let f : drop (blank_len (b ∷ z)) (b ∷ z) ≡ drop m z = ap (λ x. drop x (b ∷ z)) e in
        let r = below (drop m z) (omega arith) in
        let P : List ℕ → Type 0 = λ i. Gap i (skip_from 0 (drop m z)) in
        rw (goes (b ∷ z) some, f) (one_gap (b ∷ z) (skip_from 0 (drop m z)) (subst P (sym f) r.0), r.1)

pub skip_clears : (z : List ℕ) → Gap z (skip z) × (blank_len (skip z) ≡ 0)
unfolding skip
skip_clears z = clears_from (length z) z (omega arith)

-- where no blank stands, a gap is empty
pub clear_alone : (z j : List ℕ) → blank_len z ≡ 0 → Gap z j → z ≡ j
clear_alone z j h no_blank = refl
clear_alone z j h (blank {b = b} {z = y} e g) =
    let some : blank_len (b ∷ y) ≡ 1 = rw e refl in absurd (omega (arith, some, h))
clear_alone z j h (comment {z = y} g) = absurd (omega (arith, h))
clear_alone z j h (continued g) = cc

-- a gap up to a place where no blank stands is what is skipped
gap_from : (z j : List ℕ) → Gap z j → blank_len j ≡ 0 → skip_from 0 z ≡ j
gap_from z j no_blank h = stops j h
gap_from z j (blank {b = b} {z = y} e g) h =
    let some : blank_len (b ∷ y) ≡ 1 = rw e refl in
    let step : skip_from 0 (b ∷ y) ≡ skip_from 0 y = ap (λ n. cond (n == 0) (b ∷ y) (skip_from (n - 1) y)) some in
    step ∙ gap_from y j g h
gap_from z j (comment {z = y} g) h =
    let some : blank_len (35 ∷ y) ≢ 0 = λ q. absurd (omega (arith, q)) in
    let f : drop (blank_len (35 ∷ y)) (35 ∷ y) ≡ line_rest y = drop_one (run class.Line y) 35 y ∙ line_rest-drop y in
    goes (35 ∷ y) some ∙ ap (skip_from 0) f ∙ gap_from (line_rest y) j g h
gap_from z j (continued {z = y} g) h = gap_from y j g h

pub gap_skips : (z j : List ℕ) → Gap z j → blank_len j ≡ 0 → skip z ≡ j
unfolding skip
gap_skips z j g h = gap_from z j g h

-- where no gap begins, no blank stands
pub no_gap_clear : (b : ℕ) (z : List ℕ) → HasNoGap (b ∷ z) → blank_len (b ∷ z) ≡ 0
no_gap_clear b z h =
    let e : b ∷ z ≡ drop (blank_len (b ∷ z)) (b ∷ z) = h (drop (blank_len (b ∷ z)) (b ∷ z)) (one_gap (b ∷ z) (drop (blank_len (b ∷ z)) (b ∷ z)) no_blank) in
    let short = length-drop (blank_len (b ∷ z)) (b ∷ z) in
    let f = ap length e in
    omega (arith, short, f)
