-- A token takes at least one byte, except at the end.
use Rattle.std.proofs.Common.{◌≡◌, ◌≢◌, ℕ, zero, suc, ◌+◌, ◌-◌, ◌<◌, ◌≤◌, Bool, true, false, ◌&&◌, ◌||◌, cond, ◌==◌, List, [], ◌∷◌, length, drop, Option, Some, None, refl, ap, ◌∙◌, arith}
use Rattle.std.specs.Prelude.{slice_index}
use Rattle.std.proofs.lemmas.List.{length-drop}
use Rattle.rawk_keywords.specs.declared.class.Class.{Class}
use Rattle.rawk_keywords.specs.declared.class.Class.TheVariants as class
use Rattle.rawk_keywords.specs.declared.token.Kind.{Kind}
use Rattle.rawk_keywords.specs.declared.token.Kind.TheVariants.{EndOfText}
use Rattle.rawk_keywords.specs.Classes.{is_in}
use Rattle.rawk_lexer.specs.Lex.{Token, run, mantissa_len, number_len, begins_number, closing, closed, quoted, double, two_or_one, symbol, token, blank_len, skip_from, skip, kind, next, left}

run_moves : (c : Class) (b : ℕ) (z : List ℕ) → is_in c b ≡ true → 1 ≤ run c (b ∷ z)
run_moves c b z h = rw h (omega arith)

number_moves : (b : ℕ) (z : List ℕ) → begins_number b (slice_index z 0) ≡ true → 1 ≤ number_len (b ∷ z)
number_moves b z h = go (is_in class.Digit b) (b == 46) refl refl h
  where
    go : (s t : Bool) → is_in class.Digit b ≡ s → (b == 46) ≡ t → (s || (t && is_in class.Digit (slice_index z 0))) ≡ true → 1 ≤ number_len (b ∷ z)
    go true t d p h = let m = run_moves class.Digit b z d in omega (arith, m)
    go false true d p h =
        let none : run class.Digit (b ∷ z) ≡ 0 = rw d refl in
        let m : 1 ≤ mantissa_len (b ∷ z) = rw (none, p) (omega arith) in
        omega (arith, m)
    go false false d p h = cc

closing_after : (is_escaped : Bool) (at : ℕ) (z : List ℕ) (end : ℕ) → closing is_escaped at z ≡ Some end → at < end
closing_after is_escaped at [] end h = cc
closing_after true at (b ∷ z) end h = let r = closing_after false (at + 1) z end h in omega arith
closing_after false at (b ∷ z) end h = go (b == 34) (b == 10) h (closing_after (b == 92) (at + 1) z end)
  where
    go : (s t : Bool) → cond s (Some (at + 1)) (cond t None (closing (b == 92) (at + 1) z)) ≡ Some end → (closing (b == 92) (at + 1) z ≡ Some end → at + 1 < end) → at < end
    go true t h r = let e : at + 1 ≡ end = cc in omega arith
    go false true h r = cc
    go false false h r = let l = r h in omega arith

closed_moves : (o : Option ℕ) → ((end : ℕ) → o ≡ Some end → 1 ≤ end) → 1 ≤ (closed o).1
closed_moves None h = omega arith
closed_moves (Some end) h = h end refl

quoted_moves : (z : List ℕ) → 1 ≤ (quoted z).1
quoted_moves z = closed_moves (closing false 1 (drop 1 z)) (λ end h. let l = closing_after false 1 (drop 1 z) end h in omega arith)

two_moves : (b : ℕ) (o : Option Kind) → 1 ≤ (two_or_one b o).1
two_moves b None = omega arith
two_moves b (Some c) = omega arith

symbol_moves : (b n : ℕ) → 1 ≤ (symbol b n).1
unfolding symbol
symbol_moves b n = two_moves b (double b n)

choose : (b : Bool) (s t : Token) → (b ≡ true → 1 ≤ s.1) → (b ≡ false → 1 ≤ t.1) → 1 ≤ (cond b s t).1
choose true s t h g = h refl
choose false s t h g = g refl

pub token_moves : (b : ℕ) (z : List ℕ) → 1 ≤ (token (b ∷ z)).1
unfolding token
token_moves b z =
    choose (begins_number b (slice_index z 0)) _ _ (λ h. number_moves b z h) (λ _.
    choose (is_in class.Word b) _ _ (λ h. run_moves class.Word b z h) (λ _.
    choose (b == 34) _ _ (λ h. quoted_moves (b ∷ z)) (λ _. symbol_moves b (slice_index z 0))))

skip_from_shrinks : (n : ℕ) (z : List ℕ) → length (skip_from n z) ≤ length z
skip_from_shrinks n [] = omega arith
skip_from_shrinks (suc n) (b ∷ z) = let r = skip_from_shrinks n z in omega arith
skip_from_shrinks zero (b ∷ z) = go (blank_len (b ∷ z) == 0) (skip_from_shrinks (blank_len (b ∷ z) - 1) z)
  where
    go : (t : Bool) → length (skip_from (blank_len (b ∷ z) - 1) z) ≤ length z → length (cond t (b ∷ z) (skip_from (blank_len (b ∷ z) - 1) z)) ≤ length (b ∷ z)
    go true r = omega arith
    go false r = omega arith

-- blanks only take from a text
pub skip_shrinks : (z : List ℕ) → length (skip z) ≤ length z
unfolding skip
skip_shrinks z = skip_from_shrinks 0 z

dropped : (n : ℕ) (z : List ℕ) → 1 ≤ n → 0 < length z → length (skip (drop n z)) < length z
dropped n z h g = let a = skip_shrinks (drop n z) in let b = length-drop n z in omega arith

token_nil : (token []).0 ≡ EndOfText
unfolding token
token_nil = refl

-- no text is left at the end alone
pub some_left : (z : List ℕ) → kind z ≢ EndOfText → 0 < left z
unfolding kind left token
some_left z h = go (skip z) refl
  where
    go : (s : List ℕ) → skip z ≡ s → 0 < length (skip z)
    go [] e = absurd (h (ap (λ s. (token s).0) e))
    go (b ∷ s) e = rw e (omega arith)

-- behind a token less text is left
pub next_shrinks : (z : List ℕ) → kind z ≢ EndOfText → left (next z) < left z
unfolding kind left next
next_shrinks z h = go (skip z) refl
  where
    go : (s : List ℕ) → skip z ≡ s → length (skip (drop (token (skip z)).1 (skip z))) < length (skip z)
    go [] e = absurd (h (ap (λ s. (token s).0) e ∙ token_nil))
    go (b ∷ s) e = rw e (dropped (token (b ∷ s)).1 (b ∷ s) (token_moves b s) (omega arith))
