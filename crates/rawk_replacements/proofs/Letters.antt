-- What the bytes of a replacement stand for.
use Rattle.std.proofs.Common.{◌≡◌, ◌≢◌, ℕ, ◌+◌, arith, Bool, true, false, ◌&&◌, ◌||◌, if◌then◌else◌, List, [], ◌∷◌, ◌++◌, refl, sym, ap, ◌∙◌, append_assoc}
use native.Mathlib.Numerals.{unary_clauses}
use Rattle.std.proofs.Math.ListN.{get_or}
use Rattle.std.specs.Prelude.{nat_eq}
use Rattle.std.proofs.lemmas.List.{append-nil}
use Rattle.std.proofs.lemmas.Bool.{ne_eqb}
use Rattle.rawk_search.specs.Replacements.{replacement}
use Rattle.rawk_replacements.specs.Replaced.{IsPlain}

escaped : (found rest : List ℕ) (b : ℕ) → (nat_eq b 38 || nat_eq b 92) ≡ true → replacement found (92 ∷ b ∷ rest) ≡ b ∷ replacement found rest
unfolding replacement
escaped found rest b h = ap (λ t. if t then b ∷ replacement found rest else 92 ∷ replacement found (b ∷ rest)) h

matched : (found rest : List ℕ) → replacement found (38 ∷ rest) ≡ found ++ replacement found rest
unfolding replacement
matched found [] = sym (append-nil found)
matched found (c ∷ rest) = refl

other : (found rest : List ℕ) (b : ℕ) → nat_eq b 38 ≡ false → nat_eq b 92 ≡ false → replacement found (b ∷ rest) ≡ b ∷ replacement found rest
unfolding replacement
other found [] b m n = ap (λ t. if t then found else b ∷ []) m
other found (c ∷ rest) b m n =
    ap (λ t. if t && (nat_eq c 38 || nat_eq c 92) then c ∷ replacement found rest else if nat_eq b 38 then found ++ replacement found (c ∷ rest) else b ∷ replacement found (c ∷ rest)) n
    ∙ ap (λ t. if t then found ++ replacement found (c ∷ rest) else b ∷ replacement found (c ∷ rest)) m

left_false : (x y : Bool) → (x || y) ≡ false → x ≡ false
left_false true y h = absurd (cc)
left_false false y h = refl

right_false : (x y : Bool) → (x || y) ≡ false → y ≡ false
right_false true y h = absurd (cc)
right_false false y h = h

-- a replacement whose bytes stand for themselves
pub plain : (found by : List ℕ) → IsPlain by → replacement found by ≡ by
unfolding replacement
plain found [] h = refl
plain found (b ∷ rest) h =
    let at = h 0 (omega arith) in
    other found rest b (left_false (nat_eq b 38) (nat_eq b 92) at) (right_false (nat_eq b 38) (nat_eq b 92) at) ∙ ap (λ l. b ∷ l) (plain found rest (λ k lt. let at_next : (nat_eq (get_or (b ∷ rest) (k + 1) 0) 38 || nat_eq (get_or (b ∷ rest) (k + 1) 0) 92) ≡ false = h (k + 1) (omega (arith, lt)) in simp unary_clauses at at_next))

behind_other : (found rest : List ℕ) (b : ℕ) → (nat_eq b 38 || nat_eq b 92) ≡ false → replacement found (92 ∷ b ∷ rest) ≡ 92 ∷ b ∷ replacement found rest
unfolding replacement
behind_other found rest b h =
    ap (λ t. if t then b ∷ replacement found rest else 92 ∷ replacement found (b ∷ rest)) h
    ∙ ap (λ l. 92 ∷ l) (other found rest b (left_false (nat_eq b 38) (nat_eq b 92) h) (right_false (nat_eq b 38) (nat_eq b 92) h))

-- each of them behind a text that is built
pub push_escape : (out new found rest : List ℕ) (b : ℕ) → (nat_eq b 38 || nat_eq b 92) ≡ true → new ≡ out ++ b ∷ [] → new ++ replacement found rest ≡ out ++ replacement found (92 ∷ b ∷ rest)
push_escape out new found rest b h e = ap (λ l. l ++ replacement found rest) e ∙ append_assoc out (b ∷ []) (replacement found rest) ∙ ap (λ l. out ++ l) (sym (escaped found rest b h))

pub push_both : (out mid new found rest : List ℕ) (b : ℕ) → (nat_eq b 38 || nat_eq b 92) ≡ false → mid ≡ out ++ 92 ∷ [] → new ≡ mid ++ b ∷ [] → new ++ replacement found rest ≡ out ++ replacement found (92 ∷ b ∷ rest)
push_both out mid new found rest b h first second =
    ap (λ l. l ++ replacement found rest) (second ∙ ap (λ l. l ++ b ∷ []) first)
    ∙ append_assoc (out ++ 92 ∷ []) (b ∷ []) (replacement found rest) ∙ append_assoc out (92 ∷ []) (b ∷ replacement found rest)
    ∙ ap (λ l. out ++ l) (sym (behind_other found rest b h))

pub push_found : (out new found rest : List ℕ) (b : ℕ) → b ≡ 38 → new ≡ out ++ found → new ++ replacement found rest ≡ out ++ replacement found (b ∷ rest)
push_found out new found rest b is e =
    ap (λ l. l ++ replacement found rest) e ∙ append_assoc out found (replacement found rest) ∙ ap (λ l. out ++ l) (sym (matched found rest)) ∙ ap (λ c. out ++ replacement found (c ∷ rest)) (sym is)

pub push_other : (out new found rest : List ℕ) (b : ℕ) → b ≢ 38 → b ≢ 92 → new ≡ out ++ b ∷ [] → new ++ replacement found rest ≡ out ++ replacement found (b ∷ rest)
push_other out new found rest b m n e = ap (λ l. l ++ replacement found rest) e ∙ append_assoc out (b ∷ []) (replacement found rest) ∙ ap (λ l. out ++ l) (sym (other found rest b (ne_eqb b 38 m) (ne_eqb b 92 n)))

-- the end of a replacement
pub last_byte : (found : List ℕ) → replacement found (92 ∷ []) ≡ 92 ∷ []
unfolding replacement
last_byte found = refl

pub no_byte : (found : List ℕ) → replacement found [] ≡ []
unfolding replacement
no_byte found = refl

pub ends : (out new found : List ℕ) (by left : List ℕ) → left ≡ [] → new ++ replacement found left ≡ out ++ replacement found by → new ≡ out ++ replacement found by
ends out new found by left none h = sym (append-nil new) ∙ ap (λ l. new ++ l) (sym (no_byte found) ∙ ap (replacement found) (sym none)) ∙ h

pub ends_held : (out mid new found : List ℕ) (by left : List ℕ) → left ≡ [] → mid ++ replacement found (92 ∷ left) ≡ out ++ replacement found by → new ≡ mid ++ 92 ∷ [] → new ≡ out ++ replacement found by
ends_held out mid new found by left none h e = e ∙ ap (λ l. mid ++ l) (sym (last_byte found) ∙ ap (λ l. replacement found (92 ∷ l)) (sym none)) ∙ h
