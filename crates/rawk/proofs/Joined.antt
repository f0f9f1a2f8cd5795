-- Texts that are compared in two parts.
use Rattle.std.proofs.Common.{◌≡◌, ℕ, List, [], ◌∷◌, ◌++◌, length, take, false, ap, sym, refl, ◌∙◌}
use Rattle.std.specs.Str.{bytes_eq}
use Rattle.std.proofs.lemmas.Bool.{eq-eqb, false_from_ne_true}
use Rattle.std.specs.Cmp.Lexicographic.{same_text, other_text}
use Rattle.std.proofs.lemmas.List.{take_at}

-- behind the same text what comes decides
pub same_front : (xs ys ws : List ℕ) → bytes_eq (xs ++ ys) (xs ++ ws) ≡ bytes_eq ys ws
same_front [] ys ws = refl
same_front (x ∷ xs) ys ws = rw (eq-eqb x x refl) (same_front xs ys ws)

-- behind texts that differ nothing does
pub other_front : (xs ys zs ws : List ℕ) → length xs ≡ length zs → bytes_eq xs zs ≡ false → bytes_eq (xs ++ ys) (zs ++ ws) ≡ false
other_front xs ys zs ws size h = false_from_ne_true (bytes_eq (xs ++ ys) (zs ++ ws)) (λ t.
    other_text xs zs (sym h) (sym (take_at xs ys (length xs) refl) ∙ (ap (take (length xs)) (same_text (xs ++ ys) (zs ++ ws) (sym t)) ∙ take_at zs ws (length xs) (sym size))))
