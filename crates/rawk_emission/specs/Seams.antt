-- Code that stands behind other code, and the jump where they meet.
use Rattle.std.proofs.Common.{◌≡◌, ℕ, ◌+◌, ◌-◌, List, [], ◌∷◌, ◌++◌, length, sym, ap, ◌∙◌, arith, append_assoc, length-append}
use Rattle.std.specs.Prelude.{slice_set}
use Rattle.std.proofs.Math.Seq.{get_or-append_seam, set-append_seam}
use Rattle.rawk_code.specs.declared.code.Instr.{Instr}
use Rattle.rawk_code.specs.declared.code.Instr.TheVariants.{Halt}
use Rattle.rawk_selection.specs.Jumps.{over, led}

-- pieces that were put behind one another
pub glue : (base a b : List Instr) {m n : List Instr} → m ≡ base ++ a → n ≡ m ++ b → n ≡ base ++ (a ++ b)
glue base a b e f = f ∙ ap (λ l. l ++ b) e ∙ append_assoc base a b

-- the jump at a seam
pub led_at : (a b : List Instr) (x : Instr) (n k : ℕ) → n ≡ length a → led (a ++ x ∷ b) n k ≡ a ++ over k x ∷ b
led_at a b x n k e =
    ap (λ m. led (a ++ x ∷ b) m k) e ∙ ap (λ i. slice_set (a ++ x ∷ b) (length a) (over k i)) (get_or-append_seam a x b Halt) ∙ set-append_seam a x b (over k x)

-- a jump that is led over what stands behind it; the code of its test stands in front
pub patch_over : (base test : List Instr) (leap : Instr) (a c1 c2 : List Instr) (n : ℕ) → c1 ≡ base ++ (test ++ leap ∷ []) → n ≡ length base + length test → c2 ≡ c1 ++ a → led c2 n (length c2 - n - 1) ≡ base ++ (test ++ (over (length a) leap ∷ a))
patch_over base test x a c1 c2 n e1 m e2 =
    let q : length c1 ≡ length base + length test + 1 = omega (arith, ap length e1, length-append base (test ++ x ∷ []), length-append test (x ∷ [])) in
    let d : length c2 - n - 1 ≡ length a = omega (arith, ap length e2, length-append c1 a, q, m) in
    let all : c2 ≡ (base ++ test) ++ x ∷ a =
    e2 ∙ ap (λ l. l ++ a) (e1 ∙ sym (append_assoc base test (x ∷ []))) ∙ append_assoc (base ++ test) (x ∷ []) a in
    ap (λ l. led l n (length c2 - n - 1)) all
    ∙ led_at (base ++ test) a x n _ (m ∙ sym (length-append base test))
    ∙ ap (λ k. (base ++ test) ++ over k x ∷ a) d
    ∙ append_assoc base test (over (length a) x ∷ a)
