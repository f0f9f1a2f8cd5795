-- A part is written a number of times.
use Rattle.std.proofs.Common.{◌≡◌, ℕ, ◌+◌, ◌-◌, List, ◌++◌, sym, ap, ◌∙◌, arith, append_assoc, suc, ◌<◌}
use Rattle.rawk_ere_tree.specs.declared.code.Instruction.{Instruction}
use Rattle.rawk_ere_tree.specs.Code.{maybe_code, times_code, maybes_code}

pub times_more : (new old all part : List Instruction) (count done : ℕ) → done < count → new ≡ old ++ part → old ++ times_code (count - done) part ≡ all → new ++ times_code (count - (done + 1)) part ≡ all
times_more new old all part count done lt e h =
    let n : count - done ≡ suc (count - (done + 1)) = omega arith in
    ap (λ l. l ++ times_code (count - (done + 1)) part) e ∙ append_assoc old part (times_code (count - (done + 1)) part) ∙ ap (λ m. old ++ times_code m part) (sym n) ∙ h

pub maybes_more : (new old all part : List Instruction) (count done : ℕ) → done < count → new ≡ old ++ maybe_code part → old ++ maybes_code (count - done) part ≡ all → new ++ maybes_code (count - (done + 1)) part ≡ all
maybes_more new old all part count done lt e h =
    let n : count - done ≡ suc (count - (done + 1)) = omega arith in
    ap (λ l. l ++ maybes_code (count - (done + 1)) part) e ∙ append_assoc old (maybe_code part) (maybes_code (count - (done + 1)) part) ∙ ap (λ m. old ++ maybes_code m part) (sym n) ∙ h
