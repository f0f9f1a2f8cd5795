use Rattle.std.proofs.Common.{◌≡◌, ◌+◌, ◌-◌, ◌≤◌, ℕ, cond, nat_lt, Some, None, arith, length, take, drop, ap, sym, ◌∙◌}
use Rattle.std.specs.List.{position_or_len}
use Rattle.std.proofs.lemmas.Bool.Decides.{nat_tests}
use Rattle.std.proofs.lemmas.List.{drop_all, length-drop, take_all}
use Rattle.rawk_tape.specs.Records.{is_newline}
use Rattle.rawk.proofs.in_memory.first_line.Goals as goal

-- where a newline is found
place : (at n size : ℕ) → Some size ≡ cond (nat_lt at n) (Some at) None → size ≡ at
place at n size found = grind (arith, nat_tests)

no_place : (at n : ℕ) → None ≡ cond (nat_lt at n) (Some at) None → n ≤ at
no_place at n none = grind (arith, nat_tests)

pub returns-in-Some-clause-line : goal.returns-in-Some-clause-line
returns-in-Some-clause-line c = ap (λ k. take k c.args.bytes.now) (place _ _ _ c.in-Some.ensures)

pub returns-in-Some-clause-rest : goal.returns-in-Some-clause-rest
returns-in-Some-clause-rest c =
    let at : ℕ = position_or_len is_newline c.args.bytes.now in
    ap (λ k. take (length c.args.bytes.now - (k + 1)) (drop (k + 1) c.args.bytes.now)) (place at (length c.args.bytes.now) c.in-Some.size c.in-Some.ensures)
    ∙ take_all (length c.args.bytes.now - (at + 1)) (drop (at + 1) c.args.bytes.now) (omega (arith, length-drop (at + 1) c.args.bytes.now))

pub returns-in-None-clause-line : goal.returns-in-None-clause-line
returns-in-None-clause-line c =
    let at : ℕ = position_or_len is_newline c.args.bytes.now in
    sym (take_all at c.args.bytes.now (no_place at (length c.args.bytes.now) c.in-None.ensures))

pub returns-in-None-clause-rest : goal.returns-in-None-clause-rest
returns-in-None-clause-rest c =
    let at : ℕ = position_or_len is_newline c.args.bytes.now in
    let far : length c.args.bytes.now ≤ at = no_place at (length c.args.bytes.now) c.in-None.ensures in
    sym (drop_all (at + 1) c.args.bytes.now (omega (arith, far)))
