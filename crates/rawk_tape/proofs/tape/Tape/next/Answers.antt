use Rattle.std.proofs.Common.{◌≡◌, ◌≤◌, ◌<◌, ◌∷◌, [], List, ℕ, length, get_or, arith, refl, sym, subst}
use Rattle.rawk_tape.specs.Records.{next_record}
use Rattle.rawk_tape.specs.Tapes.{Answers}
use Rattle.rawk_tape.proofs.tape.Tape.next.Goals as goal

one_byte : (xs : List ℕ) → 1 ≤ length xs → length xs < 2 → xs ≡ get_or xs 0 0 ∷ []
one_byte [] some few = absurd (omega arith)
one_byte (x ∷ []) some few = refl
one_byte (x ∷ y ∷ ys) some few = absurd (omega arith)

pub returns-in-len1-clause-next : goal.returns-in-len1-clause-next
returns-in-len1-clause-next g c = λ input may.
    let e = one_byte c.args.separator.now c.in-len1.len_at_least c.in-len1.len_below in
    subst (λ (x : List ℕ). Answers (next_record input c.args.self.now.consumed x) c.next_line.new.self.bytes c.next_line.result) (sym e) (c.next_line.ensures.next input may)
