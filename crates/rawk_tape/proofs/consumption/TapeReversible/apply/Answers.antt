use Rattle.std.proofs.Common.{◌≤◌, ℕ, length, subst, sym}
use Rattle.rawk_tape.specs.Tapes.{TapeState, LeadsBack, ReadsAhead}
use Rattle.rawk_tape.proofs.Ahead.{count_back}
use Rattle.rawk_tape.proofs.consumption.TapeReversible.apply.Goals as goal

pub returns-then-change-size-clause-back : goal.returns-then-change-size-clause-back
returns-then-change-size-clause-back g c = λ more a.
    let s = g.R.Source in
    let old = c.args.self.now in
    let new = subst (λ (t : TapeState _). ReadsAhead s.may_give s.over s.handed t more) c.consume.ensures.after a in
    let fits = subst (λ (n : ℕ). n ≤ length old.bytes) c.consumed-count.ensures.value c.consumed-count.ensures.in_range in
    let back = count_back s.may_give s.over s.handed old more c.args.change.count fits new in
    subst (λ (n : ℕ). LeadsBack s.may_give s.over s.handed more n old) (sym c.consumed-count.ensures.value) back
