use Rattle.std.proofs.Common.{arith, refl}
use Rattle.rawk_tape.proofs.OneByte.{found_line}
use Rattle.rawk_tape.proofs.tape.Tape.held_line.Goals as goal

pub returns-in-Some-clause-next : goal.returns-in-Some-clause-next
returns-in-Some-clause-next g c =
    found_line g.R.Source.may_give c.args.self.now c.kept.result.now c.args.separator c.consumed.result c.in-Some.at c.consumed-in-Some.result c.args.self.now.consumed c.kept.ensures c.consumed-in-Some.ensures.value refl
    (omega (arith, c.consumed.ensures.value)) (λ k low high. absurd (omega (arith, c.consumed.ensures.value, low, high))) c.in-Some.ensures
