use Rattle.std.proofs.Common.{arith}
use Rattle.rawk_ere_automaton.proofs.TableLemmas.{begins_none_unmarked}
use Rattle.rawk_ere_automaton.proofs.table.beyond.Goals as goal

pub returns-clause-none : goal.returns-clause-none
returns-clause-none c =
    begins_none_unmarked c.args.code.now c.args.text.now c.args.known.now c.args.from c.min.result (omega (arith, c.if-from-eq0.false)) (omega (arith, c.min.ensures)) c.requires.known
    (λ k low high. c.past.ensures.passed k low (omega (arith, high, c.min.ensures)))
