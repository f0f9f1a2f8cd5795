use Rattle.std.proofs.Common.{arith, refl}
use Rattle.rawk_syntax.proofs.Readings.{short_unrefused, short_refused, long_refused, refusal_memory}
use Rattle.rawk_syntax.proofs.parsing.parse.Goals as goal

pub returns-then-text-gt-PROGRAM_BYTES-clause-exact : goal.returns-then-text-gt-PROGRAM_BYTES-clause-exact
returns-then-text-gt-PROGRAM_BYTES-clause-exact c = λ ne. long_refused c.args.text.now _ c.refusal_of.result (omega (arith, c.if-text-gt-PROGRAM_BYTES.true)) refl c.refusal_of.ensures

pub returns-in-Ok-clause-exact : goal.returns-in-Ok-clause-exact
returns-in-Ok-clause-exact c = short_unrefused c.args.text.now (omega (arith, c.if-text-gt-PROGRAM_BYTES.false)) c.in-Ok.ensures.exact

pub returns-in-Err-clause-exact : goal.returns-in-Err-clause-exact
returns-in-Err-clause-exact c = λ ne.
    short_refused c.args.text.now c.in-Err.refused c.refusal_of-in-Err.result (omega (arith, c.if-text-gt-PROGRAM_BYTES.false)) (c.in-Err.ensures.exact (λ out. ne (refusal_memory c.args.text.now c.in-Err.refused c.refusal_of-in-Err.result c.refusal_of-in-Err.ensures out))) c.refusal_of-in-Err.ensures

pub returns-in-Err-clause-derived : goal.returns-in-Err-clause-derived
returns-in-Err-clause-derived c = λ items short orderly. refusal_memory c.args.text.now c.in-Err.refused c.refusal_of-in-Err.result c.refusal_of-in-Err.ensures (c.in-Err.ensures.derived items orderly)
