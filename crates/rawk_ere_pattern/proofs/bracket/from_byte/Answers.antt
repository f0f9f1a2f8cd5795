use Rattle.std.proofs.Common.{◌∙◌, sym, ap, drop}
use Rattle.rawk_ere_pattern.specs.Pattern.{ended_by}
use Rattle.rawk_ere_pattern.proofs.PatternLemmas.{alone_no_hyphen, alone_before_end, ranged, ended_in, ended_out}
use Rattle.rawk_ere_pattern.proofs.bracket.from_byte.Goals as goal
use Rattle.rawk_ere_pattern.proofs.bracket.from_byte.Goals.{then-not-is_at-via-then-not-is_at, then-not-is_at-via-else-not-is_at+then-is_at}

pub returns-then-not-is_at-clause-is : goal.returns-then-not-is_at-clause-is
returns-then-not-is_at-clause-is c = elim c.then-not-is_at.branch [
  | then-not-is_at-via-then-not-is_at w ↦ alone_no_hyphen c.args.low (drop c.args.at c.args.pattern.now) (sym c.is_at.ensures ∙ w.if-not-is_at.true)
  | then-not-is_at-via-else-not-is_at+then-is_at w ↦ alone_before_end c.args.low c.args.at c.args.pattern.now (sym w.is_at-else-not-is_at.ensures ∙ w.if-is_at.true)
]

pub returns-in-None-clause-is : goal.returns-in-None-clause-is
returns-in-None-clause-is c =
    ranged c.args.low c.args.at c.args.pattern.now (sym c.is_at.ensures ∙ c.if-not-is_at.false) (sym c.is_at-else-not-is_at.ensures ∙ c.if-is_at.false)
    ∙ ap (ended_by c.args.low) c.in-None.ensures.is

pub returns-then-low-high-clause-is : goal.returns-then-low-high-clause-is
returns-then-low-high-clause-is c =
    ranged c.args.low c.args.at c.args.pattern.now (sym c.is_at.ensures ∙ c.if-not-is_at.false) (sym c.is_at-else-not-is_at.ensures ∙ c.if-is_at.false)
    ∙ ap (ended_by c.args.low) c.in-Some.ensures.is ∙ ended_in c.args.low c.in-Some.high (drop c.in-Some.next c.args.pattern.now) c.if-low-high.true

pub returns-else-low-high-clause-is : goal.returns-else-low-high-clause-is
returns-else-low-high-clause-is c =
    ranged c.args.low c.args.at c.args.pattern.now (sym c.is_at.ensures ∙ c.if-not-is_at.false) (sym c.is_at-else-not-is_at.ensures ∙ c.if-is_at.false)
    ∙ ap (ended_by c.args.low) c.in-Some.ensures.is ∙ ended_out c.args.low c.in-Some.high (drop c.in-Some.next c.args.pattern.now) c.if-low-high.false
