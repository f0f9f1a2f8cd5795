use Rattle.std.proofs.Common.{◌∙◌, sym}
use Rattle.rawk_ere_pattern.proofs.BracketLemmas.{bracket_negated, bracket_none_negated}
use Rattle.rawk_ere_pattern.proofs.bracket.bracket_at.Goals as goal

pub returns-in-None-clause-is : goal.returns-in-None-clause-is
returns-in-None-clause-is c = bracket_none_negated c.args.at c.args.pattern.now (sym c.is_at.ensures ∙ c.if-is_at.true) c.in-None.ensures.is

pub returns-in-Some-clause-is : goal.returns-in-Some-clause-is
returns-in-Some-clause-is c =
    bracket_negated c.args.at c.in-Some.next c.args.pattern.now c.empty-set.result c.gather.new.set c.complement-others.result (sym c.is_at.ensures ∙ c.if-is_at.true) c.empty-set.ensures
    c.in-Some.ensures.is c.complement-others.ensures
