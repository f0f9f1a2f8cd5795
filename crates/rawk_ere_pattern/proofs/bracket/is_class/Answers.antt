use Rattle.std.proofs.Common.{◌∙◌, sym}
use Rattle.rawk_ere_pattern.proofs.PatternLemmas.{class_tests}
use Rattle.rawk_ere_pattern.proofs.bracket.is_class.Goals as goal

pub returns-then-is_at-clause-is : goal.returns-then-is_at-clause-is
returns-then-is_at-clause-is c =
    class_tests c.is_at-then-is_at.result c.args.at c.args.pattern.now (sym c.is_at.ensures ∙ c.if-is_at.true) c.is_at-then-is_at.ensures
