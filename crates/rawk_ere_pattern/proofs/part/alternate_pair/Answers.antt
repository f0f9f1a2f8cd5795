use Rattle.rawk_ere_pattern.proofs.PartLemmas.{tree-Either-pair}
use Rattle.rawk_ere_pattern.proofs.part.alternate_pair.Goals as goal

pub returns : goal.returns
returns c = tree-Either-pair c.in_ok-parts.parts c.args.a c.args.b c.in_ok-parts.ensures
