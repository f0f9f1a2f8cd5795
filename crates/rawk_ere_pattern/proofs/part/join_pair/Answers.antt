use Rattle.rawk_ere_pattern.proofs.PartLemmas.{tree-Join-pair}
use Rattle.rawk_ere_pattern.proofs.part.join_pair.Goals as goal

pub returns : goal.returns
returns c = tree-Join-pair c.in_ok-parts.parts c.args.a c.args.b c.in_ok-parts.ensures
