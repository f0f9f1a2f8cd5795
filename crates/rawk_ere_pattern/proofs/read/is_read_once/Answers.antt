use Rattle.rawk_ere_pattern.specs.PatternOfLemmas.{read_once}
use Rattle.rawk_ere_pattern.proofs.read.is_read_once.Goals as goal

pub returns : goal.returns
returns c = read_once
