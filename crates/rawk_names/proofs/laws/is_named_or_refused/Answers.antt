use Rattle.rawk_names.specs.Refusals.{named_or_refused}
use Rattle.rawk_names.proofs.laws.is_named_or_refused.Goals as goal

pub returns : goal.returns
returns c = named_or_refused
