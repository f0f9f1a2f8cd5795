use Rattle.rawk_names.specs.Refusals.{refused_once}
use Rattle.rawk_names.proofs.laws.is_refused_once.Goals as goal

pub returns : goal.returns
returns c = refused_once
