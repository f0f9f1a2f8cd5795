use Rattle.rawk_syntax.proofs.Readings.{one_refusal}
use Rattle.rawk_syntax.proofs.laws.is_refused_once.Goals as goal

pub returns : goal.returns
returns c = one_refusal
