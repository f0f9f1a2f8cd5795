use Rattle.rawk_compiler.proofs.TraceLaws.{output_law}
use Rattle.rawk_compiler.proofs.laws.output.Goals as goal

pub returns : goal.returns
returns c = output_law
