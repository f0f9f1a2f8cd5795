use Rattle.rawk_compiler.proofs.FirstOutput.{first_output_law}
use Rattle.rawk_compiler.proofs.laws.first_output.Goals as goal

pub returns : goal.returns
returns c = first_output_law
