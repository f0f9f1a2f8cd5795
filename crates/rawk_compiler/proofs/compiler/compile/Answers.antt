use Rattle.std.proofs.Common.{subst, sym}
use Rattle.rawk_code.specs.Correct.{CodeOf}
use Rattle.rawk_compiler.proofs.Assembly.{compiled_valid}
use Rattle.rawk_compiler.proofs.Whole.{compiled}
use Rattle.rawk_compiler.proofs.compiler.compile.Goals as goal

pub new-requires : goal.new-requires
new-requires c = compiled_valid c.args.program.now _ c.in_ok-instrs.ensures

pub returns-clause-meaning : goal.returns-clause-meaning
returns-clause-meaning c = subst (CodeOf c.args.program.now) (sym c.in_ok-code.ensures) (compiled c.args.program.now _ c.in_ok-instrs.ensures)
