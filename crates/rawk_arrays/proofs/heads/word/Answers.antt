use Rattle.std.proofs.Common.{sym, arith}
use Rattle.rawk_arrays.proofs.Heading.{zeros}
use Rattle.rawk_arrays.proofs.heads.word.Goals as goal

pub returns-then-key-place : goal.returns-then-key-place
returns-then-key-place c = sym (zeros 8 c.args.place c.args.key.now (omega arith))
