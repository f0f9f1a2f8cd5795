use Rattle.std.proofs.Common.{sym}
use Rattle.rawk_tape.proofs.Newlines.{first_at, first_nowhere}
use Rattle.rawk_tape.proofs.lines.first_newline.Goals as goal

pub returns-in-Some : goal.returns-in-Some
returns-in-Some c = sym (first_at c.args.bytes.now c.args.seen c.in-Some.at c.requires.inside c.requires.without c.in-Some.ensures)

pub returns-in-None : goal.returns-in-None
returns-in-None c = sym (first_nowhere c.args.bytes.now c.args.seen c.requires.inside c.requires.without c.in-None.ensures)
