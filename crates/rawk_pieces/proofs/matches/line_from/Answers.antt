use Rattle.std.proofs.Common.{sym, ◌∙◌}
use Rattle.rawk_pieces.proofs.Newlines.{line_later, line_never}
use Rattle.rawk_pieces.proofs.matches.line_from.Goals as goal

pub returns-then-from-span : goal.returns-then-from-span
returns-then-from-span c =
    sym (line_later c.args.newline c.args.text.now c.args.ahead.from c.args.from c.in-Some.span (sym c.requires.line ∙ c.in-Some.is) c.requires.low c.if-from-span.true)

pub returns-in-None : goal.returns-in-None
returns-in-None c =
    sym (line_never c.args.newline c.args.text.now c.args.ahead.from c.args.from (sym c.requires.line ∙ c.in-None.is) c.requires.low)
