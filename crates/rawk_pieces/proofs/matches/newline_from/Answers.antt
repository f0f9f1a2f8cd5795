use Rattle.std.proofs.Common.{arith}
use Rattle.std.proofs.lemmas.Slice.{between_to_end}
use Rattle.rawk_pieces.proofs.Newlines.{line_found, line_missing}
use Rattle.rawk_pieces.proofs.matches.newline_from.Goals as goal

pub returns-in-Some : goal.returns-in-Some
returns-in-Some c =
    let s = c.args.text.now in line_found c.args.newline s _ c.args.from c.in-Some.at c.if-not-newline.false (between_to_end s c.args.from _ (omega arith)) c.requires c.in-Some.ensures

pub returns-in-None : goal.returns-in-None
returns-in-None c =
    let s = c.args.text.now in line_missing c.args.newline s _ c.args.from c.if-not-newline.false (between_to_end s c.args.from _ (omega arith)) c.requires c.in-None.ensures
