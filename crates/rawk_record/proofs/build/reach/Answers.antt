use Rattle.std.proofs.Common.{refl}
use Rattle.rawk_record.proofs.Drafts.{ahead-more}
use Rattle.rawk_record.proofs.build.reach.Goals as goal

pub returns-then-is_next-clause-text : goal.returns-then-is_next-clause-text
returns-then-is_next-clause-text c =
    let next = c.if-is_next.ensures refl in
    ahead-more c.args.text.now.items c.args.from.now c.args.separator.now c.args.needed c.args.ahead c.args.piece c.if-needed.true c.requires.ahead.0 c.requires.piece.0 next.0 next.1
