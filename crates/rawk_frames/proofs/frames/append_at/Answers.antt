use Rattle.rawk_frames.proofs.Nested.{longer_lent, other_lent, refused_lent, same_lent}
use Rattle.rawk_frames.proofs.frames.append_at.Goals as goal

pub returns-in-Holds-clause-did : goal.returns-in-Holds-clause-did
returns-in-Holds-clause-did c =
    longer_lent c.args.locals.now.now c.args.place c.args.more.now c.lend_oldest.result.now _ c.lengthen.new.value c.requires c.lend_oldest.ensures.value c.in-Holds.is c.lengthen.result c.lengthen.ensures.did

pub returns-in-Holds-clause-other : goal.returns-in-Holds-clause-other
returns-in-Holds-clause-other c =
    other_lent c.args.locals.now.now c.args.place c.lend_oldest.result.now _ c.lengthen.new.value c.requires c.lend_oldest.ensures.value c.in-Holds.is c.lengthen.result c.lengthen.ensures.other

pub returns-in-Holds-clause-err : goal.returns-in-Holds-clause-err
returns-in-Holds-clause-err c =
    refused_lent c.args.locals.now.now c.args.place c.lend_oldest.result.now _ c.lengthen.new.value c.requires c.lend_oldest.ensures.value c.in-Holds.is c.lengthen.result c.lengthen.ensures.err

pub returns-in-Names-clause-other : goal.returns-in-Names-clause-other
returns-in-Names-clause-other c = same_lent c.args.locals.now.now c.args.place c.lend_oldest.result.now c.requires c.lend_oldest.ensures.value
