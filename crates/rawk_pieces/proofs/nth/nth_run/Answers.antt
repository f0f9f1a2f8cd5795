use Rattle.std.proofs.Common.{None, Some, subst, sym}
use Rattle.rawk_pieces.specs.Nth.{IsPassed}
use Rattle.rawk_pieces.proofs.Nths.{counted_last, counted_none}
use Rattle.rawk_pieces.proofs.nth.nth_run.Goals as goal

pub returns-in-None-clause-run : goal.returns-in-None-clause-run
returns-in-None-clause-run g c =
    sym (counted_last (g.C.Class.contains c.args.class.now) c.args.empty_too c.args.text.now c.args.place c.in-Behind.start c.in-Behind.left c.in-Behind.ensures
    (subst (λ b. IsPassed b c.in-Behind.left None) c.counts.ensures c.in-None.ensures)).0

pub returns-in-Some-clause-run : goal.returns-in-Some-clause-run
returns-in-Some-clause-run g c =
    sym (counted_none (g.C.Class.contains c.args.class.now) c.args.empty_too c.args.text.now c.args.place c.in-Behind.start c.in-Behind.left c.in-Some.field-0 c.in-Behind.ensures
    (subst (λ b. IsPassed b c.in-Behind.left (Some c.in-Some.field-0)) c.counts.ensures c.in-Some.ensures))
