use Rattle.rawk_pieces.proofs.Cuts.{IsCut-last}
use Rattle.rawk_pieces.proofs.pieces.cut_runs.Goals as goal

pub returns-clause-fields : goal.returns-clause-fields
returns-clause-fields g c =
    (IsCut-last (g.C.Class.contains c.args.class.now) c.args.empty_too c.args.text.now c.cut_front.new.pieces.items c.end_run.new.pieces.items c.in_ok-start.start c.in_ok-start.ensures c.in_ok-end_run.ensures).0

pub returns-clause-in_range : goal.returns-clause-in_range
returns-clause-in_range g c =
    (IsCut-last (g.C.Class.contains c.args.class.now) c.args.empty_too c.args.text.now c.cut_front.new.pieces.items c.end_run.new.pieces.items c.in_ok-start.start c.in_ok-start.ensures c.in_ok-end_run.ensures).1
