use Rattle.std.proofs.Common.{◌<◌, ◌+◌, length, arith}
use Rattle.rawk_pieces.specs.Laws.{AllInRange-push}
use Rattle.rawk_pieces.proofs.Cuts.{singles-step}
use Rattle.rawk_pieces.proofs.pieces.cut_singles.Goals as goal

pub loop-start-preserved : goal.loop-start-preserved
loop-start-preserved c =
    let i = c.loop-start.invariant in
    let inside : c.loop-start.start < length c.args.text.now = omega arith in (
      singles-step c.args.text.now c.loop-start.pieces.items _ c.loop-start.start c.in_ok-push.ensures.items i.0 inside,
      AllInRange-push c.args.text.now c.loop-start.pieces.items _ c.loop-start.start (c.loop-start.start + 1) c.in_ok-push.ensures.items i.1 (omega arith) (omega arith),
    )
