use Rattle.std.proofs.Common.{◌≡◌, ◌<◌, ◌+◌, ℕ, Bool, length, get_or, arith, ap, sym, ◌∙◌}
use Rattle.rawk_pieces.proofs.Cuts.{IsCut-skip, IsCut-end}
use Rattle.rawk_pieces.proofs.pieces.cut_bytes.Goals as goal
use Rattle.rawk_pieces.proofs.pieces.cut_bytes.Goals.{then-has+in_ok-end_run, else-has}

pub loop-end-preserved : goal.loop-end-preserved
loop-end-preserved g c =
    let p : ℕ → Bool = g.C.Class.contains c.args.class.now in
    let text = c.args.text.now in
    let end = c.loop-end.end in
    let inside : end < length text = omega arith in
    elim c.if-has.branch [
      | then-has+in_ok-end_run w ↦
          rw (w.pieces-is, w.start-is)
          (IsCut-end p c.args.empty_too text c.loop-end.pieces.items _ c.loop-end.start end c.loop-end.invariant inside (sym c.has.ensures ∙ w.if-has.true) w.in_ok-end_run.ensures)
      | else-has w ↦
          rw (w.pieces-is, w.start-is)
          (IsCut-skip p c.args.empty_too text c.loop-end.pieces.items c.loop-end.start end (end + 1) c.loop-end.invariant (omega arith) (omega arith)
          (λ k l h. let e : k ≡ end = omega arith in ap (λ n. p (get_or text n 0)) e ∙ (sym c.has.ensures ∙ w.if-has.false)))
    ]
