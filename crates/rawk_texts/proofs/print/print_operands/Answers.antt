use Rattle.std.proofs.Common.{◌≡◌, ◌∙◌, ◌+◌, ◌-◌, ◌<◌, ap, arith, length, map, reverse, take}
use Rattle.rawk_value.specs.Values.{text_of}
use Rattle.rawk_store.specs.Stacked.{live_values}
use Rattle.rawk_operators.specs.Borrowed.{borrowed_value}
use Rattle.rawk_operate.specs.LineLaws.{operand_printed}
use Rattle.rawk_texts.proofs.print.print_operands.Goals as goal

pub operands-preserved : goal.operands-preserved
operands-preserved c =
    let vs = live_values c.args.operands.now.now in
    let n = c.operands.left - 1 in
    let m : c.operands.left ≡ n + 1 = omega (arith, c.operands-test.true) in
    let h : n < length vs = omega (arith, c.operands-test.true, c.operands.invariant.within) in
    record {
      within = omega (arith, h);
      line = λ more. operand_printed (text_of (borrowed_value c.args.separator)) c.operands.leads c.args.output.now.now c.operands.output.now c.print_piece.new.output.now (text_of (borrowed_value c.popped_borrowed.result)) vs c.operands.left n
          (map text_of (reverse (take c.args.count vs))) more m h (ap text_of c.popped_borrowed.ensures) (c.operands.invariant.line more) c.in_ok-print_piece.ensures.did;
      start = c.print_piece.ensures.start ∙ c.operands.invariant.start;
    }
