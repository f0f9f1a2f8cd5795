use Rattle.std.proofs.Common.{◌≡◌, ◌∙◌, ◌+◌, ◌-◌, ◌<◌, [], ◌++◌, ap, arith, length, map, reverse, take}
use Rattle.rawk_value.specs.Values.{text_of}
use Rattle.rawk_store.specs.Stacked.{live_values}
use Rattle.rawk_operators.specs.Borrowed.{borrowed_value}
use Rattle.rawk_operate.specs.Line.{pieces_behind}
use Rattle.rawk_operate.specs.LineLaws.{operand_printed}
use Rattle.rawk_operate.proofs.Subscripts.{key_whole}
use Rattle.rawk_operate.proofs.elements.joined_operands.Goals as goal

pub subscripts-preserved : goal.subscripts-preserved
subscripts-preserved c =
    let vs = live_values c.args.operands.now.now in
    let n = c.subscripts.left - 1 in
    let m : c.subscripts.left ≡ n + 1 = omega (arith, c.subscripts-test.true) in
    let h : n < length vs = omega (arith, c.subscripts-test.true, c.subscripts.invariant.within) in
    record {
      within = omega (arith, h);
      texts = λ more. operand_printed (text_of (borrowed_value c.args.separator)) c.subscripts.leads [] c.subscripts.key c.add_piece.new.key (text_of (borrowed_value c.popped_borrowed.result)) vs c.subscripts.left n
          (map text_of (reverse (take c.args.count vs))) more m h (ap text_of c.popped_borrowed.ensures) (c.subscripts.invariant.texts more) c.in_ok-add_piece.ensures;
    }

pub returns : goal.returns
returns c =
    let vs = live_values c.args.operands.now.now in
    let separator = text_of (borrowed_value c.args.separator) in
    let none : c.subscripts.left ≡ 0 = omega (arith, c.subscripts-test.false) in
    key_whole separator c.subscripts.key c.subscripts.leads (map text_of (reverse (take c.args.count vs)))
    (λ more. c.subscripts.invariant.texts more ∙ ap (λ n. c.subscripts.key ++ pieces_behind separator c.subscripts.leads (map text_of (reverse (take n vs)) ++ more)) none)
