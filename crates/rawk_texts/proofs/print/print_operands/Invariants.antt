use Rattle.std.proofs.Common.{◌≡◌, ◌≤◌, List, ◌++◌, length, map, reverse, take, true}
use Rattle.rawk_value.specs.Values.{Bytes, text_of}
use Rattle.rawk_store.specs.Stacked.{live_values}
use Rattle.rawk_operators.specs.Borrowed.{borrowed_value}
use Rattle.rawk_operate.specs.Line.{pieces_behind}
use Rattle.rawk_texts.proofs.print.print_operands.Given as goal

abbrev pub invariant-operands : goal.invariant-operands
invariant-operands l = record {
  within : l.left ≤ length (live_values l.operands.now);
  line : (more : List Bytes) → l.fn.output.now ++ pieces_behind (text_of (borrowed_value l.separator)) true (map text_of (reverse (take l.fn.count (live_values l.operands.now))) ++ more) ≡ l.output.now ++ pieces_behind (text_of (borrowed_value l.separator)) l.leads (map text_of (reverse (take l.left (live_values l.operands.now))) ++ more);
  start : l.output.start ≡ l.fn.output.start;
}

abbrev pub decreases-operands : goal.decreases-operands
decreases-operands l = l.left
