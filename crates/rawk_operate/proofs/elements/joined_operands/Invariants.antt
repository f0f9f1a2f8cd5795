use Rattle.std.proofs.Common.{◌≡◌, ◌≤◌, List, [], ◌++◌, length, map, reverse, take, true}
use Rattle.rawk_value.specs.Values.{Bytes, text_of}
use Rattle.rawk_store.specs.Stacked.{live_values}
use Rattle.rawk_operators.specs.Borrowed.{borrowed_value}
use Rattle.rawk_operate.specs.Line.{pieces_behind}
use Rattle.rawk_operate.proofs.elements.joined_operands.Given as goal

abbrev pub invariant-subscripts : goal.invariant-subscripts
invariant-subscripts l = record {
  within : l.left ≤ length (live_values l.operands.now);
  texts : (more : List Bytes) → [] ++ pieces_behind (text_of (borrowed_value l.separator)) true (map text_of (reverse (take l.fn.count (live_values l.operands.now))) ++ more) ≡ l.key ++ pieces_behind (text_of (borrowed_value l.separator)) l.leads (map text_of (reverse (take l.left (live_values l.operands.now))) ++ more);
}

abbrev pub decreases-subscripts : goal.decreases-subscripts
decreases-subscripts l = l.left
