use Rattle.std.proofs.Common.{◌≡◌, ◌≤◌, length, take, drop, true}
use Rattle.rawk_resolution.specs.InOrder.{items_in_order}
use Rattle.rawk_names.specs.Named.{known}
use Rattle.rawk_resolution.specs.Meant.{sense}
use Rattle.rawk_syntax.specs.Laid.{IsLaidWith}
use Rattle.rawk_syntax.proofs.items.settle.Given as goal

abbrev pub invariant-loop-item : goal.invariant-loop-item
invariant-loop-item l = record {
  text : l.sites.text.now ≡ l.fn.text;
  settled : IsLaidWith l.fn.text (sense (known l.names)) (take l.item-index l.items) l.program l.sites.lines.items;
  in_order : items_in_order (sense (known l.names)) (length l.program.functions.items) (drop l.item-index l.items) ≡ true;
  bounded : l.program.ranges ≤ length l.program.rules.items;
}
