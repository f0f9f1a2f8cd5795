use Rattle.std.proofs.Common.{◌+◌, ◌∙◌, length, ap, arith}
use Rattle.rawk_limits.specs.declared.TheConstants.{OPEN_CONSTRUCTS}
use Rattle.rawk_names.specs.Named.{known}
use Rattle.rawk_syntax.specs.Laid as spec
use Rattle.rawk_resolution.specs.Meant.{sense}
use Rattle.rawk_syntax.proofs.AllInOrder.{all_in_order}
use Rattle.rawk_syntax.proofs.StatementOrders.{item_at, items_behind}
use Rattle.rawk_syntax.proofs.Layings.{item_laid}
use Rattle.rawk_syntax.proofs.items.settle.Goals as goal

pub loop-item-init : goal.loop-item-init
loop-item-init c = record {
  text = c.new-sites.ensures.text;
  settled = rw (c.new-3.ensures.items, c.new-4.ensures.items, c.new-5.ensures.items, c.new-6.ensures.items, c.new-sites.ensures.lines) spec.no_item;
  in_order = rw c.new-3.ensures.items (all_in_order (OPEN_CONSTRUCTS + 1) c.args.text.now c.args.items.now (known c.args.names.now) c.requires.derived c.requires.named);
  bounded = omega arith;
}

pub settle_item-requires-clause-in_order : goal.settle_item-requires-clause-in_order
settle_item-requires-clause-in_order c =
    (item_at (sense (known c.args.names.now)) c.args.items.now c.loop-item.item-index c.item-item.result (length c.loop-item.program.functions.items) c.loop-item-test.true c.item-item.is c.loop-item.invariant.in_order).0

pub loop-item-preserved : goal.loop-item-preserved
loop-item-preserved c = record {
  text = ap (λ v. v.now) c.settle_item.ensures.text ∙ c.loop-item.invariant.text;
  settled = item_laid (sense (known c.args.names.now)) c.args.text.now c.loop-item.sites.text.now c.args.items.now c.loop-item.item-index c.item-item.result c.loop-item.sites.lines.items c.settle_item.new.sites.lines.items c.loop-item.program c.settle_item.new.program
      c.loop-item-test.true c.item-item.is c.loop-item.invariant.text c.loop-item.invariant.settled c.in_ok-settle_item.ensures.settled;
  in_order = items_behind (sense (known c.args.names.now)) c.args.items.now c.loop-item.item-index c.item-item.result (length c.loop-item.program.functions.items) (length c.settle_item.new.program.functions.items)
      c.loop-item-test.true c.item-item.is c.in_ok-settle_item.ensures.counted c.loop-item.invariant.in_order;
  bounded = c.in_ok-settle_item.ensures.bounded;
}
