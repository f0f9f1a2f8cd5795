use Rattle.std.proofs.Common.{◌∙◌, length, ap, sym}
use Rattle.rawk_resolution.specs.Meant.{sense_of}
use Rattle.rawk_resolution.specs.Orders.{formatted_each, formatted_some}
use Rattle.rawk_resolution.proofs.Settlements.{same_count}
use Rattle.rawk_resolution.proofs.expressions.settle_formatted.Goals as goal

pub settle_list-requires : goal.settle_list-requires
settle_list-requires c = formatted_each (sense_of c.args.scope.now) c.args.list.now c.requires

pub unreachable-requires : goal.unreachable-requires
unreachable-requires c = formatted_some (sense_of c.args.scope.now) c.args.list.now c.requires (sym (same_count (sense_of c.args.scope.now) c.in_ok-values.ensures) ∙ ap length c.in-None.ensures)
