use Rattle.std.proofs.Common.{refl}
use Rattle.rawk_tree.specs.declared.tree.Expr.TheVariants as tree
use Rattle.rawk_resolution.proofs.Applications.{part_applies}
use Rattle.rawk_resolution.proofs.calls.apply_three.Goals as goal

pub returns : goal.returns
returns c = (
  tree.Substr c.in_ok-text.text c.in_ok-text.place c.in_ok-text.count,
  refl,
  part_applies c.args.text c.args.place c.args.count c.in_ok-text.text c.in_ok-text.place c.in_ok-text.count c.in_ok-text.ensures.first c.in_ok-text.ensures.second c.in_ok-text.ensures.third,
)
