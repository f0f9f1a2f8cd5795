use Rattle.std.proofs.Common.{◌≡◌, length}
use Rattle.rawk_keys.specs.Linked.{IsLinked, labels, earliers}
use Rattle.rawk_keys.proofs.chains.relink.Given as goal

abbrev pub invariant-loop-i : goal.invariant-loop-i
invariant-loop-i l = record {
  same : labels l.links ≡ labels l.fn.links;
  size : length l.heads ≡ l.count;
  linked : IsLinked (length l.heads) (labels l.links) (earliers l.links) l.heads l.i;
}
