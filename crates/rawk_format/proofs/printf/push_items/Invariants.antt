-- What is written is a beginning, and the rest of the format gives the other bytes.
use Rattle.std.proofs.Common.{length}
use Rattle.rawk_format.specs.Format.{formatted, prefixed, IsSoFar}
use Rattle.rawk_format.specs.Grown.{Follows}
use Rattle.rawk_format.proofs.printf.push_items.Given as goal

abbrev pub invariant-items : goal.invariant-items
invariant-items l = record {
  far : IsSoFar (prefixed l.fn.out.items (formatted l.fn.format l.fn.values)) l.out.items l.rest l.left;
  kept : Follows l.fn.out.items l.out.items;
}

abbrev pub decreases-items : goal.decreases-items
decreases-items l = length l.rest
