use Rattle.std.proofs.Common.{◌≡◌, take}
use Rattle.rawk_arrays.specs.Heads.{headed_keys}
use Rattle.rawk_arrays.proofs.heads.copies.Given as goal

abbrev pub invariant-loop-headed : goal.invariant-loop-headed
invariant-loop-headed l = l.copied.items ≡ headed_keys (take l.headed-index l.found)
