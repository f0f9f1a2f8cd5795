use Rattle.std.proofs.Common.{◌≡◌, take}
use Rattle.std.specs.List.{fold}
use Rattle.rawk_keys.specs.Hash.{mixed}
use Rattle.rawk_keys.proofs.hash.hash.Given as goal

abbrev pub invariant-loop-byte : goal.invariant-loop-byte
invariant-loop-byte l = l.hash ≡ fold mixed (mixed l.basis l.array) (take l.byte-index l.key)
