use Rattle.std.proofs.Common.{◌≡◌, ◌≤◌, drop, false}
use Rattle.rawk_ere_pattern.specs.Reading.{is_formed}
use Rattle.rawk_ere_pattern.proofs.read.is_well_formed.Given as goal

abbrev pub invariant-loop-index : goal.invariant-loop-index
invariant-loop-index l = (is_formed (drop l.index l.tokens) l.depth l.last ≡ is_formed l.tokens 0 false) × (l.depth ≤ l.index)
