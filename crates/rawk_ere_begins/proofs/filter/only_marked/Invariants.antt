use Rattle.rawk_ere_begins.proofs.FilterLemmas.{IsOnlyBelow}
use Rattle.rawk_ere_begins.proofs.filter.only_marked.Given as goal

abbrev pub invariant-loop-byte : goal.invariant-loop-byte
invariant-loop-byte l = IsOnlyBelow l.marks l.byte l.only
