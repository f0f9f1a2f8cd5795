use Rattle.rawk_ere_begins.proofs.FilterLemmas.{IsDraft}
use Rattle.rawk_ere_begins.proofs.filter.find_filter.Given as goal

abbrev pub invariant-loop-byte : goal.invariant-loop-byte
invariant-loop-byte l = IsDraft l.next l.ends l.later l.dead l.first l.second l.mark l.row l.byte
