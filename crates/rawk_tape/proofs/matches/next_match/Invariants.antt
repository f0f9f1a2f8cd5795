use Rattle.std.proofs.Common.{◌≡◌, ◌⊎◌, ◌≤◌, length, drop, ◌^◌, ◌+◌, ◌-◌, ◌*◌, is_none, if◌then◌else◌}
use Rattle.rawk_value.specs.Values.{Bytes}
use Rattle.rawk_search.specs.Laws.{IsSkip}
use Rattle.rawk_tape.specs.Tapes.{ReadsAhead, LastRead, IsExpression}
use Rattle.rawk_tape.proofs.matches.next_match.Given as goal

-- it has only read ahead, and no match begins before the place from which the search goes on
abbrev pub invariant-loop-from : goal.invariant-loop-from
invariant-loop-from g l = record {
  low : l.start ≤ length l.bytes;
  reported : g.R.Source.over l.source ≡ l.over;
  ahead : ReadsAhead g.R.Source.may_give g.R.Source.over g.R.Source.handed (record { source = l.fn.source; bytes = l.fn.bytes; consumed = l.start }) (record { source = l.source; bytes = l.bytes; consumed = l.start });
  skipped : IsSkip (drop l.start l.bytes) l.ere 0 l.from;
  lazy : (separator : Bytes) → IsExpression separator l.ere → ((l.source ≡ l.fn.source) × (l.bytes ≡ l.fn.bytes)) ⊎ LastRead separator l.start l.fn.bytes l.bytes;
}

-- bytes can be held up to a bound, and then the input is over
abbrev pub decreases-loop-from : goal.decreases-loop-from
decreases-loop-from g l = 2 * (2 ^ 63 - length l.bytes) + (if is_none (g.R.Source.over l.source) then 1 else 0)
