use Rattle.std.proofs.Common.{◌≡◌, ◌⊎◌, [], ◌≤◌, length, ◌^◌, ◌+◌, ◌-◌, ◌*◌, max, is_none, if◌then◌else◌}
use Rattle.rawk_tape.specs.Tapes.{ReadsAhead, LastRead}
use Rattle.rawk_tape.specs.Paragraphs.{IsScanned}
use Rattle.rawk_tape.proofs.tape.Tape.next_paragraph.Given as goal

-- it has only read ahead, the paragraph is scanned so far, and few bytes stand behind
abbrev pub invariant-loop-found : goal.invariant-loop-found
invariant-loop-found g l =
    ReadsAhead g.R.Source.may_give g.R.Source.over g.R.Source.handed l.fn.self l.self
    × IsScanned l.self.bytes l.fn.self.consumed l.found
    × (length l.self.bytes ≤ l.found.count + max 65536 (length l.fn.self.bytes - l.fn.self.consumed))
    × ((l.self ≡ l.fn.self) ⊎ LastRead [] l.fn.self.consumed l.fn.self.bytes l.self.bytes)

-- bytes can be held up to a bound, and then the input is over
abbrev pub decreases-loop-found : goal.decreases-loop-found
decreases-loop-found g l = 2 * (2 ^ 63 - length l.self.bytes) + (if is_none (g.R.Source.over l.self.source) then 1 else 0)
