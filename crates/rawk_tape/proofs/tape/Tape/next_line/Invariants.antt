use Rattle.std.proofs.Common.{◌≡◌, ◌⊎◌, [], ◌∷◌, ◌≤◌, length, ◌^◌, ◌+◌, ◌-◌, ◌*◌, max, is_none, if◌then◌else◌}
use Rattle.memchr.specs.Find.{Passes, is_byte, Nowhere}
use Rattle.rawk_tape.specs.Tapes.{ReadsAhead, LastRead}
use Rattle.rawk_tape.proofs.tape.Tape.next_line.Given as goal

-- it has only read ahead, no separator stands before the place scanned to, and few bytes behind it
abbrev pub invariant-loop-at : goal.invariant-loop-at
invariant-loop-at g l =
    ReadsAhead g.R.Source.may_give g.R.Source.over g.R.Source.handed l.fn.self l.self
    × (l.self.consumed ≤ l.scanned) × (l.scanned ≤ length l.self.bytes)
    × Nowhere (Passes (is_byte l.separator) l.self.bytes) l.self.consumed l.scanned
    × (length l.self.bytes ≤ l.scanned + max 65536 (length l.fn.self.bytes - l.fn.self.consumed))
    × ((l.self ≡ l.fn.self) ⊎ LastRead (l.separator ∷ []) l.fn.self.consumed l.fn.self.bytes l.self.bytes)

-- bytes can be held up to a bound, and then the input is over
abbrev pub decreases-loop-at : goal.decreases-loop-at
decreases-loop-at g l = 2 * (2 ^ 63 - length l.self.bytes) + (if is_none (g.R.Source.over l.self.source) then 1 else 0)
