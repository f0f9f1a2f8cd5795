use Rattle.std.proofs.Common.{◌≡◌, ℕ, ◌+◌, ◌*◌, ◌<◌, ◌⊎◌, true, false, get_or}
use Rattle.rawk_ere_begins.specs.Filters.{AllLeadTo}
use Rattle.rawk_ere_begins.proofs.filter.are_single.Given as goal

abbrev pub invariant-loop-byte : goal.invariant-loop-byte
invariant-loop-byte l = record {
  begin : get_or l.ends l.later false ≡ false;
  last : (l.row ≡ l.dead) ⊎ ((get_or l.ends l.row false ≡ true) × AllLeadTo l.next l.dead l.row);
  each : (a : ℕ) → a < l.byte → (get_or l.next (l.later * 256 + a) 0 ≡ l.dead)
      ⊎ ((get_or l.ends (get_or l.next (l.later * 256 + a) 0) false ≡ true) × AllLeadTo l.next l.dead (get_or l.next (l.later * 256 + a) 0));
}
