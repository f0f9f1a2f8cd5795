use Rattle.std.proofs.Common.{◌≡◌, ◌<◌, ◌-◌, length}
use Rattle.rawk_pieces.specs.Separators.{IsAhead, IsParted}
use Rattle.rawk_pieces.proofs.matches.cut_matches.Given as goal

abbrev pub invariant-loop-cut : goal.invariant-loop-cut
invariant-loop-cut l = record {
  ere : l.finder.ere ≡ l.ere;
  text : l.finder.text ≡ l.text;
  next : IsAhead l.ere l.newline l.text l.ahead;
  parted : IsParted l.ere l.newline l.text l.pieces.items l.ahead.from;
  some : 0 < length l.text;
}

abbrev pub decreases-loop-cut : goal.decreases-loop-cut
decreases-loop-cut l = length l.text - l.ahead.from
