use Rattle.std.proofs.Common.{◌≡◌, ◌+◌, drop}
use Rattle.std.specs.List.{position_or_len}
use Rattle.rawk_commands.specs.Words.{is_blank}
use Rattle.rawk_commands.proofs.reading.first_blank.Given as goal

abbrev pub invariant-loop-i : goal.invariant-loop-i
invariant-loop-i l = l.i + position_or_len is_blank (drop l.i l.text) ≡ position_or_len is_blank l.text
