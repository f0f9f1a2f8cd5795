use Rattle.std.proofs.Common.{◌≡◌, length}
use Rattle.rawk_keywords.specs.Builtins.{named_in, rows_of}
use Rattle.rawk_keywords.proofs.builtin.named_in.Given as goal

abbrev pub invariant-loop-table : goal.invariant-loop-table
invariant-loop-table l = named_in (rows_of l.table) l.word ≡ named_in (rows_of l.initial.table) l.word

abbrev pub decreases-loop-table : goal.decreases-loop-table
decreases-loop-table l = length l.table
