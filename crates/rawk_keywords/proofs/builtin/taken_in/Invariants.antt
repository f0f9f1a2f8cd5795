use Rattle.std.proofs.Common.{◌≡◌, length}
use Rattle.rawk_keywords.specs.Builtins.{rows_of, taken_in}
use Rattle.rawk_keywords.proofs.builtin.taken_in.Given as goal

abbrev pub invariant-loop-table : goal.invariant-loop-table
invariant-loop-table l = taken_in (rows_of l.table) l.function l.count ≡ taken_in (rows_of l.initial.table) l.function l.count

abbrev pub decreases-loop-table : goal.decreases-loop-table
decreases-loop-table l = length l.table
