use Rattle.std.proofs.Common.{◌≡◌, length, map}
use Rattle.rawk_commands.specs.Words.{lookup}
use Rattle.rawk_commands.proofs.verb.lookup.Given as goal

abbrev pub invariant-loop-table : goal.invariant-loop-table
invariant-loop-table l = lookup (map (λ e. (e.0.now, e.1)) l.table) l.word ≡ lookup (map (λ e. (e.0.now, e.1)) l.initial.table) l.word

abbrev pub decreases-loop-table : goal.decreases-loop-table
decreases-loop-table l = length l.table
