use Rattle.std.proofs.Common.{◌≡◌, length, map}
use Rattle.rawk_keywords.specs.Keywords.{lookup}
use Rattle.rawk_keywords.proofs.words.lookup.Given as goal

abbrev pub invariant-loop-table : goal.invariant-loop-table
invariant-loop-table l = lookup (map (λ k. (k.0.now, k.1)) l.table) l.word ≡ lookup (map (λ k. (k.0.now, k.1)) l.initial.table) l.word

abbrev pub decreases-loop-table : goal.decreases-loop-table
decreases-loop-table l = length l.table
