use Rattle.std.proofs.Common.{◌≡◌, ◌++◌, drop}
use Rattle.rawk_search.specs.Replacements.{replacement}
use Rattle.rawk_replacements.specs.Replaced.{held}
use Rattle.rawk_replacements.proofs.replacing.push_marked.Given as goal

abbrev pub invariant-loop-byte : goal.invariant-loop-byte
invariant-loop-byte l = l.out.items ++ replacement l.found (held l.holds ++ drop l.byte-index l.by) ≡ l.initial.out.items ++ replacement l.found l.by
