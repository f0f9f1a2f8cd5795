use Rattle.std.proofs.Common.{◌≡◌, drop}
use Rattle.rawk_tree.specs.Sites.{entry_of}
use Rattle.rawk_tree.proofs.lines.entry_in.Given as goal

abbrev pub invariant-loop-function : goal.invariant-loop-function
invariant-loop-function l = entry_of (drop l.function-index l.functions) l.name ≡ entry_of l.functions l.name
