use Rattle.std.proofs.Common.{◌≡◌, ◌-◌, ◌++◌}
use Rattle.rawk_ere_tree.specs.Code.{maybes_code}
use Rattle.rawk_ere_tree.proofs.emit.maybes.Given as goal

abbrev pub invariant-loop-done : goal.invariant-loop-done
invariant-loop-done l = l.code ++ maybes_code (l.count - l._done) l.part ≡ l.fn.code ++ maybes_code l.count l.part
