use Rattle.std.proofs.Common.{◌≡◌, ◌-◌, ◌++◌}
use Rattle.rawk_ere_tree.specs.Code.{times_code}
use Rattle.rawk_ere_tree.proofs.emit.times.Given as goal

abbrev pub invariant-loop-done : goal.invariant-loop-done
invariant-loop-done l = l.code ++ times_code (l.count - l._done) l.part ≡ l.fn.code ++ times_code l.count l.part
