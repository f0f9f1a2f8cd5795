use Rattle.std.proofs.Common.{◌≡◌, ◌++◌, replicate}
use Rattle.rawk_value.specs.declared.value.Value.TheVariants.{Uninitialized}
use Rattle.rawk_steps.proofs.start.add_others.Given as goal

abbrev pub invariant-loop-name : goal.invariant-loop-name
invariant-loop-name l = l.globals.now ≡ l.fn.globals.now ++ replicate l._name-index Uninitialized
