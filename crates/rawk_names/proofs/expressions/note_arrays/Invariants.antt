use Rattle.std.proofs.Common.{◌≡◌, take, map}
use Rattle.rawk_names.specs.Mentions.{AsArray}
use Rattle.rawk_names.specs.Noted.{noted_all, shown}
use Rattle.rawk_names.proofs.expressions.note_arrays.Given as goal

abbrev pub invariant-loop-array : goal.invariant-loop-array
invariant-loop-array l = shown l.register ≡ noted_all (map AsArray (take l.array-index l.arrays)) (shown l.fn.register)
