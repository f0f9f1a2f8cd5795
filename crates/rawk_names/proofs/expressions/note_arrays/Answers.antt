use Rattle.rawk_names.specs.Noted.{shown}
use Rattle.rawk_names.specs.Walks.{arrays-more}
use Rattle.rawk_names.proofs.expressions.note_arrays.Goals as goal

pub loop-array-preserved : goal.loop-array-preserved
loop-array-preserved c =
    arrays-more c.args.arrays.now c.loop-array.array-index c.array-item.result (shown c.args.register.now) (shown c.loop-array.register) (shown c.name.new.self)
    c.loop-array-test.true c.array-item.is c.loop-array.invariant c.in_ok-name.ensures
