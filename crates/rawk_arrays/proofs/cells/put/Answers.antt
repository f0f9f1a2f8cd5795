use Rattle.rawk_arrays.specs.PlaceLaws.{put_done}
use Rattle.rawk_arrays.proofs.cells.put.Goals as goal

pub returns-clause-did : goal.returns-clause-did
returns-clause-did g c =
    let laid = c.slot_for.ensures.laid in
    put_done c.args.array c.args.key.now c.args.value c.args.index.now c.slot_for.new.index c.args.cells.now.now c.slot_for.new.cells.now c.set_slot.new.cells.now c.in_ok-number.number
    c.requires.laid.array_key c.slot_for.ensures.more laid.distinct laid.array_key c.slot_for.ensures.now c.in_ok-number.ensures.there c.in_ok-number.ensures.within c.in_ok-set_slot.ensures.did
