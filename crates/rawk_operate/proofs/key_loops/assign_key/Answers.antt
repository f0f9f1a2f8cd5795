use Rattle.rawk_frames.specs.LaidKeys.{keys_of}
use Rattle.rawk_operands.specs.Moving.{moving}
use Rattle.rawk_operate.proofs.Visits.{key_refused, key_visited}
use Rattle.rawk_operate.proofs.key_loops.assign_key.Goals as goal

pub returns-in-Some-clause-did : goal.returns-in-Some-clause-did
returns-in-Some-clause-did g c =
    let m = moving c.args.store.now in
    key_refused c.args.to c.in_ok-place.place c.in_ok-key.key m (moving c.drop_place.new.store) (moving c.put_in.new.store) c.in_ok-refused.refused c.in-Some.fault c.over.result
    (c.in_ok-place.ensures m.operands c.popped_borrowed.ensures) c.in_ok-key.ensures c.drop_place.ensures.did c.in_ok-refused.ensures.did c.in-Some.is c.over.ensures

pub returns-clause-did : goal.returns-clause-did
returns-clause-did g c =
    let m = moving c.args.store.now in
    key_visited c.args.to c.in_ok-place.place c.in_ok-key.key m (moving c.drop_place.new.store) (moving c.put_in.new.store) c.in_ok-refused.refused (keys_of c.advance.new.self.now)
    (c.in_ok-place.ensures m.operands c.popped_borrowed.ensures) c.in_ok-key.ensures c.drop_place.ensures.did c.in_ok-refused.ensures.did c.in-None.is c.in_ok-advance-in-None.ensures.did
