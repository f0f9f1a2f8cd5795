use Rattle.rawk_frames.specs.LaidKeys.{keys_of}
use Rattle.rawk_operands.specs.Moving.{moving}
use Rattle.rawk_operate.proofs.Visits.{key_taken}
use Rattle.rawk_operate.proofs.key_loops.visit_key.Goals as goal

pub returns-clause-did : goal.returns-clause-did
returns-clause-did g c =
    key_taken c.args.variable c.in_ok-key.key (moving c.args.store.now) (moving c.set_value.new.store) (keys_of c.advance.new.self.now) c.in_ok-key.ensures c.in_ok-set_value.ensures.did c.in_ok-advance.ensures.did
