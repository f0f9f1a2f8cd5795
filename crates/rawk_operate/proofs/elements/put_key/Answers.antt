use Rattle.rawk_operators.specs.Borrowed.{borrowed_value}
use Rattle.rawk_operands.specs.Moving.{moving}
use Rattle.rawk_operate.proofs.Subscripts.{key_put}
use Rattle.rawk_operate.proofs.elements.put_key.Goals as goal

pub returns-clause-did : goal.returns-clause-did
returns-clause-did g c =
    key_put c.args.count (moving c.args.store.now) (moving c.put.new.store) (borrowed_value c.global_borrowed-separator.result) c.in_ok-key.key c.global_borrowed-separator.ensures c.in_ok-key.ensures c.in_ok-put.ensures.did
