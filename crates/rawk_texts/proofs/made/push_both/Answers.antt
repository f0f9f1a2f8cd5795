use Rattle.rawk_operands.specs.Moving.{moving}
use Rattle.rawk_texts.proofs.Pushed.{both_pushed}
use Rattle.rawk_texts.proofs.made.push_both.Goals as goal

pub returns-clause-did : goal.returns-clause-did
returns-clause-did g c =
    let found = c.in-Some.ensures in
    both_pushed c.args.from.now c.args.behind.now (moving c.args.store.now) _ c.simple_text-left.result.now c.in-Some.right.now c.beside-both.result.now found.0 c.simple_text-left.ensures found.1 found.2 c.beside-both.ensures c.in_ok-push_string.ensures.did
