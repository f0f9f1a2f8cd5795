use Rattle.std.proofs.Common.{SFits, rules, w64}
use Rattle.std.proofs.lemmas.Int.{to_z-of_z}
use Rattle.rawk_operands.specs.Moving.{moving}
use Rattle.rawk_texts.proofs.Pushed.{rest_pushed}
use Rattle.rawk_texts.proofs.made.push_rest.Goals as goal

pub returns-clause-did : goal.returns-clause-did
returns-clause-did g c =
    let at = c.in-Some.at in
    let at_fits : SFits w64 at = search rules in
    rest_pushed c.args.from.now c.args.place.now (moving c.args.store.now) _ c.in-Some-text_lying.text.now c.substr.result.now at _ c.in-Some.ensures
    (to_z-of_z w64 at at_fits) c.in-Some-text_lying.ensures c.substr.ensures c.in_ok-push_string.ensures.did
