use Rattle.std.proofs.Common.{SFits, rules, w64}
use Rattle.std.proofs.lemmas.Int.{to_z-of_z}
use Rattle.rawk_operands.specs.Moving.{moving}
use Rattle.rawk_texts.proofs.Pushed.{part_pushed}
use Rattle.rawk_texts.proofs.made.push_part.Goals as goal

pub returns-clause-did : goal.returns-clause-did
returns-clause-did g c =
    let at = c.in-Some.at in
    let size = c.in-Some-number_of_few.size in
    let at_fits : SFits w64 at = search rules in
    let size_fits : SFits w64 size = search rules in
    part_pushed c.args.from.now c.args.place.now c.args.count.now (moving c.args.store.now) _ c.in-Some-text_lying.text.now c.substr.result.now at size _ _ c.in-Some.ensures c.in-Some-number_of_few.ensures
    (to_z-of_z w64 at at_fits) (to_z-of_z w64 size size_fits) c.in-Some-text_lying.ensures c.substr.ensures c.in_ok-push_string.ensures.did
