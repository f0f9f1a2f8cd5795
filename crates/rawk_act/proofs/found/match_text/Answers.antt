use Rattle.std.proofs.Common.{SFits, rules, w64}
use Rattle.std.proofs.lemmas.Int.{to_z-of_z}
use Rattle.rawk_operands.specs.Moving.{moving}
use Rattle.rawk_act.proofs.Faults.{match_faults, match_makes}
use Rattle.rawk_operate.specs.Done.{led_by}
use Rattle.rawk_act.proofs.found.match_text.Goals as goal

pub returns-in-Err-clause-did : goal.returns-in-Err-clause-did
returns-in-Err-clause-did g c = match_faults c.args.from.now (moving c.args.store.now) c.in_ok-found.found c.in-Err.fault (led_by c.faulted.result) c.in_ok-found.ensures c.in-Err.is c.faulted.ensures

pub returns-in_ok-put-in-Ok-clause-did : goal.returns-in_ok-put-in-Ok-clause-did
returns-in_ok-put-in-Ok-clause-did g c =
    let told = c.in-Ok.told in
    let fits : SFits w64 told.start = search rules in
    match_makes c.args.from.now (moving c.args.store.now) (moving c.set_match.new.store) (moving c.drop_taken.new.store) (moving c.put.new.store) told _ c.in_ok-found.found
    c.in_ok-found.ensures c.in-Ok.is (to_z-of_z w64 told.start fits) c.in_ok-set_match-in-Ok.ensures.did c.drop_taken.ensures.did c.in_ok-put-in-Ok.ensures.did
