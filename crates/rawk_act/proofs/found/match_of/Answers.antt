use Rattle.std.proofs.Common.{SFits, rules, w64}
use Rattle.std.proofs.lemmas.Int.{to_z-of_z}
use Rattle.rawk_operands.specs.Moving.{moving}
use Rattle.rawk_act.proofs.Faults.{match_of_faults, match_of_makes}
use Rattle.rawk_operate.specs.Done.{led_by}
use Rattle.rawk_act.proofs.found.match_of.Goals as goal

pub returns-in-Err-clause-did : goal.returns-in-Err-clause-did
returns-in-Err-clause-did g c = match_of_faults c.args.text.now c.args.by.now (moving c.args.store.now) c.in_ok-found.found c.in-Err.fault (led_by c.faulted.result) c.in_ok-found.ensures c.in-Err.is c.faulted.ensures

pub returns-in_ok-put-in-Ok-clause-did : goal.returns-in_ok-put-in-Ok-clause-did
returns-in_ok-put-in-Ok-clause-did g c =
    let told = c.in-Ok.told in
    let fits : SFits w64 told.start = search rules in
    match_of_makes c.args.text.now c.args.by.now (moving c.args.store.now) (moving c.set_match.new.store) (moving c.put.new.store) told _ c.in_ok-found.found
    c.in_ok-found.ensures c.in-Ok.is (to_z-of_z w64 told.start fits) c.in_ok-set_match-in-Ok.ensures.did c.in_ok-put-in-Ok.ensures.did
