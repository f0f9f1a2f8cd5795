use Rattle.rawk_value.specs.declared.value.Value.TheVariants.{String}
use Rattle.rawk_store.specs.Assigned.{HasAssigned}
use Rattle.rawk_store.specs.Stores.{now_of}
use Rattle.rawk_operands.specs.Moving.{HasPut, moving}
use Rattle.rawk_places.proofs.Puts.{put_of}
use Rattle.rawk_operands.specs.Oks.{if_ok}
use Rattle.rawk_places.proofs.place.put_text_in.Goals as goal

pub returns-clause-did : goal.returns-clause-did
returns-clause-did g c =
    let old = c.args.store.now in
    let new = c.assign_text.new.self in
    let value = String c.args.text.now.items in
    if_ok (λ fault. HasAssigned c.args.place.now value fault (now_of old) (now_of new)) (λ fault. HasPut c.args.place.now value fault (moving old) (moving new))
    c.assign_text.result c.assign_text.ensures.did (λ fault done. put_of c.args.place.now value fault (now_of old) (now_of new) done)
