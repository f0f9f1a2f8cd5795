use Rattle.std.proofs.Common.{◌≡◌, Some, refl}
use Rattle.std.specs.Prelude.{slice_range}
use Rattle.rawk_devices.specs.declared.source.Ending.TheVariants.{Failed}
use Rattle.rawk_operands.specs.Moving.{moving}
use Rattle.rawk_reading.specs.Reading.{text_taken_of, ReadsText}
use Rattle.rawk_reading.proofs.Quiets.{quiet_text}
use Rattle.rawk_reading.proofs.Readings.{texts_found, texts_missing, texts_fault, found_did, missing_did, fault_did, fault_quiet, found_quiet, found_calm, found_places}
use Rattle.rawk_reading.proofs.Drawings.{last_due, draws_ahead}
use Rattle.rawk_reading.proofs.reading.read_any_text.Goals as goal

pub returns-in-Err-clause-did : goal.returns-in-Err-clause-did
returns-in-Err-clause-did g c =
    fault_did ReadsText g.R.Source.may_give c.next.new.self c.refused.result c.in-Err.fault (moving c.args.store.now) c.args.tape.now.consumed c.separator_in-separator.result.now
    (λ r points gone handed kept is next. texts_fault r c.in-Err.fault (moving c.args.store.now) points gone handed kept is next) c.in-Err.ensures.next c.requires
    c.separator_in-separator.ensures c.refused.ensures

pub returns-in-Err-clause-quiet : goal.returns-in-Err-clause-quiet
returns-in-Err-clause-quiet g c =
    fault_quiet g.R.Source.may_give c.next.new.self c.refused.result c.in-Err.fault c.args.tape.now.consumed c.separator_in-separator.result.now g.met.R.Source.gives_some c.in-Err.ensures.next c.refused.ensures

pub returns-in-Ok-None-clause-did : goal.returns-in-Ok-None-clause-did
returns-in-Ok-None-clause-did g c =
    missing_did ReadsText g.R.Source.may_give c.next.new.self c.in-Ok-None.field-0 (moving c.args.store.now) c.args.tape.now.consumed c.separator_in-separator.result.now
    (λ points gone handed kept next. texts_missing (moving c.args.store.now) points gone handed kept next) c.in-Ok-None.field-0-is c.in-Ok-None.ensures.next c.requires
    c.separator_in-separator.ensures

pub returns-in-Ok-Some-clause-did : goal.returns-in-Ok-Some-clause-did
returns-in-Ok-Some-clause-did g c =
    found_did ReadsText text_taken_of g.R.Source.may_give c.next.new.self c.put_found.new.tape c.put_found.result c.in-Ok-Some.field-0 c.in-Ok-Some.found (moving c.args.store.now) (moving c.put_found.new.store) c.args.tape.now.consumed c.separator_in-separator.result.now
    (λ r text count points gone handed kept next finds. texts_found r text count (moving c.args.store.now) (moving c.put_found.new.store) points gone handed kept next finds)
    c.in-Ok-Some.field-0-is c.in-Ok-Some.ensures.next c.put_found.ensures.tape c.requires c.separator_in-separator.ensures c.put_found.ensures.did

pub returns-in-Ok-Some-clause-quiet : goal.returns-in-Ok-Some-clause-quiet
returns-in-Ok-Some-clause-quiet g c =
    let text = slice_range c.next.new.self.bytes c.in-Ok-Some.found.start c.in-Ok-Some.found.end in
    found_quiet c.put_found.result (text_taken_of text (moving c.args.store.now)) c.in-Ok-Some.found.count (moving c.args.store.now) (moving c.put_found.new.store) (quiet_text text (moving c.args.store.now)) c.put_found.ensures.did

pub returns-in-Ok-Some-clause-failed : goal.returns-in-Ok-Some-clause-failed
returns-in-Ok-Some-clause-failed g c =
    let text = slice_range c.next.new.self.bytes c.in-Ok-Some.found.start c.in-Ok-Some.found.end in
    found_calm (g.R.Source.over c.put_found.new.tape.source ≡ Some Failed) c.put_found.result (text_taken_of text (moving c.args.store.now)) c.in-Ok-Some.found.count (moving c.args.store.now) (moving c.put_found.new.store)
    (quiet_text text (moving c.args.store.now)) c.put_found.ensures.did

pub returns-in-Err-clause-asks : goal.returns-in-Err-clause-asks
returns-in-Err-clause-asks g c = last_due c.separator_in-separator.result.now _ c.args.tape.now.consumed _ c.args.tape.now c.next.new.self c.next.new.self c.separator_in-separator.ensures c.requires c.next.ensures.lazy refl

pub returns-in-Err-clause-draws : goal.returns-in-Err-clause-draws
returns-in-Err-clause-draws g c = draws_ahead g.R.Source.may_give g.R.Source.over g.R.Source.handed c.args.tape.now c.next.new.self c.next.new.self refl c.next.ensures.ahead

pub returns-in-Ok-None-clause-asks : goal.returns-in-Ok-None-clause-asks
returns-in-Ok-None-clause-asks g c = last_due c.separator_in-separator.result.now _ c.args.tape.now.consumed _ c.args.tape.now c.next.new.self c.next.new.self c.separator_in-separator.ensures c.requires c.next.ensures.lazy refl

pub returns-in-Ok-None-clause-draws : goal.returns-in-Ok-None-clause-draws
returns-in-Ok-None-clause-draws g c = draws_ahead g.R.Source.may_give g.R.Source.over g.R.Source.handed c.args.tape.now c.next.new.self c.next.new.self refl c.next.ensures.ahead

pub returns-in-Ok-Some-clause-asks : goal.returns-in-Ok-Some-clause-asks
returns-in-Ok-Some-clause-asks g c = last_due c.separator_in-separator.result.now _ c.args.tape.now.consumed _ c.args.tape.now c.next.new.self c.put_found.new.tape c.separator_in-separator.ensures c.requires c.next.ensures.lazy c.put_found.ensures.tape

pub returns-in-Ok-Some-clause-draws : goal.returns-in-Ok-Some-clause-draws
returns-in-Ok-Some-clause-draws g c = draws_ahead g.R.Source.may_give g.R.Source.over g.R.Source.handed c.args.tape.now c.next.new.self c.put_found.new.tape c.put_found.ensures.tape c.next.ensures.ahead

pub returns-in-Ok-Some-clause-places : goal.returns-in-Ok-Some-clause-places
returns-in-Ok-Some-clause-places g c =
    found_places c.put_found.result (slice_range c.next.new.self.bytes c.in-Ok-Some.found.start c.in-Ok-Some.found.end) c.in-Ok-Some.found.count (moving c.args.store.now) (moving c.put_found.new.store) c.put_found.ensures.did
