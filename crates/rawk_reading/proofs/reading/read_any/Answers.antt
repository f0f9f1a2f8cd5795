use Rattle.std.proofs.Common.{◌≡◌, Some, refl}
use Rattle.std.specs.Prelude.{slice_range}
use Rattle.rawk_devices.specs.declared.source.Ending.TheVariants.{Failed}
use Rattle.rawk_operands.specs.Moving.{moving}
use Rattle.rawk_reading.specs.Reading.{taken_of, ReadsTo}
use Rattle.rawk_reading.proofs.Quiets.{quiet_taken}
use Rattle.rawk_reading.proofs.Readings.{reads_found, reads_missing, reads_fault, found_did, missing_did, fault_did, fault_quiet, found_quiet, found_calm}
use Rattle.rawk_reading.proofs.Drawings.{last_due, draws_ahead}
use Rattle.rawk_reading.proofs.reading.read_any.Goals as goal

pub returns-in-Err-clause-did : goal.returns-in-Err-clause-did
returns-in-Err-clause-did g c =
    fault_did ReadsTo g.R.Source.may_give c.next.new.self c.refused.result c.in-Err.fault (moving c.args.store.now) c.args.tape.now.consumed c.separator_in-separator.result.now
    (λ r points gone handed kept is next. reads_fault r c.in-Err.fault (moving c.args.store.now) points gone handed kept is next) c.in-Err.ensures.next c.requires
    c.separator_in-separator.ensures c.refused.ensures

pub returns-in-Err-clause-quiet : goal.returns-in-Err-clause-quiet
returns-in-Err-clause-quiet g c =
    fault_quiet g.R.Source.may_give c.next.new.self c.refused.result c.in-Err.fault c.args.tape.now.consumed c.separator_in-separator.result.now g.met.R.Source.gives_some c.in-Err.ensures.next c.refused.ensures

pub returns-in-Ok-None-clause-did : goal.returns-in-Ok-None-clause-did
returns-in-Ok-None-clause-did g c =
    missing_did ReadsTo g.R.Source.may_give c.next.new.self c.in-Ok-None.field-0 (moving c.args.store.now) c.args.tape.now.consumed c.separator_in-separator.result.now
    (λ points gone handed kept next. reads_missing (moving c.args.store.now) points gone handed kept next) c.in-Ok-None.field-0-is c.in-Ok-None.ensures.next c.requires
    c.separator_in-separator.ensures

pub returns-in-Ok-Some-clause-did : goal.returns-in-Ok-Some-clause-did
returns-in-Ok-Some-clause-did g c =
    found_did ReadsTo taken_of g.R.Source.may_give c.next.new.self c.take_found.new.tape c.take_found.result c.in-Ok-Some.field-0 c.in-Ok-Some.found (moving c.args.store.now) (moving c.take_found.new.store) c.args.tape.now.consumed c.separator_in-separator.result.now
    (λ r text count points gone handed kept next finds. reads_found r text count (moving c.args.store.now) (moving c.take_found.new.store) points gone handed kept next finds)
    c.in-Ok-Some.field-0-is c.in-Ok-Some.ensures.next c.take_found.ensures.tape c.requires c.separator_in-separator.ensures c.take_found.ensures.did

pub returns-in-Ok-Some-clause-quiet : goal.returns-in-Ok-Some-clause-quiet
returns-in-Ok-Some-clause-quiet g c =
    let text = slice_range c.next.new.self.bytes c.in-Ok-Some.found.start c.in-Ok-Some.found.end in
    found_quiet c.take_found.result (taken_of text (moving c.args.store.now)) c.in-Ok-Some.found.count (moving c.args.store.now) (moving c.take_found.new.store) (quiet_taken text (moving c.args.store.now)) c.take_found.ensures.did

pub returns-in-Ok-Some-clause-failed : goal.returns-in-Ok-Some-clause-failed
returns-in-Ok-Some-clause-failed g c =
    let text = slice_range c.next.new.self.bytes c.in-Ok-Some.found.start c.in-Ok-Some.found.end in
    found_calm (g.R.Source.over c.take_found.new.tape.source ≡ Some Failed) c.take_found.result (taken_of text (moving c.args.store.now)) c.in-Ok-Some.found.count (moving c.args.store.now) (moving c.take_found.new.store)
    (quiet_taken text (moving c.args.store.now)) c.take_found.ensures.did

pub returns-in-Err-clause-asks : goal.returns-in-Err-clause-asks
returns-in-Err-clause-asks g c = last_due c.separator_in-separator.result.now _ c.args.tape.now.consumed _ c.args.tape.now c.next.new.self c.next.new.self c.separator_in-separator.ensures c.requires c.next.ensures.lazy refl

pub returns-in-Err-clause-draws : goal.returns-in-Err-clause-draws
returns-in-Err-clause-draws g c = draws_ahead g.R.Source.may_give g.R.Source.over g.R.Source.handed c.args.tape.now c.next.new.self c.next.new.self refl c.next.ensures.ahead

pub returns-in-Ok-None-clause-asks : goal.returns-in-Ok-None-clause-asks
returns-in-Ok-None-clause-asks g c = last_due c.separator_in-separator.result.now _ c.args.tape.now.consumed _ c.args.tape.now c.next.new.self c.next.new.self c.separator_in-separator.ensures c.requires c.next.ensures.lazy refl

pub returns-in-Ok-None-clause-draws : goal.returns-in-Ok-None-clause-draws
returns-in-Ok-None-clause-draws g c = draws_ahead g.R.Source.may_give g.R.Source.over g.R.Source.handed c.args.tape.now c.next.new.self c.next.new.self refl c.next.ensures.ahead

pub returns-in-Ok-Some-clause-asks : goal.returns-in-Ok-Some-clause-asks
returns-in-Ok-Some-clause-asks g c = last_due c.separator_in-separator.result.now _ c.args.tape.now.consumed _ c.args.tape.now c.next.new.self c.take_found.new.tape c.separator_in-separator.ensures c.requires c.next.ensures.lazy c.take_found.ensures.tape

pub returns-in-Ok-Some-clause-draws : goal.returns-in-Ok-Some-clause-draws
returns-in-Ok-Some-clause-draws g c = draws_ahead g.R.Source.may_give g.R.Source.over g.R.Source.handed c.args.tape.now c.next.new.self c.take_found.new.tape c.take_found.ensures.tape c.next.ensures.ahead
