use Rattle.std.proofs.Common.{◌≡◌, Some, inl, refl}
use Rattle.std.specs.Prelude.{slice_range}
use Rattle.rawk_value.specs.Values.{text_of}
use Rattle.rawk_devices.specs.declared.source.Ending.TheVariants.{Failed}
use Rattle.rawk_store.specs.State.{RS}
use Rattle.rawk_operands.specs.Borrowed.{global_in}
use Rattle.rawk_operands.specs.Moving.{moving}
use Rattle.rawk_reading.specs.Reading.{text_taken_of, ReadsText}
use Rattle.rawk_reading.proofs.Quiets.{quiet_text}
use Rattle.rawk_reading.proofs.Readings.{texts_found, found_did, found_quiet, found_calm, found_places, maybe_consumed}
use Rattle.rawk_reading.proofs.Drawings.{bytes_held, draws_held}
use Rattle.rawk_reading.proofs.reading.read_text.Goals as goal

pub returns-in-Some-clause-did : goal.returns-in-Some-clause-did
returns-in-Some-clause-did g c =
    let old = moving c.args.store.now in
    let new = moving c.put_found.new.store in
    found_did ReadsText text_taken_of g.R.Source.may_give c.args.tape.now c.put_found.new.tape c.put_found.result (Some c.in-Some.found) c.in-Some.found old new c.args.tape.now.consumed (text_of (global_in RS old.globals))
    (λ r text count points gone handed kept next finds. texts_found r text count old new points gone handed kept next finds)
    refl c.in-Some.ensures.next c.put_found.ensures.tape c.requires refl c.put_found.ensures.did

pub returns-in-Some-clause-quiet : goal.returns-in-Some-clause-quiet
returns-in-Some-clause-quiet g c =
    let text = slice_range c.args.tape.now.bytes c.in-Some.found.start c.in-Some.found.end in
    found_quiet c.put_found.result (text_taken_of text (moving c.args.store.now)) c.in-Some.found.count (moving c.args.store.now) (moving c.put_found.new.store) (quiet_text text (moving c.args.store.now)) c.put_found.ensures.did

pub returns-in-Some-clause-failed : goal.returns-in-Some-clause-failed
returns-in-Some-clause-failed g c =
    let text = slice_range c.args.tape.now.bytes c.in-Some.found.start c.in-Some.found.end in
    found_calm (g.R.Source.over c.put_found.new.tape.source ≡ Some Failed) c.put_found.result (text_taken_of text (moving c.args.store.now)) c.in-Some.found.count (moving c.args.store.now) (moving c.put_found.new.store)
    (quiet_text text (moving c.args.store.now)) c.put_found.ensures.did

pub returns-in-Some-clause-may : goal.returns-in-Some-clause-may
returns-in-Some-clause-may g c kept comes = maybe_consumed g.R.Source.may_give c.args.tape.now c.put_found.new.tape kept c.put_found.ensures.tape comes

pub returns-in-Some-clause-asks : goal.returns-in-Some-clause-asks
returns-in-Some-clause-asks g c = inl (bytes_held c.args.tape.now c.put_found.new.tape c.put_found.ensures.tape)

pub returns-in-Some-clause-draws : goal.returns-in-Some-clause-draws
returns-in-Some-clause-draws g c = draws_held g.R.Source.over g.R.Source.handed c.args.tape.now c.put_found.new.tape c.put_found.ensures.tape

pub returns-in-Some-clause-places : goal.returns-in-Some-clause-places
returns-in-Some-clause-places g c =
    found_places c.put_found.result (slice_range c.args.tape.now.bytes c.in-Some.found.start c.in-Some.found.end) c.in-Some.found.count (moving c.args.store.now) (moving c.put_found.new.store) c.put_found.ensures.did
