use Rattle.std.specs.Prelude.{slice_range}
use Rattle.rawk_operands.specs.Moving.{moving}
use Rattle.rawk_reading.specs.Reading.{taken_of}
use Rattle.rawk_reading.proofs.Readings.{finds_taken}
use Rattle.rawk_reading.proofs.reading.take_found.Goals as goal

pub returns-in-Taken-clause-did : goal.returns-in-Taken-clause-did
returns-in-Taken-clause-did g c =
    finds_taken c.in_ok-other.other (λ text. taken_of text (moving c.args.store.now)) c.text.result.now (slice_range c.args.tape.now.bytes c.args.found.start c.args.found.end) c.args.found.count (moving c.args.store.now) (moving c.take_text.new.store) c.in-Taken.is c.text.ensures c.in_ok-other.ensures.did
