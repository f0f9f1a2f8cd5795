use Rattle.std.proofs.Common.{◌<◌, length, arith, ap, ◌∙◌, drop, false}
use Rattle.std.proofs.lemmas.Bool.{false≢true}
use Rattle.rawk_tape.specs.Records.{next_paragraph}
use Rattle.rawk_devices.specs.Inputs.{is_failed}
use Rattle.rawk_devices.specs.declared.source.Ending.{Ending}
use Rattle.rawk_tape.proofs.Breaks.{found_is, none_is, fails_is}
use Rattle.rawk_tape.proofs.at_end.last_paragraph.Goals as goal

pub returns-then-found-bytes-clause-next : goal.returns-then-found-bytes-clause-next
returns-then-found-bytes-clause-next c = λ start p.
    let s = c.args.bytes.now in
    ap (λ (e : Ending). next_paragraph (is_failed e) (drop start s) start) c.in-Ended.is ∙ none_is s start c.args.found p (omega (arith, c.if-found-bytes.true))

pub returns-in-Failed-clause-next : goal.returns-in-Failed-clause-next
returns-in-Failed-clause-next c = λ start p _.
    let s = c.args.bytes.now in
    ap (λ (e : Ending). next_paragraph (is_failed e) (drop start s) start) c.in-Failed.is ∙ fails_is s start c.args.found p c.requires

pub returns-else-found-bytes-clause-next : goal.returns-else-found-bytes-clause-next
returns-else-found-bytes-clause-next c = λ start p.
    let s = c.args.bytes.now in
    let some : c.args.found.start < length s = omega (arith, c.if-found-bytes.false, p.scanned.text, p.scanned.after, p.scanned.high) in
    ap (λ (e : Ending). next_paragraph (is_failed e) (drop start s) start) c.in-Ended.is ∙ found_is s start c.args.found p false (λ e. absurd (false≢true e)) some
