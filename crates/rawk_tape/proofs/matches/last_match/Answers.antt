use Rattle.std.proofs.Common.{drop, None, Some, Result, Ok, Option, true, arith, ap, sym, ◌∙◌, subst}
use Rattle.std.proofs.lemmas.List.{length-drop}
use Rattle.rawk_value.specs.declared.fault.Fault.{Fault}
use Rattle.rawk_search.specs.Laws.{nonempty_within}
use Rattle.rawk_tape.specs.Records.{Found}
use Rattle.rawk_tape.specs.Tapes.{Answers, IsWithin, text_at}
use Rattle.rawk_tape.specs.declared.found.Found.{Found as Place}
use Rattle.rawk_tape.proofs.Separators.{searched_last, last_found, last_rest, match_within}
use Rattle.rawk_tape.proofs.matches.last_match.Goals as goal

pub found_before-requires-clause-ordered : goal.found_before-requires-clause-ordered
found_before-requires-clause-ordered c =
    let is = searched_last c.args.bytes.now c.rest_of.result.now c.args.start c.args.ere.now c.args.from c.in_ok-found-in-Ended.field-0 (Some c.in-Some.found) c.rest_of.ensures (assumption c.in_ok-found-in-Ended.ensures) c.in-Some.is in
    let span = nonempty_within true (drop c.args.start c.args.bytes.now) c.args.ere.now c.args.from c.in-Some.found is in
    omega (arith, span.1)

pub found_before-requires-clause-small : goal.found_before-requires-clause-small
found_before-requires-clause-small c =
    let is = searched_last c.args.bytes.now c.rest_of.result.now c.args.start c.args.ere.now c.args.from c.in_ok-found-in-Ended.field-0 (Some c.in-Some.found) c.rest_of.ensures (assumption c.in_ok-found-in-Ended.ensures) c.in-Some.is in
    let span = nonempty_within true (drop c.args.start c.args.bytes.now) c.args.ere.now c.args.from c.in-Some.found is in
    omega (arith, span.2, length-drop c.args.start c.args.bytes.now)

pub returns-in-Some-clause-next : goal.returns-in-Some-clause-next
returns-in-Some-clause-next c =
    let s = drop c.args.start c.args.bytes.now in
    let is = searched_last c.args.bytes.now c.rest_of.result.now c.args.start c.args.ere.now c.args.from c.in_ok-found-in-Ended.field-0 (Some c.in-Some.found) c.rest_of.ensures (assumption c.in_ok-found-in-Ended.ensures) c.in-Some.is in
    last_found c.args.bytes.now c.args.start c.args.ere.now c.args.from c.in-Some.found c.args.ending c.in-Ended.is c.requires.skipped is
    ∙ ap (λ (p : Place). Ok (Some (text_at c.args.bytes.now p))) (sym c.found_before.ensures)

pub returns-in-Some-clause-within : goal.returns-in-Some-clause-within
returns-in-Some-clause-within c =
    let s = drop c.args.start c.args.bytes.now in
    let is = searched_last c.args.bytes.now c.rest_of.result.now c.args.start c.args.ere.now c.args.from c.in_ok-found-in-Ended.field-0 (Some c.in-Some.found) c.rest_of.ensures (assumption c.in_ok-found-in-Ended.ensures) c.in-Some.is in
    subst (λ (p : Place). IsWithin c.args.bytes.now c.args.start (Ok (Some p))) (sym c.found_before.ensures)
    (match_within c.args.bytes.now c.args.start c.args.from c.in-Some.found c.requires.in_range (nonempty_within true s c.args.ere.now c.args.from c.in-Some.found is))

pub returns-in-None-clause-next : goal.returns-in-None-clause-next
returns-in-None-clause-next c =
    let s = drop c.args.start c.args.bytes.now in
    let is = searched_last c.args.bytes.now c.rest_of.result.now c.args.start c.args.ere.now c.args.from c.in_ok-found-in-Ended.field-0 None c.rest_of.ensures (assumption c.in_ok-found-in-Ended.ensures) c.in-None.is in
    subst (λ (x : Result (Option Found) Fault). Answers x c.args.bytes.now c.last_line.result) (sym (last_rest s c.args.start c.args.ere.now c.args.from c.args.ending c.in-Ended.is c.requires.skipped is)) c.last_line.ensures.next
