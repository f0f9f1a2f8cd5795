use Rattle.std.proofs.Common.{◌≡◌, ◌+◌, length, drop, List, ℕ, None, Some, Ok, arith, ap, sym, refl, ◌∙◌, subst}
use Rattle.std.proofs.lemmas.List.{length-drop, length-append}
use Rattle.rawk_search.specs.Matches.{open_match}
use Rattle.rawk_search.specs.Laws.{IsSkip, open_within}
use Rattle.rawk_tape.specs.Tapes.{IsWithin, text_at}
use Rattle.rawk_tape.specs.declared.found.Found.{Found as Place}
use Rattle.rawk_tape.proofs.Ahead.{ahead_more, read_behind_unsettled}
use Rattle.rawk_tape.proofs.Separators.{skip_on, searched, found_match, match_within, match_open, open_skipped, skip_read}
use Rattle.rawk_tape.proofs.matches.next_match.Goals as goal

pub found_before-requires-clause-ordered : goal.found_before-requires-clause-ordered
found_before-requires-clause-ordered g c =
    let l = c.loop-from in
    let is = searched l.bytes c.as_slice.result.now c.rest_of-rest.result.now c.args.start c.args.ere.now c.in_ok-from.from c.in_ok-found.field-0 (Some c.in-Some.found) c.rest_of-rest.ensures c.as_slice.ensures (assumption c.in_ok-found.ensures) c.in-Some.is in
    let span = open_within (drop c.args.start l.bytes) c.args.ere.now c.in_ok-from.from c.in-Some.found is in
    omega (arith, span.1)

pub found_before-requires-clause-small : goal.found_before-requires-clause-small
found_before-requires-clause-small g c =
    let l = c.loop-from in
    let is = searched l.bytes c.as_slice.result.now c.rest_of-rest.result.now c.args.start c.args.ere.now c.in_ok-from.from c.in_ok-found.field-0 (Some c.in-Some.found) c.rest_of-rest.ensures c.as_slice.ensures (assumption c.in_ok-found.ensures) c.in-Some.is in
    let span = open_within (drop c.args.start l.bytes) c.args.ere.now c.in_ok-from.from c.in-Some.found is in
    omega (arith, span.2, length-drop c.args.start l.bytes, ap length c.as_slice.ensures, l.invariant.low)

pub returns-in-Some-clause-next : goal.returns-in-Some-clause-next
returns-in-Some-clause-next g c = λ input may.
    let l = c.loop-from in
    let skipped : IsSkip (drop c.args.start l.bytes) c.args.ere.now 0 c.in_ok-from.from = skip_on l.bytes c.as_slice.result.now c.rest_of-rest.result.now c.args.start c.args.ere.now l.from c.in_ok-from.from c.rest_of-rest.ensures c.as_slice.ensures l.invariant.skipped (assumption c.in_ok-from.ensures) in
    let is = searched l.bytes c.as_slice.result.now c.rest_of-rest.result.now c.args.start c.args.ere.now c.in_ok-from.from c.in_ok-found.field-0 (Some c.in-Some.found) c.rest_of-rest.ensures c.as_slice.ensures (assumption c.in_ok-found.ensures) c.in-Some.is in
    found_match g.R.Source.may_give (record { source = l.source; bytes = l.bytes; consumed = c.args.start }) c.args.ere.now c.in_ok-from.from c.in-Some.found l.invariant.low skipped is input may
    ∙ ap (λ (p : Place). Ok (Some (text_at l.bytes p))) (sym c.found_before.ensures)

pub returns-in-Some-clause-within : goal.returns-in-Some-clause-within
returns-in-Some-clause-within g c =
    let l = c.loop-from in
    let is = searched l.bytes c.as_slice.result.now c.rest_of-rest.result.now c.args.start c.args.ere.now c.in_ok-from.from c.in_ok-found.field-0 (Some c.in-Some.found) c.rest_of-rest.ensures c.as_slice.ensures (assumption c.in_ok-found.ensures) c.in-Some.is in
    subst (λ (p : Place). IsWithin l.bytes c.args.start (Ok (Some p))) (sym c.found_before.ensures)
    (match_within l.bytes c.args.start c.in_ok-from.from c.in-Some.found l.invariant.low (open_within (drop c.args.start l.bytes) c.args.ere.now c.in_ok-from.from c.in-Some.found is))

pub last_match-requires-clause-unsettled : goal.last_match-requires-clause-unsettled
last_match-requires-clause-unsettled g c =
    let l = c.loop-from in
    let skipped : IsSkip (drop c.args.start l.bytes) c.args.ere.now 0 c.in_ok-from.from = skip_on l.bytes c.as_slice.result.now c.rest_of-rest.result.now c.args.start c.args.ere.now l.from c.in_ok-from.from c.rest_of-rest.ensures c.as_slice.ensures l.invariant.skipped (assumption c.in_ok-from.ensures) in
    let is = searched l.bytes c.as_slice.result.now c.rest_of-rest.result.now c.args.start c.args.ere.now c.in_ok-from.from c.in_ok-found.field-0 None c.rest_of-rest.ensures c.as_slice.ensures (assumption c.in_ok-found.ensures) c.in_default.is in
    ap (λ (x : List ℕ). open_match (drop c.args.start x) c.args.ere.now 0) c.as_slice-in-Some-over.ensures ∙ (open_skipped (drop c.args.start l.bytes) c.args.ere.now c.in_ok-from.from skipped ∙ is)

pub loop-from-preserved : goal.loop-from-preserved
loop-from-preserved g c =
    let l = c.loop-from in
    let i = l.invariant in
    let r = c.in_ok-over.ensures.reads in
    let is = searched l.bytes c.as_slice.result.now c.rest_of-rest.result.now c.args.start c.args.ere.now c.in_ok-from.from c.in_ok-found.field-0 None c.rest_of-rest.ensures c.as_slice.ensures (assumption c.in_ok-found.ensures) c.in_default.is in
    let skipped : IsSkip (drop c.args.start l.bytes) c.args.ere.now 0 c.in_ok-from.from = skip_on l.bytes c.as_slice.result.now c.rest_of-rest.result.now c.args.start c.args.ere.now l.from c.in_ok-from.from c.rest_of-rest.ensures c.as_slice.ensures l.invariant.skipped (assumption c.in_ok-from.ensures) in
    let longer : length c.read_from.new.self ≡ length l.bytes + length r.chunk = ap length r.grown ∙ length-append l.bytes r.chunk in
    let ahead = ahead_more g.R.Source.may_give g.R.Source.over g.R.Source.handed (record { source = c.args.source.now; bytes = c.args.bytes.now; consumed = c.args.start }) (record { source = l.source; bytes = l.bytes; consumed = c.args.start }) (record { source = c.read_from.new.source; bytes = c.read_from.new.self; consumed = c.args.start }) i.ahead (i.reported ∙ c.in_default-over.is) r refl in
    record {
      low = omega (arith, i.low);
      reported = c.in_ok-over.ensures.over;
      ahead = ahead;
      skipped = skip_read l.bytes r.chunk c.read_from.new.self c.args.start c.args.ere.now c.in_ok-from.from i.low r.grown skipped;
      lazy = λ separator read. read_behind_unsettled separator c.args.start c.args.bytes.now l.bytes r.chunk c.read_from.new.self (λ same. same.1) (i.lazy separator read) i.ahead.grown r.grown r.bounded (match_open l.bytes c.args.start c.args.ere.now c.in_ok-from.from skipped is separator read);
    }
