use Rattle.std.proofs.Common.{◌+◌, ◌*◌, ◌%◌, get_or, refl, subst, ◌∙◌, arith}
use Rattle.rawk_ere_begins.specs.Filters.{HasMark}
use Rattle.std.proofs.lemmas.Bool.{eqb-true}
use Rattle.rawk_ere_begins.proofs.FilterLemmas.{is_filter, draft_is, draft_dead, draft_row, draft_more}
use Rattle.rawk_ere_begins.proofs.filter.find_filter.Goals as goal
use Rattle.rawk_ere_begins.proofs.filter.find_filter.Goals.{then-to-dead, then-to-row, else-to-row, else-to-dead}

pub loop-byte-init : goal.loop-byte-init
loop-byte-init c = record { small = omega arith; nexts = λ not. absurd (not refl); none = λ e a lt. absurd (omega (arith, lt)); done = λ a lt. absurd (omega (arith, lt)) }

pub loop-byte-preserved : goal.loop-byte-preserved
loop-byte-preserved c =
    let next = c.args.next.now in
    let ends = c.args.ends.now in
    let later = c.args.later in
    let dead = c.args.dead in
    let first = c.loop-byte.first in
    let second = c.loop-byte.second in
    let mark = c.loop-byte.mark in
    let row = c.loop-byte.row in
    let byte = c.loop-byte.byte in
    let to = get_or next (later * 256 + byte) 0 in
    let now = c.loop-byte.invariant in
    elim c.if-to-dead.branch [
      | then-to-dead w ↦ elim w.if-to-row.branch [
        | then-to-row w' ↦
            let other = draft_row next ends later dead first second w'.give_nexts.new.second mark ((mark + 1) % 8) row to byte (omega arith) w.if-to-dead.true w'.give_nexts.ensures.keeps w'.give_nexts.ensures.has now in
            let mark_is = w.mark-is ∙ w'.mark-is in
            draft_is next ends later dead w.give.new.self c.if-to-dead.first w'.give_nexts.new.second c.if-to-dead.second ((mark + 1) % 8) c.if-to-dead.mark to c.if-to-dead.row (byte + 1)
            w.first-is (w.second-is ∙ w'.second-is) mark_is (w.row-is ∙ w'.row-is)
            (draft_more next ends later dead first w.give.new.self w'.give_nexts.new.second ((mark + 1) % 8) to byte refl w.if-to-dead.true w.give.ensures.keeps
            (subst (λ m. HasMark w.give.new.self byte m) w'.mark-is w.give.ensures.has) other)
        | else-to-row w' ↦
            draft_is next ends later dead w.give.new.self c.if-to-dead.first second c.if-to-dead.second mark c.if-to-dead.mark row c.if-to-dead.row (byte + 1)
            w.first-is (w.second-is ∙ w'.second-is) (w.mark-is ∙ w'.mark-is) (w.row-is ∙ w'.row-is)
            (draft_more next ends later dead first w.give.new.self second mark row byte w'.if-to-row.false (λ e. w.if-to-dead.true (w'.if-to-row.false ∙ e)) w.give.ensures.keeps
            (subst (λ m. HasMark w.give.new.self byte m) w'.mark-is w.give.ensures.has) now)
      ]
      | else-to-dead w ↦
          draft_is next ends later dead first c.if-to-dead.first second c.if-to-dead.second mark c.if-to-dead.mark row c.if-to-dead.row (byte + 1) w.first-is w.second-is w.mark-is w.row-is
          (draft_dead next ends later dead first second mark row byte w.if-to-dead.false now)
    ]

pub returns : goal.returns
returns c = is_filter c.args.next.now c.args.ends.now c.args.later c.args.dead _ c.find_asked.ensures (λ e a lt. c.loop-byte.invariant.none (eqb-true c.loop-byte.row c.args.dead e) a (omega (arith, lt))) (λ a lt not. c.loop-byte.invariant.done a (omega (arith, lt)) not) c.are_single.ensures
