use Rattle.std.proofs.Common.{◌<◌, ◌++◌, ◌∷◌, [], ◌∙◌, ap, arith, length, length-append, false}
use Rattle.rawk_ere_automaton.proofs.BuildLemmas.{marked_more, marked_none}
use Rattle.rawk_ere_automaton.proofs.table.find_alike.Goals as goal

pub loop-byte-init : goal.loop-byte-init
loop-byte-init c =
    let e = c.in_ok-push.ensures.items ∙ ap (λ l. l ++ false ∷ []) c.new-marks.ensures.items in
    (ap length e, marked_none c.args.code.now c.push.new.self.items e)

pub loop-byte-preserved : goal.loop-byte-preserved
loop-byte-preserved c =
    let marks = c.loop-byte.marks.items in
    let all = c.push-in-loop-byte.new.self.items in
    let like = c.are_alike-like.result in
    let e = c.in_ok-push-2.ensures.items in
    let pos : 0 < c.loop-byte.byte = c.loop-byte.auto.byte in (
      omega (arith, ap length e ∙ length-append marks (like ∷ []), c.loop-byte.invariant.0),
      marked_more c.args.code.now marks all c.loop-byte.byte like c.loop-byte.invariant.1 c.loop-byte.invariant.0 pos e c.are_alike-like.ensures,
    )
