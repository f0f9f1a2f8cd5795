use Rattle.std.proofs.Common.{◌≡◌, List, get_or, take, subst, arith}
use Rattle.std.proofs.lemmas.Grind.{common_steps}
use Rattle.rawk_names.specs.declared.usage.Usage.{Usage}
use Rattle.rawk_names.specs.Marking.{AreUsedMarked}
use Rattle.rawk_names.proofs.Following.{marked_more, none_marked, read, nobody}
use Rattle.rawk_names.proofs.arrays.used_marks.Goals as goal

pub loop-usage-init : goal.loop-usage-init
loop-usage-init c =
    let m = none_marked c.args.uses.now c.in_ok-marks.marks.flags.items c.in_ok-marks.marks.pending.items c.in_ok-end_of_all.field-0 c.in_ok-marks.ensures.flags c.in_ok-marks.ensures.pending c.in_ok-end_of_all.ensures in
    record { marking = m.marking; used = m.used; below = m.below }

pub loop-usage-preserved : goal.loop-usage-preserved
loop-usage-preserved c =
    let i = c.loop-usage.usage-index in
    let inv = c.loop-usage.invariant in
    let m = marked_more c.args.uses.now i (get_or c.args.uses.now i nobody) c.loop-usage.marks.flags.items c.mark_use.new.marks.flags.items c.loop-usage.marks.pending.items c.mark_use.new.marks.pending.items
    c.loop-usage-test.true (read c.args.uses.now i nobody c.loop-usage-test.true) c.in_ok-mark_use.ensures.flags c.in_ok-mark_use.ensures.pending (record { marking = inv.marking; used = inv.used; below = inv.below }) in
    record { marking = m.marking; used = m.used; below = m.below }

pub returns-clause-used : goal.returns-clause-used
returns-clause-used c =
    let whole : take c.loop-usage.usage-index c.args.uses.now ≡ c.args.uses.now = grind (arith, common_steps) in
    subst (λ (us : List Usage). AreUsedMarked us c.loop-usage.marks.flags.items) whole c.loop-usage.invariant.used
