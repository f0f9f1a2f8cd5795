use Rattle.std.proofs.Common.{◌≡◌, slice_index, arith}
use Rattle.std.proofs.lemmas.Grind.{common_steps}
use Rattle.rawk_names.proofs.Following.{followed_link}
use Rattle.rawk_names.proofs.arrays.follow.Goals as goal

pub loop-at-preserved : goal.loop-at-preserved
loop-at-preserved c =
    let f = c.args.links.now.from in
    let t = c.args.links.now.to.items in
    let there : c.index.result.now ≡ slice_index t c.in-Some.link = grind (arith, common_steps, c.index.ensures) in
    let step = followed_link f t c.args.variable c.in-Some.link c.index.result.now c.args.marks.now.flags.items c.loop-at.marks.flags.items c.mark.new.flags.items c.args.marks.now.pending.items c.loop-at.marks.pending.items c.mark.new.pending.items
    c.loop-at.at c.earlier-at.result c.requires.size c.requires.below c.in-Some.is there c.in_ok-mark.ensures.flags c.in_ok-mark.ensures.pending c.loop-at.invariant.progress c.loop-at.invariant.done c.earlier-at.ensures in
    record { progress = step.0; done = step.1 }
