use Rattle.std.proofs.Common.{ℕ, sym, subst, ◌∙◌, ◌<◌, slice_index}
use Rattle.rawk_names.proofs.Following.{links_below, marking_followed}
use Rattle.rawk_names.proofs.arrays.spread.Goals as goal

pub follow-requires-clause-below : goal.follow-requires-clause-below
follow-requires-clause-below c = λ e h. subst (λ (n : ℕ). slice_index c.args.links.now.to.items e < n) (sym c.loop-variable.invariant.size) (links_below c.args.uses.now c.args.links.now.from c.args.links.now.to.items _ c.requires.links c.requires.below e h)

pub loop-variable-preserved : goal.loop-variable-preserved
loop-variable-preserved c =
    let inv = c.loop-variable.invariant in
    let followed = c.in_ok-follow.ensures in
    record {
      size = followed.progress.size ∙ inv.size;
      marking = marking_followed c.args.uses.now c.args.links.now.from c.args.links.now.to.items c.in-Some.variable c.loop-variable.marks.flags.items c.follow.new.marks.flags.items c.pop.new.self.items c.follow.new.marks.pending.items c.loop-variable.marks.pending.items
          c.requires.links c.in-Some.ensures.items inv.marking followed;
      kept = λ v h. followed.progress.kept v (inv.kept v h);
    }
