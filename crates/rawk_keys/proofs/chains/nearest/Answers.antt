use Rattle.std.proofs.Common.{length, arith}
use Rattle.rawk_keys.specs.declared.chains.Link.{Link}
use Rattle.rawk_keys.proofs.Links.{link_within, link_next}
use Rattle.rawk_keys.proofs.chains.nearest.Goals as goal

blank : Link
blank = record { label = 0; earlier = 0 }

pub loop-at-smaller : goal.loop-at-smaller
unfolding blank
loop-at-smaller c = omega (arith, c.loop-at-test.true, link_within (length c.args.heads.now) c.args.links.now c.args.heads.now c.loop-at.at blank c.requires.linked c.loop-at-test.true c.loop-at.invariant.within)

pub loop-at-preserved : goal.loop-at-preserved
unfolding blank
loop-at-preserved c = record {
  within = omega (arith, c.loop-at.invariant.within, link_within (length c.args.heads.now) c.args.links.now c.args.heads.now c.loop-at.at blank c.requires.linked c.loop-at-test.true c.loop-at.invariant.within);
  leads = λ n p. link_next (length c.args.heads.now) c.args.links.now c.args.heads.now n c.args.label c.loop-at.at blank c.requires.linked c.loop-at-test.true c.loop-at.invariant.within c.if-link-label.false (c.loop-at.invariant.leads n p);
}
