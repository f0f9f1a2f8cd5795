use Rattle.rawk_names.proofs.Following.{all_marked}
use Rattle.rawk_names.proofs.arrays.arrays.Goals as goal

pub returns : goal.returns
returns c = λ v. (
  c.in_ok-spread.ensures.marking.sound v,
  all_marked c.args.uses.now c.in_ok-links.links.from c.in_ok-links.links.to.items c.spread.new.marks.flags.items c.in_ok-links.ensures c.in_ok-spread.ensures.marking (λ w s. c.in_ok-spread.ensures.kept w (c.in_ok-marks.ensures.used w s)) v,
)
