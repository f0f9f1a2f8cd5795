use Rattle.std.proofs.Common.{length, ap, arith, ◌∙◌}
use Rattle.rawk_ere_tree.specs.Code.{code_of}
use Rattle.rawk_ere.proofs.SizeLemmas.{code_short}
use Rattle.rawk_ere.proofs.expression.Ere.states.Goals as goal

pub returns : goal.returns
returns c =
    let e = ap length (c.self.invariant.0 ∙ ap code_of c.self.view_is) in
    record {
      value = omega (arith, e, c.len.ensures.value);
      within = omega (arith, e, code_short c.args.self.now, c.len.ensures.value);
    }
