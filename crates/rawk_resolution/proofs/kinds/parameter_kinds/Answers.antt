use Rattle.std.proofs.Common.{◌≤◌, ◌∙◌, ap, arith}
use Rattle.rawk_names.specs.Named.{known}
use Rattle.rawk_resolution.specs.Meant.{kind_of}
use Rattle.rawk_resolution.specs.Globals.{parameter_more}
use Rattle.rawk_resolution.proofs.kinds.parameter_kinds.Goals as goal

pub loop-parameter-preserved : goal.loop-parameter-preserved
loop-parameter-preserved c =
    let low : c.in-Some.signature.first ≤ c.loop-parameter.parameter = omega arith in
    record {
      made = parameter_more (known c.args.names.now) c.in-Some.signature.first c.loop-parameter.parameter c.loop-parameter.kinds.items c.push.new.self.items c.kind_of.result low
          (c.kind_of.ensures ∙ ap kind_of c.is_array.ensures) c.in_ok-push.ensures.items c.loop-parameter.invariant.made;
      within = omega arith;
    }
