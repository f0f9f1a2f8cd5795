use Rattle.std.proofs.Common.{◌<◌, length, arith, ◌∙◌, ap}
use Rattle.rawk_names.specs.Named.{known}
use Rattle.rawk_resolution.specs.Meant.{global_kinds, kind_of}
use Rattle.rawk_resolution.specs.Globals.{kind_more}
use Rattle.rawk_resolution.proofs.kinds.global_kinds.Goals as goal

pub loop-global-preserved : goal.loop-global-preserved
loop-global-preserved c =
    let h : c.loop-global.global < length c.args.names.now.variables = omega (arith, c.loop-global-test.true, c.variable_count-global-end.ensures) in
    kind_more (known c.args.names.now) c.loop-global.global c.loop-global.kinds.items c.push.new.self.items (global_kinds (known c.args.names.now)) c.kind_of.result h
    (c.kind_of.ensures ∙ ap kind_of c.is_array.ensures) c.in_ok-push.ensures.items c.loop-global.invariant
