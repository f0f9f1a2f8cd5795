use Rattle.std.proofs.Common.{◌<◌, length, arith, ◌∙◌}
use Rattle.rawk_names.specs.Named.{known}
use Rattle.rawk_resolution.specs.Meant.{global_words}
use Rattle.rawk_resolution.specs.Globals.{word_more}
use Rattle.rawk_syntax.proofs.items.global_words.Goals as goal

pub loop-variable-preserved : goal.loop-variable-preserved
loop-variable-preserved c =
    let h : c.loop-variable.variable < length c.args.names.now.variables = omega (arith, c.loop-variable-test.true, c.variable_count-variable-end.ensures) in
    word_more c.args.names.now.variables c.loop-variable.variable c.loop-variable.words.items c.push.new.self.items (global_words (known c.args.names.now)) c.in_ok-from_slice.field-0 h
    (λ entry at. c.in_ok-from_slice.ensures ∙ c.variable_name.ensures entry at) c.in_ok-push.ensures.items c.loop-variable.invariant
