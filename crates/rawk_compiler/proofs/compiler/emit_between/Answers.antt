use Rattle.std.proofs.Common.{◌∙◌, Some, false}
use Rattle.rawk_code.specs.declared.code.Instr.TheVariants.{Point}
use Rattle.rawk_emission.specs.Expressions.{fork_of}
use Rattle.rawk_compiler.specs.Code.{condition_leap, nowhere, when_code, opened_code, stmt_code}
use Rattle.rawk_compiler.proofs.Patch.{patch_range}
use Rattle.rawk_compiler.proofs.compiler.emit_between.Goals as goal

pub returns : goal.returns
returns c =
    let first = c.args.first.now in
    let test = (fork_of first false).front in
    let piece = when_code test (condition_leap first) (opened_code c.args.range c.args.last.now (stmt_code c.args.action.now)) in
    c.patch.ensures.items
    ∙ patch_range c.args.code.now.items test piece nowhere c.put_point.new.code.items c.put.new.code.items c.emit_range.new.code.items (Point (Some c.args.site)) c.args.range c.len-skip.result c.in_ok-behind.behind
    c.in_ok-put_point.ensures (c.len-skip.ensures ∙ c.put_point.new.code.ok.0) c.in_ok-put.ensures c.in_ok-behind.ensures.items c.in_ok-behind.ensures.behind
