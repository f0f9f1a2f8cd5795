use Rattle.std.proofs.Common.{◌∙◌}
use Rattle.rawk_compiler.specs.Code.{condition_code, condition_leap, stmt_code, nowhere}
use Rattle.rawk_compiler.proofs.Patch.{patch_when}
use Rattle.rawk_compiler.proofs.compiler.emit_tested.Goals as goal

pub returns : goal.returns
returns c =
    let e = c.args.test.now in
    c.pass_rest.ensures
    ∙ patch_when c.args.code.now.items (condition_code c.args.site e) (condition_leap e) (stmt_code c.args.action.now) nowhere c.emit_condition.new.code.items c.emit_stmt.new.code.items c.in_ok-test_end.test_end c.in_ok-test_end.ensures.items c.in_ok-test_end.ensures.place c.in_ok-emit_stmt.ensures
