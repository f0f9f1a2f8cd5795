use Rattle.std.proofs.Common.{◌∙◌, true, false}
use Rattle.rawk_code.specs.declared.code.Op.TheVariants.{SetRange}
use Rattle.rawk_code.specs.declared.code.Instr.TheVariants.{Do}
use Rattle.rawk_emission.specs.Expressions.{fork_of}
use Rattle.rawk_compiler.specs.Code.{condition_leap, nowhere, closing_code, opened_code, stmt_code}
use Rattle.rawk_compiler.proofs.Patch.{opened_put, patch_when}
use Rattle.rawk_compiler.proofs.compiler.emit_range.Goals as goal

pub returns-clause-items : goal.returns-clause-items
returns-clause-items c =
    let first = c.args.first.now in
    let work = stmt_code c.args.action.now in
    let c1 = c.emit_skip.new.code.items in
    let c3 = c.emit_stmt.new.code.items in
    c.pass_rest.ensures
    ∙ patch_when c.args.code.now.items (fork_of first false).front (condition_leap first) (opened_code c.args.range c.args.last.now work) nowhere c1 c3 c.in_ok-skip.skip c.in_ok-skip.ensures.items c.in_ok-skip.ensures.place
    (opened_put c1 c.put_range.new.code.items c.emit_closing.new.code.items c3 (closing_code c.args.range c.args.last.now) (Do (SetRange c.args.range true)) work nowhere c.in_ok-put_range.ensures c.in_ok-emit_closing.ensures c.in_ok-emit_stmt.ensures)
