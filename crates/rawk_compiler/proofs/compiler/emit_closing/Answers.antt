use Rattle.std.proofs.Common.{◌∙◌, ◌∷◌, [], false}
use Rattle.rawk_code.specs.declared.code.Op.TheVariants.{SetRange}
use Rattle.rawk_code.specs.declared.code.Instr.TheVariants.{Do}
use Rattle.rawk_emission.specs.Expressions.{fork_of}
use Rattle.rawk_compiler.specs.Code.{condition_leap, nowhere}
use Rattle.rawk_compiler.proofs.Patch.{patch_when}
use Rattle.rawk_compiler.proofs.compiler.emit_closing.Goals as goal

pub returns : goal.returns
returns c =
    let last = c.args.last.now in
    c.pass_rest.ensures
    ∙ patch_when c.args.code.now.items (fork_of last false).front (condition_leap last) (λ w at. Do (SetRange c.args.range false) ∷ []) nowhere c.emit_skip.new.code.items c.put_range.new.code.items c.in_ok-skip.skip c.in_ok-skip.ensures.items c.in_ok-skip.ensures.place c.in_ok-put_range.ensures
