use Rattle.std.proofs.Common.{◌≡◌, ◌∙◌, ap}
use Rattle.rawk_code.specs.declared.code.Operand.{Operand}
use Rattle.rawk_operands.specs.Moving.{moving, operand_in, term_in}
use Rattle.rawk_texts.specs.Replacing.{below_newest}
use Rattle.rawk_operands.specs.Oks.{if_ok}
use Rattle.rawk_texts.proofs.Replaces.{term_below}
use Rattle.rawk_texts.proofs.replace.expression_borrowed.Goals as goal

pub returns-in-Computed : goal.returns-in-Computed
returns-in-Computed c =
    let m = moving c.args.store.now in
    let same : operand_in c.args.from.now (below_newest m) ≡ term_in c.in-Computed.formula m = ap (λ (o : Operand). operand_in o (below_newest m)) c.in-Computed.is ∙ term_below c.in-Computed.formula m in
    if_ok _ _ c.formula_value.result c.formula_value.ensures (λ r h. same ∙ h)
