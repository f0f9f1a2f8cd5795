use Rattle.std.proofs.Common.{◌≡◌, ◌∷◌, ◌++◌, List, SFits, ap, drop, rules, subst, w64, ◌∙◌}
use Rattle.std.proofs.lemmas.Int.{to_z-of_z}
use Rattle.rawk_value.specs.declared.value.Value.{Value}
use Rattle.rawk_value.specs.declared.value.Value.TheVariants.{String}
use Rattle.rawk_value.specs.Values.{text_of}
use Rattle.rawk_tree.specs.declared.tree.Joiner.TheVariants as joiner
use Rattle.rawk_store.specs.Stacked.{live_values}
use Rattle.rawk_code.specs.Machine.{top}
use Rattle.rawk_code.specs.Term.{Term}
use Rattle.rawk_code.specs.declared.code.Operand.TheVariants.{Computed}
use Rattle.rawk_code.specs.declared.code.Op.TheVariants as does
use Rattle.rawk_code.specs.declared.code.Instr.TheVariants as instr
use Rattle.rawk_operate.specs.declared.transfer.Transfer.TheVariants as transfer
use Rattle.rawk_operate.specs.Done.{Done}
use Rattle.rawk_operands.specs.Moving.{moving, with_operands}
use Rattle.rawk_texts.proofs.Pushed.{field_joined}
use Rattle.rawk_texts.proofs.append.join_field.Goals as goal

pub returns-clause-did : goal.returns-clause-did
returns-clause-did g c =
    let m = moving c.args.store.now in
    let n = c.in-Some.n in
    let fits : SFits w64 n = search rules in
    let found = c.in-Some-field_piece.ensures in
    let more = c.in-Some-field_piece.more.now in
    let is : moving c.put.new.store ≡ with_operands (String (text_of (top m.operands) ++ more) ∷ drop 1 m.operands) m = c.in_ok-put.ensures.did
    ∙ (ap (λ (v : Value). with_operands (v ∷ drop 1 (live_values c.joined_bytes.new.operands.now)) m) c.in_ok-text.ensures.made
    ∙ ap (λ (l : List Value). with_operands (String (text_of (top m.operands) ++ more) ∷ l) m) c.in_ok-text.ensures.below) in
    subst (λ (t : Term). Done (instr.Do (does.Combine joiner.Concat (Computed t))) m transfer.Next (moving c.put.new.store)) c.in-At.ensures
    (field_joined c.in-At.number.now m (moving c.put.new.store) n _ found.0 more c.in-Some.ensures (to_z-of_z w64 n fits) found.1 found.2 is)
