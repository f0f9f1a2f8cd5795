use Rattle.std.proofs.Common.{SFits, ℤ, rules, subst, w64}
use Rattle.std.proofs.lemmas.Int.{to_z-of_z}
use Rattle.rawk_code.specs.declared.code.Simple.TheVariants as simple
use Rattle.rawk_operands.specs.Moving.{moving}
use Rattle.rawk_operate.specs.InPlace.{IsReadIf}
use Rattle.rawk_operate.proofs.Subscripts.{element_by_number}
use Rattle.rawk_operate.proofs.elements.put_element.Goals as goal

pub returns-then-done-2-clause-did : goal.returns-then-done-2-clause-did
returns-then-done-2-clause-did g c =
    let m = moving c.args.store.now in
    let new = moving c.read_in_place-in-Some.new.store in
    let fits : SFits w64 c.in-Some.n = search rules in
    let did = subst (λ (z : ℤ). IsReadIf c.in_ok-done-in-Computed.done c.args.array (simple.Number z) m new) (to_z-of_z w64 c.in-Some.n fits) c.in_ok-done-in-Computed.ensures.did in
    element_by_number c.args.array c.args.from.now c.in-Computed.formula c.in-Some.n c.in_ok-done-in-Computed.done m new c.in-Computed.is c.in-Some.ensures did c.if-done-2.true
