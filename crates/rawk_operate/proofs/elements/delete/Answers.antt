use Rattle.std.proofs.Common.{ℤ, Ok, Result, ap, refl, rules, SFits, sym, w64, ◌∙◌}
use Rattle.std.proofs.lemmas.Int.{to_z-of_z}
use Rattle.rawk_value.specs.declared.fault.Fault.{Fault}
use Rattle.rawk_value.specs.declared.value.Value.{Value}
use Rattle.rawk_value.specs.declared.value.Value.TheVariants.{Number}
use Rattle.rawk_value.specs.Values.{next_ok, text_of}
use Rattle.rawk_arrays.specs.Laid.{arrays_of}
use Rattle.rawk_store.specs.State.{array_in, delete_element}
use Rattle.rawk_operands.specs.Moving.{moving, moving_of}
use Rattle.rawk_operate.proofs.Subscripts.{element_deleted}
use Rattle.rawk_operate.proofs.elements.delete.Goals as goal

pub returns-in-Some-clause-did : goal.returns-in-Some-clause-did
returns-in-Some-clause-did g c =
    let n = c.in-Some.n in
    let old = moving c.args.store.now in
    let key = text_of (Number n) in
    let fits : SFits w64 n = search rules in
    let did = c.in_ok-delete_numbered.ensures.did ∙ ap (λ (z : ℤ). delete_element (array_in c.args.array old.frames) (text_of (Number z)) old.arrays) (to_z-of_z w64 n fits) in
    element_deleted c.args.array c.args.from.now old (moving c.delete_numbered.new.self) (moving c.drop_taken.new.store) (Ok key) key key (arrays_of c.delete_numbered.new.self.arrays.now)
    (sym (ap (λ (r : Result Value Fault). next_ok r (λ v. Ok (text_of v))) c.in-Some.ensures)) refl refl did (ap moving_of c.delete_numbered.ensures.rest) c.drop_taken.ensures.did
