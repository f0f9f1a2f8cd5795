use Rattle.std.proofs.Common.{refl, ap, sym, ◌∙◌, unwrap_or, Option}
use Rattle.std.specs.Option.{option_map}
use Rattle.rawk_value.specs.declared.value.Value.TheVariants.{Uninitialized}
use Rattle.rawk_record.specs.FieldRefs.{ref_value}
use Rattle.rawk_record.specs.declared.parts.FieldRef.{FieldRef}
use Rattle.rawk_record.proofs.Values.{field_or-is}
use Rattle.rawk_record.proofs.build.field_or.Goals as goal

pub returns-in-Some : goal.returns-in-Some
returns-in-Some c = λ fields place e. field_or-is fields place place _ refl e ∙ ap (λ (x : Option FieldRef). unwrap_or (option_map ref_value x) Uninitialized) c.in-Some.is

pub returns-in-None : goal.returns-in-None
returns-in-None c = λ fields place e. field_or-is fields place place _ refl e ∙ (ap (λ (x : Option FieldRef). unwrap_or (option_map ref_value x) Uninitialized) c.in-None.is ∙ sym c.requires)
