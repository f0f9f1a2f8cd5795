-- The number's text is what `%d` asks for.
use Rattle.std.proofs.Common.{◌∙◌, ap, Result, Ok, ℤ}
use Rattle.rawk_value.specs.Values.{int_text, next_ok}
use Rattle.rawk_value.specs.declared.fault.Fault.{Fault}
use Rattle.rawk_format.specs.Format.{prefixed}
use Rattle.rawk_format.proofs.Plains.{number_added}
use Rattle.rawk_format.proofs.printf.push_whole.Goals as goal

pub returns-in_ok-push_decimal-in-Some-clause-added : goal.returns-in_ok-push_decimal-in-Some-clause-added
returns-in_ok-push_decimal-in-Some-clause-added c =
    number_added c.args.out.now.items c.push_decimal.new.out.items c.args.rest.now c.args.values.now c.in-Some.value.now c.in-Some.values.now c.in-Some.ensures
    (c.in_ok-push_decimal-in-Some.ensures.added ∙ ap (λ (r : Result ℤ Fault). prefixed c.args.out.now.items (next_ok r (λ z. Ok (int_text z)))) c.number_of.ensures)
