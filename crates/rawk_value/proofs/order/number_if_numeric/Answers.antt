-- The scan is the front's.
use Rattle.std.proofs.Common.{◌≡◌, true, false, sym, ap, ◌∙◌}
use Rattle.std.specs.Prelude.{Result, ℤ, Option, Some, None}
use Rattle.rawk_value.specs.Values.{Bytes, front, front_number, is_numeric}
use Rattle.rawk_value.specs.declared.fault.Fault.{Fault}
use Rattle.rawk_value.proofs.Fronts.{when_true, when_false}
use Rattle.rawk_value.proofs.order.number_if_numeric.Goals as goal

pub returns-then-is_numeric : goal.returns-then-is_numeric
returns-then-is_numeric c =
    let text : Bytes = c.args.text.now in
    let numeric : is_numeric text ≡ true = sym (c.is_numeric.ensures (front text) c.scanned-scan.ensures) ∙ c.if-is_numeric.true in
    ap Some (c.number.ensures (front text) c.scanned-scan.ensures)
    ∙ when_true {A = Option (Result ℤ Fault)} (is_numeric text) (Some (front_number (front text))) None numeric

pub returns-else-is_numeric : goal.returns-else-is_numeric
returns-else-is_numeric c =
    let text : Bytes = c.args.text.now in
    let other : is_numeric text ≡ false = sym (c.is_numeric.ensures (front text) c.scanned-scan.ensures) ∙ c.if-is_numeric.false in
    when_false {A = Option (Result ℤ Fault)} (is_numeric text) (Some (front_number (front text))) None other
