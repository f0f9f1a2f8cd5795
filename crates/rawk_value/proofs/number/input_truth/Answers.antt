-- A numeric string has the truth of its number, and another text that of its bytes.
use Rattle.std.proofs.Common.{◌≡◌, true, false, sym, ap, ◌∙◌, not, Ok}
use Rattle.std.specs.Prelude.{Result, Bool}
use Rattle.rawk_value.specs.Values.{Bytes, front, front_number, is_numeric, is_zero, is_empty, next_ok}
use Rattle.rawk_value.specs.declared.fault.Fault.{Fault}
use Rattle.rawk_value.proofs.Fronts.{when_true, when_false}
use Rattle.rawk_value.proofs.number.input_truth.Goals as goal

pub returns-then-is_numeric : goal.returns-then-is_numeric
returns-then-is_numeric c =
    let text : Bytes = c.args.text.now in
    let numeric : is_numeric text ≡ true = sym (c.is_numeric.ensures (front text) c.scanned-scan.ensures) ∙ c.if-is_numeric.true in
    c.truth_of_number.ensures ∙ ap (λ r. next_ok r (λ n. Ok (not (is_zero n)))) (c.number.ensures (front text) c.scanned-scan.ensures)
    ∙ when_true {A = Result Bool Fault} (is_numeric text) (next_ok (front_number (front text)) (λ n. Ok (not (is_zero n)))) (Ok (not (is_empty text))) numeric

pub returns-else-is_numeric : goal.returns-else-is_numeric
returns-else-is_numeric c =
    let text : Bytes = c.args.text.now in
    let other : is_numeric text ≡ false = sym (c.is_numeric.ensures (front text) c.scanned-scan.ensures) ∙ c.if-is_numeric.false in
    when_false {A = Result Bool Fault} (is_numeric text) (next_ok (front_number (front text)) (λ n. Ok (not (is_zero n)))) (Ok (not (is_empty text))) other
