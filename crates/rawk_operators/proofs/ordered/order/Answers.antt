-- Both values count as numbers.
use Rattle.std.proofs.Common.{◌≡◌, Bool, true, false, if◌then◌else◌, ◌&&◌, ℤ, Some, None, Result, Ok, sym, ◌∙◌}
use Rattle.std.specs.Cmp.Lexicographic.{slice_cmp}
use Rattle.std.specs.Ordering.{nat_cmp}
use Rattle.rawk_value.specs.declared.fault.Fault.{Fault}
use Rattle.rawk_value.specs.Values.{counts, number_of, text_of, next_ok, int_order}
use Rattle.rawk_operators.specs.Borrowed.{borrowed_value}
use Rattle.rawk_operators.proofs.ordered.order.Goals as goal

both_given : {R : Type 0} (b d : Bool) (m n x y : Result ℤ Fault) (f : Result ℤ Fault → Result ℤ Fault → R) (other : R) →
    (if b then Some m else None) ≡ Some x → (if d then Some n else None) ≡ Some y → f x y ≡ (if b && d then f m n else other)
both_given true true m n x y f other p q = cc
both_given true false m n x y f other p q = cc
both_given false d m n x y f other p q = cc

pub returns-in-Some-number_if_compared : goal.returns-in-Some-number_if_compared
returns-in-Some-number_if_compared c =
    let v = borrowed_value c.args.left in
    let w = borrowed_value c.args.right in
    c.number_order.ensures
    ∙ both_given (counts v) (counts w) (number_of v) (number_of w) c.in-Some.x c.in-Some-number_if_compared.y
    (λ x y. next_ok x (λ m. next_ok y (λ n. Ok (int_order m n)))) (Ok (slice_cmp nat_cmp (text_of v) (text_of w)))
    (sym c.number_if_compared.ensures ∙ c.in-Some.is) (sym c.number_if_compared-in-Some.ensures ∙ c.in-Some-number_if_compared.is)
