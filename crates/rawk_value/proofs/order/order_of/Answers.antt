-- Both values count as numbers.
use Rattle.std.proofs.Common.{◌∙◌, sym, Ok}
use Rattle.std.specs.Cmp.Lexicographic.{slice_cmp}
use Rattle.std.specs.Ordering.{nat_cmp}
use Rattle.rawk_value.specs.Values.{counts, number_of, text_of, next_ok, int_order}
use Rattle.rawk_value.proofs.Fronts.{both_given}
use Rattle.rawk_value.proofs.order.order_of.Goals as goal

pub returns-in-Some-number_if_counts : goal.returns-in-Some-number_if_counts
returns-in-Some-number_if_counts c =
    c.number_order.ensures
    ∙ both_given (counts c.args.left.now) (counts c.args.right.now) (number_of c.args.left.now) (number_of c.args.right.now) c.in-Some.x c.in-Some-number_if_counts.y
    (λ x y. next_ok x (λ m. next_ok y (λ n. Ok (int_order m n)))) (Ok (slice_cmp nat_cmp (text_of c.args.left.now) (text_of c.args.right.now)))
    (sym c.number_if_counts.ensures ∙ c.in-Some.is) (sym c.number_if_counts-in-Some.ensures ∙ c.in-Some-number_if_counts.is)
