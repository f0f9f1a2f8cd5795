-- Two texts are the same where their order says so.
use Rattle.std.proofs.Common.{◌≡◌, Ordering, Less, Equal, Greater, is_eq, sym, ◌∙◌, ap, not, refl}
use Rattle.std.proofs.lemmas.Map.Text.{is_eq-slice_cmp}
use Rattle.std.specs.Cmp.Lexicographic.{slice_cmp}
use Rattle.std.specs.Ordering.{is_ne, nat_cmp}
use Rattle.rawk_value.specs.Values.{holds}
use Rattle.rawk_operators.proofs.ordered.compare_bytes.Goals as goal

not_equal : (o : Ordering) → not (is_eq o) ≡ is_ne o
not_equal Less = refl
not_equal Equal = refl
not_equal Greater = refl

pub returns-in-Equal : goal.returns-in-Equal
returns-in-Equal c =
    c.eq.ensures
    ∙ sym (is_eq-slice_cmp c.args.left.now c.args.right.now)
    ∙ ap (λ k. holds k (slice_cmp nat_cmp c.args.left.now c.args.right.now)) (sym c.in-Equal.is)

pub returns-in-NotEqual : goal.returns-in-NotEqual
returns-in-NotEqual c =
    c.ne.ensures
    ∙ ap not (sym (is_eq-slice_cmp c.args.left.now c.args.right.now))
    ∙ not_equal (slice_cmp nat_cmp c.args.left.now c.args.right.now)
    ∙ ap (λ k. holds k (slice_cmp nat_cmp c.args.left.now c.args.right.now)) (sym c.in-NotEqual.is)
