use Rattle.std.proofs.Common.{◌≡◌, List, ℕ, Option, Some, None, ◌++◌, sym, ap, ◌∙◌}
use Rattle.std.specs.Option.{IfSome}
use Rattle.rawk_ere_tree.specs.Tree.{Tree}
use Rattle.rawk_search.specs.Expressions.{ere_of}
use Rattle.rawk_search.proofs.cached.CachedExpression.get.Goals as goal

kept : (o : Option Tree) (pattern items : List ℕ) → o ≡ ere_of pattern → items ≡ pattern → IfSome o (λ e. Some e ≡ ere_of items)
kept None pattern items is same = tt
kept (Some e) pattern items is same = is ∙ ap ere_of (sym same)

pub invariant_of-self : goal.invariant_of-self
invariant_of-self c = record { is = kept c.in_ok-ere.ere c.args.pattern.now c.extend_from_slice.new.self.items c.in_ok-ere.ensures (c.in_ok-extend_from_slice.ensures.items ∙ ap (λ l. l ++ c.args.pattern.now) c.new-text.ensures.items) }
