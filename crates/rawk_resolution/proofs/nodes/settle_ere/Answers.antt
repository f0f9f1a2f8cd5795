use Rattle.std.proofs.Common.{List, ℕ, [], ◌∷◌, ◌++◌, ◌∙◌, ap, refl, subst, sym}
use Rattle.rawk_tree.specs.declared.tree.Expr.{Expr}
use Rattle.rawk_tree.specs.declared.tree.Expr.TheVariants as tree
use Rattle.rawk_tree.specs.declared.tree.Joiner.TheVariants as joiner
use Rattle.rawk_tree.specs.declared.tree.Link.TheVariants as tree_link
use Rattle.rawk_resolution.specs.Nodes.{IsRecord}
use Rattle.rawk_resolution.proofs.nodes.settle_ere.Goals as goal

pub returns : goal.returns
returns c = record {
  first = c.in_ok-first.first;
  more = c.push.new.values;
  whole = subst (λ (e : Expr). IsRecord e) (sym c.in_ok-first.ensures) c.in_ok-whole.ensures;
  link = c.in_ok-push.ensures
      ∙ ap (λ ls. ls ++ tree_link.Combine joiner.Matches (tree.Text c.in_ok-text.text) ∷ []) c.new-more.ensures.items
      ∙ ap (λ (w : List ℕ). tree_link.Combine joiner.Matches (tree.Text w) ∷ []) c.in_ok-text.ensures;
  is = refl;
}
