use Rattle.std.proofs.Common.{map, sym, ap, ◌∙◌}
use Rattle.rawk_ere_tree.specs.Node.{tree_of, joined, alternated}
use Rattle.rawk_ere_tree.specs.Rows.{tree-Join, tree-Either}
use Rattle.rawk_ere_last.specs.Shapes.{shape_in}
use Rattle.rawk_ere_last.proofs.shape.+shape_of.Goals as goal

pub shape_of-returns-in-Join : goal.shape_of-returns-in-Join
shape_of-returns-in-Join t c =
    c.joined_shape.ensures ∙ ap (λ l. shape_in (joined (map tree_of l))) c.deref.ensures.value ∙ ap shape_in (sym (tree-Join c.in-Join.parts)) ∙ ap (λ n. shape_in (tree_of n)) (sym c.in-Join.is)

pub shape_of-returns-in-Either : goal.shape_of-returns-in-Either
shape_of-returns-in-Either t c =
    c.alternated_shape.ensures ∙ ap (λ l. shape_in (alternated (map tree_of l))) c.deref-in-Either.ensures.value ∙ ap shape_in (sym (tree-Either c.in-Either.parts)) ∙ ap (λ n. shape_in (tree_of n)) (sym c.in-Either.is)
