-- A row of parts as a list.
use Rattle.std.proofs.Common.{◌≡◌, ◌∷◌, map, Vec, Global, refl, ap, ◌∙◌}
use mathlib.Core.Former.{Count}
use Rattle.rawk_ere_tree.specs.declared.node.Node.{Node, Row_of-Node, end_of-Node, more_of-Node, items-the_row-Node, items_hidden-the_row-Node-0}
use Rattle.rawk_ere_tree.specs.declared.node.Node.TheVariants as node
use Rattle.rawk_ere_tree.specs.Node.{tree_of, trees_of, joined, alternated}

trees_row : (n : _) (row : Row_of-Node n) → trees_of row ≡ map tree_of (items-the_row-Node n row)
trees_row n end_of-Node = refl
trees_row n (more_of-Node e rest) = ap (λ l. tree_of e ∷ l) (trees_row _ rest)

abbrev row_of : Node → (n : Count) × Row_of-Node n
row_of (node.Join' _ row) = (_, row)
row_of (node.Either' _ row) = (_, row)
row_of _ = (_, end_of-Node)

pub tree-Join : (parts : Vec Node Global) → tree_of (node.Join parts) ≡ joined (map tree_of parts.items)
tree-Join parts =
    let row = row_of (node.Join parts) in
    ap joined (trees_row row.0 row.1 ∙ ap (map tree_of) (items_hidden-the_row-Node-0 parts))

pub tree-Either : (parts : Vec Node Global) → tree_of (node.Either parts) ≡ alternated (map tree_of parts.items)
tree-Either parts =
    let row = row_of (node.Either parts) in
    ap alternated (trees_row row.0 row.1 ∙ ap (map tree_of) (items_hidden-the_row-Node-0 parts))
