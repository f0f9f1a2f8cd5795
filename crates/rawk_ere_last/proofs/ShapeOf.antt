-- The shape of a row of parts, up to a part.
use Rattle.std.proofs.Common.{◌≡◌, ℕ, List, Option, map, drop}
use Rattle.rawk_ere_tree.specs.declared.node.Node.{Node}
use Rattle.rawk_ere_tree.specs.Tree.{Tree}
use Rattle.rawk_ere_tree.specs.Node.{tree_of, join_all, either_all, joined, alternated}
use Rattle.rawk_ere_last.specs.declared.shape.Shape.{Shape}
use Rattle.rawk_ere_last.specs.Shapes.{shape_in}

-- it is that of the parts before the index, one after the other
pub record IsJoined (now : Option Shape) (parts : List Node) (index : ℕ) : Type 0 where
  pub before : Tree
  pub is : now ≡ shape_in before
  pub all : join_all before (map tree_of (drop index parts)) ≡ joined (map tree_of parts)

-- it is that of one of the parts before the index
pub record IsAlternated (now : Option Shape) (parts : List Node) (index : ℕ) : Type 0 where
  pub before : Tree
  pub is : now ≡ shape_in before
  pub all : either_all before (map tree_of (drop index parts)) ≡ alternated (map tree_of parts)
