-- The tree that a node stands for: rows of parts are joined, or alternated, from the left.
use Rattle.std.specs.Prelude.{List, [], ◌∷◌}
use Rattle.rawk_ere_tree.specs.declared.node.Node.{Node, Row_of-Node, end_of-Node, more_of-Node}
use Rattle.rawk_ere_tree.specs.declared.node.Node.TheVariants as node
use Rattle.rawk_ere_tree.specs.Tree.{Tree, Empty, OneOf, Start, End, Join, Either, Group, Repeat}

-- the first part and those after it, one after the other
abbrev pub join_all : Tree → List Tree → Tree
join_all a [] = a
join_all a (b ∷ rest) = join_all (Join a b) rest

-- the first part or one of those after it
abbrev pub either_all : Tree → List Tree → Tree
either_all a [] = a
either_all a (b ∷ rest) = either_all (Either a b) rest

-- the parts one after the other
abbrev pub joined : List Tree → Tree
joined [] = Empty
joined (a ∷ rest) = join_all a rest

-- one of the parts
abbrev pub alternated : List Tree → Tree
alternated [] = Empty
alternated (a ∷ rest) = either_all a rest

abbrev mutual
  pub tree_of : Node → Tree
  tree_of node.Empty = Empty
  tree_of (node.OneOf set) = OneOf set
  tree_of node.Start = Start
  tree_of node.End = End
  tree_of (node.Join' _ parts) = joined (trees_of parts)
  tree_of (node.Either' _ parts) = alternated (trees_of parts)
  tree_of (node.Group' _ part) = Group (tree_of part)
  tree_of (node.Repeat' _ part count) = Repeat (tree_of part) count

  pub trees_of : {n : _} → Row_of-Node n → List Tree
  trees_of end_of-Node = []
  trees_of (more_of-Node e rest) = tree_of e ∷ trees_of rest
