-- What the instructions of a row of parts are, up to a part.
use Rattle.std.proofs.Common.{◌≡◌, ℕ, List, ◌++◌, map, reverse, drop}
use Rattle.rawk_ere_tree.specs.declared.node.Node.{Node}
use Rattle.rawk_ere_tree.specs.declared.code.Instruction.{Instruction}
use Rattle.rawk_ere_tree.specs.declared.code.Instruction.TheVariants.{Split}
use Rattle.rawk_ere_tree.specs.Tree.{Tree}
use Rattle.rawk_ere_tree.specs.Node.{tree_of, join_all, either_all, joined, alternated}
use Rattle.rawk_ere_tree.specs.Code.{code_of}

-- the instructions of the parts before the index stand after the old ones
pub record AreJoined (old now : List Instruction) (parts : List Node) (index : ℕ) : Type 0 where
  pub before : Tree
  pub is : now ≡ old ++ code_of before
  pub all : join_all before (map tree_of (drop index parts)) ≡ joined (map tree_of parts)

-- the splits and what they lead to are the instructions of the parts before the index
pub record AreAlternated (splits : List ℕ) (body : List Instruction) (parts : List Node) (index : ℕ) : Type 0 where
  pub before : Tree
  pub is : map Split (reverse splits) ++ body ≡ code_of before
  pub all : either_all before (map tree_of (drop index parts)) ≡ alternated (map tree_of parts)
