use Rattle.rawk_ere_last.proofs.ShapeOf.{IsJoined, IsAlternated}
use Rattle.rawk_ere_last.proofs.shape.+shape_of.Given as goal

abbrev pub invariant-joined_shape-loop-index : goal.invariant-joined_shape-loop-index
invariant-joined_shape-loop-index l = IsJoined l.all l.parts l.index

abbrev pub invariant-alternated_shape-loop-index : goal.invariant-alternated_shape-loop-index
invariant-alternated_shape-loop-index l = IsAlternated l.all l.parts l.index
