use Rattle.rawk_ere_tree.proofs.CodeLemmas.{AreJoined, AreAlternated}
use Rattle.rawk_ere_tree.proofs.emit.+emit.Given as goal

abbrev pub invariant-emit_joined-loop-index : goal.invariant-emit_joined-loop-index
invariant-emit_joined-loop-index l = AreJoined l.fn.code l.code l.parts l.index

abbrev pub invariant-emit_alternated-loop-index : goal.invariant-emit_alternated-loop-index
invariant-emit_alternated-loop-index l = AreAlternated l.splits.items l.body l.parts l.index
