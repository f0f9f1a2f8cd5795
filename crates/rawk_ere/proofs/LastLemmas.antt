-- Where each match of the tree ends at the end of the text and has the same number of bytes, each way through its code does.
use Rattle.std.proofs.Common.{◌≡◌, ℕ, true, List, Option, sym, ◌∙◌, subst}
use Rattle.std.specs.Option.{ForSome}
use Rattle.rawk_ere_tree.specs.declared.code.Instruction.{Instruction}
use Rattle.rawk_ere_tree.specs.Tree.{Tree}
use Rattle.rawk_ere_tree.specs.Code.{code_of}
use Rattle.rawk_ere_walks.specs.Ways.{Way}
use Rattle.rawk_ere_last.specs.Shapes.{last_in, AreLast}
use Rattle.rawk_ere_last.specs.ShapeLemmas.{ends_last}
use Rattle.rawk_ere.proofs.EreLemmas.{match_from_path}

pub are_last : (code : List Instruction) (s : List ℕ) (e : Tree) (o : Option ℕ) → code ≡ code_of e → o ≡ last_in e → ForSome o (AreLast code s)
are_last code s e o is last = λ n some i j w. let v = subst (λ c. Way c s true i j) is w in ends_last s e i j n (sym last ∙ some) (match_from_path true s e i j v.0 v.1)
