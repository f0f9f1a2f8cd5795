use Rattle.std.proofs.Common.{◌≡◌, ◌++◌, map, sym, ap, ◌∙◌, subst}
use Rattle.std.specs.Result.{OnOk}
use Rattle.rawk_ere_tree.specs.Node.{tree_of, joined, alternated}
use Rattle.rawk_ere_tree.specs.Code.{code_of}
use Rattle.rawk_ere_tree.specs.Rows.{tree-Join, tree-Either}
use Rattle.rawk_ere_tree.proofs.emit.+emit.Goals as goal

pub emit-returns-in-Join : goal.emit-returns-in-Join
emit-returns-in-Join t c =
    let e = ap (λ l. code_of (joined (map tree_of l))) c.deref.ensures.value ∙ ap code_of (sym (tree-Join c.in-Join.parts)) ∙ ap (λ n. code_of (tree_of n)) (sym c.in-Join.is) in
    subst (λ l. OnOk c.emit_joined.result (c.emit_joined.new.code ≡ c.args.code.now ++ l)) e c.emit_joined.ensures

pub emit-returns-in-Either : goal.emit-returns-in-Either
emit-returns-in-Either t c =
    let e = ap (λ l. code_of (alternated (map tree_of l))) c.deref-in-Either.ensures.value ∙ ap code_of (sym (tree-Either c.in-Either.parts)) ∙ ap (λ n. code_of (tree_of n)) (sym c.in-Either.is) in
    subst (λ l. OnOk c.emit_alternated.result (c.emit_alternated.new.code ≡ c.args.code.now ++ l)) e c.emit_alternated.ensures
