use Rattle.std.proofs.Common.{◌≢◌, List, Result, Ok, Err, IfOk, [], ◌∷◌, ◌++◌, length, arith, ◌∙◌, ap}
use Rattle.std.specs.Global.{Vec}
use Rattle.rawk_parsing.specs.declared.tree.Expr as parsed
use Rattle.rawk_tree.specs.declared.tree.Expr.{Expr}
use Rattle.rawk_resolution.specs.Meant.{Sense, sense_of}
use Rattle.rawk_resolution.specs.Settled.{Settles, SomeExprs, Prints}
use Rattle.rawk_resolution.proofs.Settlements.{all_printed, record_printed}
use Rattle.rawk_resolution.proofs.expressions.settle_printed.Goals as goal

all_if : {E : Type 0} (r : Result (Vec Expr) E) (means : Sense) (es : List parsed.Expr) → length es ≢ 0 → IfOk r (λ s. Settles means (SomeExprs es s.items)) → IfOk r (λ s. Prints means es s.items)
all_if (Ok s) means es some h = all_printed means es s.items some h
all_if (Err e) means es some h = tt

pub returns-then-list-eq0 : goal.returns-then-list-eq0
returns-then-list-eq0 c =
    record_printed (sense_of c.args.scope.now) c.args.list.now c.push.new.values.items c.in_ok-whole.whole c.if-list-eq0.true
    (c.in_ok-push.ensures ∙ ap (λ xs. xs ++ c.in_ok-whole.whole ∷ []) c.new-list.ensures.items) c.in_ok-whole.ensures

pub returns : goal.returns
returns c = all_if c.settle_list.result (sense_of c.args.scope.now) c.args.list.now (omega arith) c.settle_list.ensures
