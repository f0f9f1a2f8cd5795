use Rattle.std.proofs.Common.{◌≡◌, List, map, subst, sym}
use Rattle.rawk_parsing.specs.declared.tree.Expr.{Expr}
use Rattle.rawk_names.specs.Mentions.{all, every, seen, mentions, link_mentions, builtin_at, call_at}
use Rattle.rawk_names.specs.Noted.{noted_all, shown}
use Rattle.rawk_names.specs.SeenLaws.{link_mentions-is}
use Rattle.rawk_names.specs.Walks.{one_more, all-push, every-push, builtin-more, call-more}
use Rattle.rawk_names.proofs.expressions.+walk.Goals as goal

pub note_list-loop-e-preserved : goal.note_list-loop-e-preserved
note_list-loop-e-preserved t c =
    let x = c.e-item.result in
    one_more (λ (es : List Expr). all (map seen es)) (mentions x) c.args.list.now c.loop-e.e-index x (shown c.args.register.now) (shown c.loop-e.register) (shown c.note_expr.new.register)
    c.loop-e-test.true c.e-item.is (all-push _ x) c.loop-e.invariant
    (subst (λ (e : Expr). shown c.note_expr.new.register ≡ noted_all (mentions e) (shown c.loop-e.register)) c.get.ensures c.in_ok-note_expr.ensures)

pub note_links-loop-link-preserved : goal.note_links-loop-link-preserved
note_links-loop-link-preserved t c =
    let x = c.link-item.result in
    one_more (λ xs. every (map link_mentions xs)) (link_mentions x) c.args.links.now c.loop-link.link-index x (shown c.args.register.now) (shown c.loop-link.register) (shown c.note_expr.new.register)
    c.loop-link-test.true c.link-item.is (every-push link_mentions _ x) c.loop-link.invariant
    (subst (λ ms. shown c.note_expr.new.register ≡ noted_all ms (shown c.loop-link.register)) (sym (link_mentions-is x))
    (subst (λ (e : Expr). shown c.note_expr.new.register ≡ noted_all (mentions e) (shown c.loop-link.register)) c.get.ensures c.in_ok-note_expr.ensures))

pub note_builtin-loop-argument-preserved : goal.note_builtin-loop-argument-preserved
note_builtin-loop-argument-preserved t c =
    let i = c.loop-argument.argument in
    let f = c.args.function in
    builtin-more f c.args.arguments.now i c.index-arguments-argument.result (shown c.args.register.now) (shown c.loop-argument.register) (shown c.note_builtin_argument.new.register)
    c.loop-argument-test.true c.index-arguments-argument.is c.loop-argument.invariant
    (subst (λ (e : Expr). shown c.note_builtin_argument.new.register ≡ noted_all (builtin_at f i (seen e).mentions (seen e).name) (shown c.loop-argument.register)) c.get.ensures c.in_ok-note_builtin_argument.ensures)

pub note_call-loop-argument-preserved : goal.note_call-loop-argument-preserved
note_call-loop-argument-preserved t c =
    let i = c.loop-argument.argument in
    let f = c.args.function.now in
    call-more f c.args.arguments.now i c.index-arguments-argument.result (shown c.args.register.now) (shown c.loop-argument.register) (shown c.note_call_argument.new.register)
    c.loop-argument-test.true c.index-arguments-argument.is c.loop-argument.invariant
    (subst (λ (e : Expr). shown c.note_call_argument.new.register ≡ noted_all (call_at f i (seen e).mentions (seen e).name) (shown c.loop-argument.register)) c.get.ensures c.in_ok-note_call_argument.ensures)
