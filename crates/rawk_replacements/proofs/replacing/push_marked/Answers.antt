use Rattle.std.proofs.Common.{◌++◌, drop, ap, ◌∙◌, sym}
use Rattle.std.proofs.lemmas.List.{drop_all}
use Rattle.rawk_search.specs.Replacements.{replacement}
use Rattle.rawk_replacements.specs.Replaced.{held}
use Rattle.rawk_replacements.proofs.Letters.{ends, ends_held}
use Rattle.rawk_replacements.proofs.replacing.push_marked.Goals as goal

pub returns-in_ok-push : goal.returns-in_ok-push
returns-in_ok-push c =
    let mid = c.loop-byte.out.items in
    let rest = drop c.loop-byte.byte-index c.args.by.now in
    ends_held c.args.out.now.items mid c.push.new.self.items c.args.found.now c.args.by.now rest (drop_all c.loop-byte.byte-index c.args.by.now c.loop-byte-test.false)
    (ap (λ b. mid ++ replacement c.args.found.now (held b ++ rest)) (sym c.if-holds.true) ∙ c.loop-byte.invariant) c.in_ok-push.ensures.items

pub returns-else-holds : goal.returns-else-holds
returns-else-holds c =
    let mid = c.loop-byte.out.items in
    let rest = drop c.loop-byte.byte-index c.args.by.now in
    ends c.args.out.now.items mid c.args.found.now c.args.by.now rest (drop_all c.loop-byte.byte-index c.args.by.now c.loop-byte-test.false)
    (ap (λ b. mid ++ replacement c.args.found.now (held b ++ rest)) (sym c.if-holds.false) ∙ c.loop-byte.invariant)
