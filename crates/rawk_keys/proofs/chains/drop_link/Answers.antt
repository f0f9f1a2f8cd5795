use Rattle.std.proofs.Common.{◌≡◌, ◌+◌, ◌-◌, ◌<◌, ◌∙◌, length, take, arith, ap, set}
use Rattle.std.proofs.lemmas.List.{length-set, length-take-le}
use Rattle.rawk_keys.specs.declared.chains.Link.{Link}
use Rattle.rawk_keys.specs.Linked.{chain_of, labels, earliers}
use Rattle.rawk_keys.proofs.Links.{dropped, some_heads}
use Rattle.rawk_keys.proofs.chains.drop_link.Goals as goal

pub returns-then-count-gt0-clause-linked : goal.returns-then-count-gt0-clause-linked
returns-then-count-gt0-clause-linked c =
    let links = c.args.links.now.items in
    let heads = c.args.heads.now.items in
    let n = c.len-last.result - 1 in
    let link = c.index-link.result.now in
    let b = c.bucket.result in
    let some : c.len-last.result ≡ length links = c.len-last.ensures ∙ c.args.links.now.ok.0 in
    let size : c.len-count.result ≡ length heads = c.len-count.ensures ∙ c.args.heads.now.ok.0 in
    let many : length links ≡ n + 1 = omega (arith, c.requires.some, some) in
    let items : c.truncate.new.self.items ≡ take n links = c.truncate.ensures.items in
    let left : length c.truncate.new.self.items ≡ n = ap length items ∙ length-take-le n links (omega arith) in
    let count : length (set heads b link.earlier) ≡ length heads = length-set heads b link.earlier in
    let below : b < length heads = omega (arith, size, c.bucket.ensures.below) in
    let is = c.bucket.ensures.value ∙ ap (λ k. chain_of k link.label) size ∙ ap (λ (l : Link). chain_of (length heads) l.label) c.index-link.ensures in
    rw (left, items, count, ap (λ (l : Link). l.earlier) c.index-link.ensures) (dropped (length heads) links heads n b link many below is c.requires.linked)

pub returns-else-count-gt0-clause-linked : goal.returns-else-count-gt0-clause-linked
returns-else-count-gt0-clause-linked c =
    let links = c.args.links.now.items in
    let heads = c.args.heads.now.items in
    let size : c.len-count.result ≡ length heads = c.len-count.ensures ∙ c.args.heads.now.ok.0 in
    absurd (some_heads (labels links) (earliers links) heads (length links) c.requires.some c.requires.linked (omega (arith, size, c.if-count-gt0.false)))
