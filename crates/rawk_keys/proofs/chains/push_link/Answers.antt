use Rattle.std.proofs.Common.{◌≡◌, ◌+◌, ◌<◌, ◌++◌, ◌∷◌, [], ◌∙◌, ℕ, List, length, arith, ap, set}
use Rattle.std.proofs.lemmas.List.{length-set, length_push, get_or_default}
use Rattle.rawk_keys.specs.declared.chains.Link.{Link}
use Rattle.rawk_keys.specs.Linked.{chain_of}
use Rattle.rawk_keys.proofs.Links.{pushed}
use Rattle.rawk_keys.proofs.chains.push_link.Goals as goal

pub returns-clause-linked : goal.returns-clause-linked
returns-clause-linked c =
    let links = c.args.links.now.items in
    let heads = c.args.heads.now.items in
    let b = c.bucket-at.result in
    let e : Link = record { label = c.args.label; earlier = c.index-earlier.result.now } in
    let own : ℕ → Link = λ n. record { label = n; earlier = c.index-earlier.result.now } in
    let items : c.push_reserved.new.self.items ≡ links ++ e ∷ [] =
    c.push_reserved.ensures.items ∙ ap (λ (xs : List Link). xs ++ own c.in_ok-own.own ∷ []) c.reserve.ensures.items ∙ ap (λ (n : ℕ). links ++ own n ∷ []) c.in_ok-own.ensures in
    let many : length c.push_reserved.new.self.items ≡ length links + 1 = ap length items ∙ length_push links e in
    let n : c.in_ok-next.next ≡ length links + 1 = c.in_ok-next.ensures ∙ ap (λ (k : ℕ). k + 1) (c.len-many.ensures ∙ c.args.links.now.ok.0) in
    let count : length (set heads b (length links + 1)) ≡ length heads = length-set heads b (length links + 1) in
    let size : c.len.result ≡ length heads = c.len.ensures ∙ c.args.heads.now.ok.0 in
    let below : b < length heads = omega (arith, size, c.bucket-at.ensures.below) in
    let chain = c.bucket-at.ensures.value ∙ ap (λ k. chain_of k c.args.label) size in
    rw (n, many, items, count) (pushed (length heads) links heads b e below chain (c.index-earlier.ensures ∙ get_or_default heads b c.index-earlier.result.now 0 below) c.requires.linked)
