use Rattle.std.proofs.Common.{◌≡◌, ◌+◌, ◌<◌, ◌∙◌, length, arith, sym, ap, set, get_or, refl}
use Rattle.std.proofs.lemmas.List.{length-set}
use Rattle.rawk_keys.specs.declared.chains.Link.{Link}
use Rattle.rawk_keys.specs.Linked.{chain_of}
use Rattle.rawk_keys.proofs.Links.{relinked, labels_same, label_at}
use Rattle.rawk_keys.proofs.chains.relink.Goals as goal

blank : Link
blank = record { label = 0; earlier = 0 }

pub loop-i-preserved : goal.loop-i-preserved
unfolding blank
loop-i-preserved c =
    let links = c.loop-i.links in
    let heads = c.loop-i.heads in
    let i = c.loop-i.i in
    let b = c.bucket-at.result in
    let inv = c.loop-i.invariant in
    let lt : i < length links = omega arith in
    let e : Link = record { label = (get_or links i blank).label; earlier = get_or heads b 0 } in
    let same = sym (label_at links i blank lt) in
    let count : length (set heads b (i + 1)) ≡ length heads = length-set heads b (i + 1) in
    let chain = c.bucket-at.ensures.value ∙ ap (λ n. chain_of n (get_or links i blank).label) (sym inv.size) ∙ ap (chain_of (length heads)) same in
    record {
      same = labels_same links i e same ∙ inv.same;
      size = count ∙ inv.size;
      linked = rw count (relinked (length heads) links heads i b e lt (omega (arith, c.bucket-at.ensures.below, inv.size)) chain same refl inv.linked);
    }
