use Rattle.std.proofs.Common.{length, arith}
use Rattle.rawk_keys.specs.declared.chains.Link.{Link}
use Rattle.rawk_keys.proofs.Links.{own_past, label_at}
use Rattle.rawk_keys.proofs.chains.earlier_link.Goals as goal

blank : Link
blank = record { label = 0; earlier = 0 }

pub nearest-requires-clause-within : goal.nearest-requires-clause-within
unfolding blank
nearest-requires-clause-within c =
    let p = own_past (length c.args.heads.now) c.args.links.now c.args.heads.now c.args.item blank c.requires.linked c.requires.within in
    omega (arith, p.within, c.requires.within)

pub returns : goal.returns
unfolding blank
returns c =
    let same = label_at c.args.links.now c.args.item blank c.requires.within in
    let p = own_past (length c.args.heads.now) c.args.links.now c.args.heads.now c.args.item blank c.requires.linked c.requires.within in
    rw same (c.nearest.ensures c.args.item (rw same at p))
