use Rattle.std.proofs.lemmas.Bool.{false≢true}
use Rattle.rawk_keys.specs.ArrayKey.{array_key}
use Rattle.rawk_keys.proofs.KeyLemmas.{search_begins, search_next, search_within}
use Rattle.rawk_keys.proofs.keys.find_in.Goals as goal

pub loop-at-init : goal.loop-at-init
loop-at-init c = search_begins c.args.basis c.args.text.now c.args.by_hash.now c.args.by_array.now c.args.spans.now c.args.array c.args.key.now c.args.hash c.latest-at.result c.requires.hash c.requires.laid c.latest-at.ensures

pub is_key-requires : goal.is_key-requires
is_key-requires c = record {
  within = c.requires.laid.within;
  sizes = c.requires.laid.arrays_size;
  there = search_within c.args.basis c.args.text.now c.args.by_hash.now c.args.by_array.now c.args.spans.now (array_key c.args.array c.args.key.now) c.in-Some.number c.loop-at.at c.in-Some.is c.requires.laid c.loop-at.invariant;
}

pub loop-at-preserved : goal.loop-at-preserved
loop-at-preserved c =
    search_next c.args.basis c.args.text.now c.args.by_hash.now c.args.by_array.now c.args.spans.now c.args.array c.args.key.now c.in-Some.number c.loop-at.at c.earlier-at.result c.in-Some.is c.requires.laid c.loop-at.invariant
    (λ e. false≢true (c.if-is_key.ensures.1 e)) c.earlier-at.ensures
