use Rattle.rawk_keys.specs.declared.keys.KeyRange.{KeyRange}
use Rattle.rawk_keys.proofs.KeyLemmas.{within_at}
use Rattle.rawk_keys.proofs.keys.key_at.Goals as goal

blank : KeyRange
blank = record { start = 0; end = 0 }

pub part-requires : goal.part-requires
unfolding blank
part-requires c = let w = within_at c.args.text.now c.args.spans.now c.args.number blank c.requires.within c.requires.there in record { ordered = w.ordered; within = w.inside }
