use Rattle.std.proofs.Common.{◌∙◌, arith}
use Rattle.rawk_keys.specs.declared.keys.KeyRange.{KeyRange}
use Rattle.rawk_keys.proofs.KeyLemmas.{key_of, names_length}
use Rattle.rawk_keys.proofs.keys.key_bytes.Goals as goal

blank : KeyRange
blank = record { start = 0; end = 0 }

pub key_at-requires-clause-there : goal.key_at-requires-clause-there
key_at-requires-clause-there c = omega (arith, c.requires.there, names_length c.args.text.now c.args.by_array.now c.args.spans.now c.requires.sizes)

pub returns : goal.returns
returns c = λ entry is. c.key_at.ensures blank ∙ key_of c.args.text.now c.args.by_array.now c.args.spans.now c.args.number entry blank c.requires.sizes is
