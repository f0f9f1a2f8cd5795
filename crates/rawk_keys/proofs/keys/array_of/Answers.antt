use Rattle.std.proofs.Common.{◌∙◌, arith}
use Rattle.rawk_keys.proofs.KeyLemmas.{array_of, names_length}
use Rattle.rawk_keys.proofs.keys.array_of.Goals as goal

pub label-requires : goal.label-requires
label-requires c = omega (arith, c.requires.there, c.requires.sizes, names_length c.args.text.now c.args.by_array.now c.args.spans.now c.requires.sizes)

pub returns : goal.returns
returns c = λ entry is. c.label.ensures ∙ array_of c.args.text.now c.args.by_array.now c.args.spans.now c.args.number entry c.requires.sizes is
