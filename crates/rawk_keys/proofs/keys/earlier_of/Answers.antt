use Rattle.std.proofs.Common.{◌≡◌, arith, slice_index}
use Rattle.rawk_keys.proofs.KeyLemmas.{last_of, names_length, array_of}
use Rattle.rawk_keys.proofs.keys.earlier_of.Goals as goal

pub earlier-requires : goal.earlier-requires
earlier-requires c = omega (arith, c.requires.there, c.requires.sizes, names_length c.args.text.now c.args.by_array.now c.args.spans.now c.requires.sizes)

pub returns : goal.returns
returns c = λ entry is.
    let arrays = c.args.by_array.now in
    let same : slice_index arrays c.args.number ≡ entry.array = array_of c.args.text.now arrays c.args.spans.now c.args.number entry c.requires.sizes is in
    last_of c.args.text.now arrays c.args.spans.now c.args.number entry.array c.earlier.result c.requires.sizes (omega (arith, c.requires.there, names_length c.args.text.now arrays c.args.spans.now c.requires.sizes)) (rw same at c.earlier.ensures)
