use Rattle.std.proofs.Common.{◌≡◌, ◌∙◌, arith, sym, length}
use Rattle.rawk_keys.specs.KeysLaid.{keys_of}
use Rattle.rawk_keys.proofs.KeyLemmas.{last_of, names_length}
use Rattle.rawk_keys.proofs.keys.latest_of.Goals as goal

pub returns : goal.returns
returns c =
    let arrays = c.args.by_array.now in
    let many = names_length c.args.text.now arrays c.args.spans.now c.requires in
    let size : length arrays ≡ length (keys_of c.args.text.now arrays c.args.spans.now) = c.requires ∙ sym many in
    last_of c.args.text.now arrays c.args.spans.now (length (keys_of c.args.text.now arrays c.args.spans.now)) c.args.array c.latest.result c.requires (omega (arith, many)) (rw size at c.latest.ensures)
