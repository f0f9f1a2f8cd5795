use Rattle.std.proofs.Common.{◌≡◌, ◌∙◌, ap, sym, length, slice_get, [], ◌∷◌, List}
use Rattle.rawk_keys.specs.ArrayKey.{ArrayKey, array_key}
use Rattle.rawk_keys.specs.KeysLaid.{keys_of}
use Rattle.rawk_keys.proofs.KeyLemmas.{names_length}
use Rattle.rawk_keys.proofs.SeriesLaws.{entry_last, series_added, notes_added}
use Rattle.rawk_keys.proofs.keys.Keys.entry.Goals as goal

pub invariant_of-self-2 : goal.invariant_of-self-2
invariant_of-self-2 c =
    let s = c.self.inside in
    let new = c.add_key.new in
    record {
      laid = c.add_key.ensures.array_key;
      known = series_added c.add_key.result s.series.items (keys_of s.text.items s.by_array s.spans.items) (keys_of new.text.items new.by_array new.spans.items) (array_key c.args.array c.args.key.now ∷ []) c.add_key.ensures.did c.add_key.ensures.err c.self.invariant.known;
      noted = notes_added c.add_key.result s.notes.items (keys_of s.text.items s.by_array s.spans.items) (keys_of new.text.items new.by_array new.spans.items) (array_key c.args.array c.args.key.now ∷ []) c.add_key.ensures.did c.add_key.ensures.err c.self.invariant.noted;
    }

pub returns-clause-there : goal.returns-clause-there
returns-clause-there c =
    let s = c.self.inside in
    let keys = keys_of s.text.items s.by_array s.spans.items in
    let entry = array_key c.args.array c.args.key.now in
    let last : c.len-number.result ≡ length keys = c.len-number.ensures ∙ (s.spans.ok.0 ∙ sym (names_length s.text.items s.by_array s.spans.items c.self.invariant.laid.arrays_size)) in
    ap (λ (ks : List ArrayKey). slice_get ks c.len-number.result) c.in_ok-add_key.ensures.did ∙ entry_last keys entry c.len-number.result last
