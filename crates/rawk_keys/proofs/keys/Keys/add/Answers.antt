use Rattle.std.proofs.Common.{[], ◌∷◌}
use Rattle.rawk_keys.specs.ArrayKey.{array_key}
use Rattle.rawk_keys.specs.KeysLaid.{keys_of}
use Rattle.rawk_keys.proofs.SeriesLaws.{series_added, notes_added}
use Rattle.rawk_keys.proofs.keys.Keys.add.Goals as goal

pub invariant_of-self : goal.invariant_of-self
invariant_of-self c =
    let s = c.self.inside in
    let new = c.add_key.new in
    record {
      laid = c.add_key.ensures.array_key;
      known = series_added c.add_key.result s.series.items (keys_of s.text.items s.by_array s.spans.items) (keys_of new.text.items new.by_array new.spans.items) (array_key c.args.array c.args.key.now ∷ []) c.add_key.ensures.did c.add_key.ensures.err c.self.invariant.known;
      noted = notes_added c.add_key.result s.notes.items (keys_of s.text.items s.by_array s.spans.items) (keys_of new.text.items new.by_array new.spans.items) (array_key c.args.array c.args.key.now ∷ []) c.add_key.ensures.did c.add_key.ensures.err c.self.invariant.noted;
    }
