use Rattle.std.proofs.Common.{◌∙◌, ap, sym, length}
use Rattle.rawk_keys.proofs.KeyLemmas.{names_length}
use Rattle.rawk_keys.proofs.keys.Keys.len.Goals as goal

pub returns : goal.returns
returns c =
    let s = c.self.inside in
    c.len.ensures ∙ (s.spans.ok.0 ∙ (sym (names_length s.text.items s.by_array s.spans.items c.self.invariant.laid.arrays_size) ∙ ap length c.self.view_is))
