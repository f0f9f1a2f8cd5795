use Rattle.std.proofs.Common.{◌∙◌, ap, sym}
use Rattle.rawk_arrays.specs.Elements.{Elements, keys_at, map_keys}
use Rattle.rawk_arrays.specs.Laid.{Laid, arrays_of}
use Rattle.rawk_arrays.specs.ListLaws.{array_there, array_past}
use Rattle.rawk_arrays.proofs.Finding.{no_keys}
use Rattle.rawk_arrays.proofs.arrays.Arrays.keys.Goals as goal

pub returns-then-array-self : goal.returns-then-array-self
returns-then-array-self c =
    let s = c.self.inside in
    let l : Laid = record { index = s.index; slots = s.cells.now; live = s.live } in
    c.new.ensures.items
    ∙ (sym no_keys ∙ (ap (λ (e : Elements). map_keys e) (sym (array_past l c.args.array c.if-array-self.true)) ∙ ap (λ w. keys_at c.args.array (arrays_of w.now)) c.self.view_is))

pub returns : goal.returns
returns c =
    let s = c.self.inside in
    let l : Laid = record { index = s.index; slots = s.cells.now; live = s.live } in
    c.in_ok-found.ensures ∙ (ap (λ (e : Elements). map_keys e) (sym (array_there l c.args.array c.if-array-self.false)) ∙ ap (λ w. keys_at c.args.array (arrays_of w.now)) c.self.view_is)
