use Rattle.std.proofs.Common.{◌∙◌, ap, sym}
use Rattle.rawk_arrays.specs.Elements.{element_at}
use Rattle.rawk_arrays.specs.Laid.{Laid, IsLaid, IsPlaceOf, arrays_of}
use Rattle.rawk_arrays.specs.ListLaws.{place_value}
use Rattle.rawk_arrays.proofs.arrays.Arrays.value_at.Goals as goal

pub returns : goal.returns
returns c = λ a k h.
    let s = c.self.inside in
    let l : Laid = record { index = s.index; slots = s.cells.now; live = s.live } in
    let here : IsPlaceOf a k c.args.place l = rw (ap (λ w. w.now) c.self.view_is) h in
    let laid : IsLaid l.index l.slots = record { distinct = c.self.invariant.laid.distinct; array_key = c.self.invariant.laid.array_key } in
    c.filled.ensures ∙ (sym (place_value a k c.args.place l here laid) ∙ ap (λ w. element_at a k (arrays_of w.now)) c.self.view_is)
