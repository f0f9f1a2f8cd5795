use Rattle.std.proofs.Common.{◌∙◌, ap, refl, None}
use Rattle.rawk_arrays.specs.Elements.{without_element}
use Rattle.rawk_arrays.specs.Laid.{Laid, IsLaid, IsPlaceOf, arrays_of}
use Rattle.rawk_arrays.specs.ListLaws.{place_set}
use Rattle.rawk_arrays.proofs.arrays.Arrays.remove_at.Goals as goal

pub returns-clause-did : goal.returns-clause-did
returns-clause-did g c = λ a k h.
    let s = c.self.inside in
    let l : Laid = record { index = s.index; slots = s.cells.now; live = s.live } in
    let m : Laid = record { index = s.index; slots = c.set_slot.new.cells.now; live = s.live } in
    let here : IsPlaceOf a k c.args.place l = rw (ap (λ w. w.now) c.self.view_is) h in
    let laid : IsLaid l.index l.slots = record { distinct = c.self.invariant.laid.distinct; array_key = c.self.invariant.laid.array_key } in
    place_set a k c.args.place None l m here laid refl refl c.in_ok-was.ensures.did ∙ ap (λ w. without_element a k (arrays_of w.now)) c.self.view_is
