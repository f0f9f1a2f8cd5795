use Rattle.std.proofs.Common.{◌∙◌, ap, length, refl, slice_get, slice_set, sym}
use Rattle.std.proofs.lemmas.Option.{slice_get_read}
use Rattle.rawk_slots.specs.Back.{back}
use Rattle.rawk_slots.specs.BackLaws.{length-back}
use Rattle.rawk_slots.specs.Journaled.{at_rest}
use Rattle.rawk_slots.proofs.slots.Slots.lend.Goals as goal

pub returns : goal.returns
returns g c =
    let items = c.self.inside.items.items in
    let within = rw (← c.self.view_is) at c.requires in (
      (refl, λ w. ap (λ es. record { now = slice_set items c.args.place w; start = back (slice_set items c.args.place w) es }) c.drop_all.ensures ∙ ap (λ j. at_rest (slice_set j.now c.args.place w)) c.self.view_is),
      record {
        lends = tt;
        value = ap (λ j. slice_get j.now c.args.place) (sym c.self.view_is) ∙ slice_get_read items (length items) c.args.place c.index_mut.result.now refl within c.index_mut.ensures.value;
        size = ap (λ j. length j.start) (sym c.self.view_is) ∙ (length-back items c.self.inside.saved.items ∙ ap (λ j. length j.now) c.self.view_is);
      },
    )
