use Rattle.std.proofs.Common.{◌≡◌, ◌≤◌, ◌<◌, ◌∙◌, ◌++◌, ◌-◌, ap, sym, subst, take, drop, length, arith}
use Rattle.std.proofs.lemmas.List.{length-drop, length-take-le, take-append-drop, take_all}
use Rattle.std.proofs.lemmas.Option.{get_or_from_slice_get}
use Rattle.std.specs.Prelude.{slice_index_or}
use Rattle.rawk_value.specs.declared.value.Value.TheVariants.{Uninitialized, String}
use Rattle.rawk_value.specs.Values.{Bytes}
use Rattle.rawk_cells.specs.declared.cells.Appended.{Appended}
use Rattle.rawk_cells.specs.Cells.{own_length}
use Rattle.rawk_cells.proofs.cells.behind.Goals as goal

pub returns-in_ok-appended-in-Some-String : goal.returns-in_ok-appended-in-Some-String
returns-in_ok-appended-in-Some-String c =
    let g = c.args.grown in
    let xs = c.args.slots.now.now in
    let t : Bytes = c.in-Some-String.text in
    let a = c.in_ok-appended-in-Some-String.appended.value in
    let made = c.in_ok-appended-in-Some-String.ensures.ok in
    let was : slice_index_or xs g.place Uninitialized ≡ String t = get_or_from_slice_get xs g.place c.in-Some-String.field-0.now Uninitialized (sym c.in-Some-String.ensures) ∙ c.in-Some-String.field-0-is in
    let own : own_length (slice_index_or xs g.place Uninitialized) ≡ length t = ap own_length was in
    let within : g.count ≤ length t = omega (arith, own, c.requires.count) in
    let bytes : Bytes = c.as_slice.result.now in
    let cut : take (length bytes - g.count) (drop g.count bytes) ≡ drop g.count bytes = take_all (length bytes - g.count) (drop g.count bytes) (omega (arith, length-drop g.count bytes)) in
    let more : a.more ≡ drop g.count t = ap (λ (x : Appended). x.more) made ∙ (c.in_ok-more-in-Some-String.ensures ∙ (cut ∙ ap (λ (b : Bytes). drop g.count b) c.as_slice.ensures)) in
    let place : a.place ≡ g.place = ap (λ (x : Appended). x.place) made in
    let count : a.count ≡ g.count = ap (λ (x : Appended). x.count) made in
    record {
      place = place;
      count = count;
      is = record {
        within = subst (λ p. p < length xs) (sym place) c.requires.within;
        front = take g.count t;
        size = length-take-le g.count t within ∙ sym count;
        is = ap (λ p. slice_index_or xs p Uninitialized) place ∙ (was ∙ ap (λ (b : Bytes). String b) (sym (take-append-drop g.count t) ∙ ap (λ (b : Bytes). take g.count t ++ b) (sym more)));
      };
    }
