-- How many old values the groups hold that are kept.
use Rattle.std.proofs.Common.{◌≡◌, ℕ, ◌+◌, ◌-◌, List, [], ◌∷◌, refl, sym, ap, ◌∙◌}
use Rattle.std.proofs.lemmas.List.Sums.{sum_by-cons}
use Rattle.rawk_store.specs.Groups.{Group}
use Rattle.rawk_history.specs.Steps.{Kept}
use Rattle.rawk_store.specs.Layout.{Layout}
use Rattle.rawk_store.specs.GroupBack.{put_back}
use Rattle.rawk_store.specs.Saving.{saved_in}
use Rattle.rawk_history.specs.Saving.{saved_in_groups, saved_by, saved_by_all, saved_in_groups-reverse}
use Rattle.rawk_code.specs.Actions.{SetAt}
use Rattle.rawk_machine.specs.Standing.{Earlier, Past, saved_of, saved_before}
use Rattle.rawk_machine.specs.Kept.{moment_in, but_last, below, unsets, pasts}
use Rattle.rawk_steps.specs.Leading.{newest_first, back_in}

pub saved_here : (l : Layout) (sets : List SetAt) (here : List Group) → saved_of (unsets l sets here) ≡ saved_in_groups here
saved_here l sets [] = refl
saved_here l sets (g ∷ gs) =
    let m = put_back l g in
    let s = but_last sets in
    let e : Earlier = record { moment = moment_in m; sets = s; saved = saved_in g } in
    sum_by-cons (λ (x : Earlier). x.saved) e (unsets m s gs) ∙ (ap (λ n. saved_in g + n) (saved_here m s gs) ∙ sym (sum_by-cons saved_in g gs))

pub saved_past : (l : Layout) (sets : List SetAt) (point : ℕ) (here : List Group) (items : List Kept) → saved_before (pasts l sets point here items) ≡ saved_by_all items
saved_past l sets point here [] = refl
saved_past l sets point here (item ∷ items) =
    let m = back_in l here item in
    let s = below point sets in
    let here_too = saved_here m s (newest_first item) ∙ saved_in_groups-reverse item.sets in
    let p : Past = record { last = record { moment = moment_in m; sets = s; saved = saved_in item.step }; unset = unsets m s (newest_first item) } in
    let rest = pasts m s (point - 1) (newest_first item) items in
    sum_by-cons (λ (x : Past). x.last.saved + saved_of x.unset) p rest
    ∙ (ap (λ n. saved_in item.step + n + saved_before rest) here_too ∙ (ap (λ n. saved_by item + n) (saved_past m s (point - 1) (newest_first item) items) ∙ sym (sum_by-cons saved_by item items)))
