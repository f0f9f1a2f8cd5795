-- A step that is kept, or forgotten, leads to a machine that has moved on.
use Rattle.std.proofs.Common.{◌≡◌, ℕ, ◌+◌, ◌-◌, ◌≤◌, Bool, true, false, List, [], ◌∷◌, ◌++◌, length, reverse, Option, None, Some, refl, sym, ap, ◌∙◌, subst, arith}
use Rattle.std.proofs.lemmas.Bool.{ltb-false, ltb-true}
use Rattle.rawk_store.specs.Groups.{Group}
use Rattle.rawk_history.specs.Steps.{Kept}
use Rattle.rawk_history.specs.Keeping.{IsFront, KeepsStep, room, keeps_any}
use Rattle.rawk_store.specs.Layout.{Layout, Grown, IsSound, state}
use Rattle.rawk_store.specs.Growth.{Grown-then_same}
use Rattle.rawk_store.specs.Saving.{saved_in}
use Rattle.rawk_store.specs.GroupBack.{put_back}
use Rattle.rawk_code.specs.Actions.{SetAt}
use Rattle.rawk_store.specs.Observed.{seen}
use Rattle.rawk_machine.specs.Standing.{Past}
use Rattle.rawk_machine.specs.Kept.{moment_in, unsets, pasts, seen_first, IsPlaced, FitHere, Chain, Few, below}
use Rattle.rawk_steps.specs.Leading.{newest_first, back_in}
use Rattle.rawk_steps.specs.Closing.{Closes, FitAll}
use Rattle.rawk_machine.proofs.SetLists.{ends_next}
use Rattle.rawk_machine.proofs.Chains.{ends_with, chain_step, pasts_step, chain_front, pasts_front, length-pasts, chain-size}

-- what a machine was at the point that a step left
abbrev pub left_past : ℕ → Layout → List SetAt → List Group → Past
left_past saved l sets here = record { last = record { moment = moment_in l; sets = sets; saved = saved }; unset = unsets l sets here }

-- the step is closed
pub record Moved (l n : Layout) (point size : ℕ) (sets : List SetAt) (here : List Group) (old new : List Kept) (limit : Option ℕ) : Type 0 where
  pub chain : Chain n (point + 1) size sets [] new
  pub saved : ℕ
  pub front : IsFront (pasts n sets (point + 1) [] new) (left_past saved l sets here ∷ pasts l sets point here old)
  pub count : length (pasts n sets (point + 1) [] new) ≡ room limit (length (pasts l sets point here old) + 1)
  pub before : keeps_any limit ≡ true → seen_first (pasts n sets (point + 1) [] new) ≡ Some (seen (state l))

few_room : (limit : Option ℕ) (n k : ℕ) → k ≡ room limit n → Few limit k
few_room None n k e = tt
few_room (Some h) n k e = omega (arith, e)

pub few_moved : {l n : Layout} {point size : ℕ} {sets : List SetAt} {here : List Group} {old new : List Kept} (limit : Option ℕ) → Moved l n point size sets here old new limit → Few limit (length new)
few_moved {l} {n} {point} {size} {sets} {here} {old} {new} limit m = few_room limit (length (pasts l sets point here old) + 1) (length new) (sym (length-pasts n sets (point + 1) [] new) ∙ m.count)

pub few_less : (limit : Option ℕ) (m n : ℕ) → m ≤ n → Few limit n → Few limit m
few_less None m n le h = tt
few_less (Some k) m n le h = omega (arith, le, h)

-- no more points are kept than there were
pub chain_short : (l : Layout) (point size : ℕ) (sets : List SetAt) (here : List Group) (items : List Kept) → Chain l point size sets here items → length items ≤ point
chain_short l point size sets here [] c = omega arith
chain_short l point size sets here (item ∷ items) (h, e, z, f, p, c) =
    let less = chain_short (back_in l here item) (point - 1) size (below point sets) (newest_first item) items c in
    omega (arith, less, z)

no_room : (limit : Option ℕ) (n : ℕ) → keeps_any limit ≡ false → 0 ≡ room limit n
no_room None n h = absurd (cc h)
no_room (Some k) n h = let z = ltb-false 0 k h in omega (arith, z)

some_room : (limit : Option ℕ) (n : ℕ) → keeps_any limit ≡ true → 1 ≤ room limit (n + 1)
some_room None n h = omega arith
some_room (Some k) n h = let z = ltb-true 0 k h in omega (arith, z)

first_of : (ps : List Past) (q : Past) (qs : List Past) → IsFront ps (q ∷ qs) → 1 ≤ length ps → seen_first ps ≡ Some (seen q.last.moment.state)
first_of [] q qs front h = absurd (omega (arith, h))
first_of (p ∷ ps) q qs front h = ap (λ (x : Past). Some (seen x.last.moment.state)) (sym (head_is p ps q qs front.rest front.is))
  where
    head_or : Past → List Past → Past
    head_or d [] = d
    head_or d (x ∷ xs) = x

    head_is : (p : Past) (ps : List Past) (q : Past) (qs rest : List Past) → q ∷ qs ≡ (p ∷ ps) ++ rest → q ≡ p
    head_is p ps q qs rest e = ap (head_or q) e

kept_on : (l s n : Layout) (point old_size size : ℕ) (sets : List SetAt) (here : List Group) (old new : List Kept) (limit : Option ℕ) → IsSound l → Grown l s → IsPlaced l point old_size → old_size ≤ size →
    KeepsStep s n old new here limit → Chain l point old_size sets (reverse here) old → Moved l n point size sets (reverse here) old new limit
kept_on l s n point old_size size sets here old new limit sound grew placed le k c =
    let item = k.item in
    let grew2 : Grown l (put_back n item.step) = Grown-then_same l s (put_back n item.step) grew k.back in
    let mine : reverse here ≡ newest_first item = ap (λ (gs : List Group). reverse gs) (sym k.sets) in
    let c2 : Chain l point size sets (newest_first item) old = subst (λ (gs : List Group). Chain l point size sets gs old) mine (chain-size l point old_size size sets (reverse here) old le c) in
    let placed2 : IsPlaced l point size = record { goes = placed.goes; here = placed.here; consumed = omega (arith, placed.consumed, le) } in
    let whole = chain_step l n point size sets item old placed2 grew2 k.fits c2 in
    let same : pasts n sets (point + 1) [] (item ∷ old) ≡ left_past (saved_in item.step) l sets (reverse here) ∷ pasts l sets point (reverse here) old =
    pasts_step l n point size sets item old sound grew2 c2 ∙ ap (λ (gs : List Group). left_past (saved_in item.step) l sets gs ∷ pasts l sets point gs old) (sym mine) in
    let front : IsFront (pasts n sets (point + 1) [] new) (left_past (saved_in item.step) l sets (reverse here) ∷ pasts l sets point (reverse here) old) =
    subst (λ (ps : List Past). IsFront (pasts n sets (point + 1) [] new) ps) same (pasts_front n sets (point + 1) [] new (item ∷ old) k.front) in
    let count : length (pasts n sets (point + 1) [] new) ≡ room limit (length (pasts l sets point (reverse here) old) + 1) =
    length-pasts n sets (point + 1) [] new ∙ k.count ∙ ap (λ m. room limit (m + 1)) (sym (length-pasts l sets point (reverse here) old)) in
    record {
      chain = chain_front n (point + 1) size sets [] new (item ∷ old) k.front whole;
      saved = saved_in item.step;
      front = front;
      count = count;
      before = λ any.
          let some = some_room limit (length (pasts l sets point (reverse here) old)) any in
          first_of (pasts n sets (point + 1) [] new) (left_past (saved_in item.step) l sets (reverse here)) (pasts l sets point (reverse here) old) front (omega (arith, some, count));
    }

forgotten_on : (l n : Layout) (point old_size size : ℕ) (sets : List SetAt) (here : List Group) (old new : List Kept) (limit : Option ℕ) → keeps_any limit ≡ false → new ≡ [] →
    Chain l point old_size sets here old → Moved l n point size sets here old new limit
forgotten_on l n point old_size size sets here old new limit none empty c =
    subst (λ (ks : List Kept). Moved l n point size sets here old ks limit) (sym empty) (record {
      chain = (tt, ends_next point (length here) sets (ends_with l point old_size sets here old c));
      saved = 0;
      front = record { rest = left_past 0 l sets here ∷ pasts l sets point here old; is = refl };
      count = no_room limit (length (pasts l sets point here old) + 1) none;
      before = λ any. absurd (true_false (sym any ∙ none));
    })
  where
    true_false : true ≡ false → ⊥
    true_false e = cc e

moved_by : (b : Bool) (l s n : Layout) (point old_size size : ℕ) (sets : List SetAt) (here : List Group) (old new : List Kept) (limit : Option ℕ) → keeps_any limit ≡ b → IsSound l → Grown l s → IsPlaced l point old_size → old_size ≤ size →
    Closes b s n old new here limit → Chain l point old_size sets (reverse here) old → Moved l n point size sets (reverse here) old new limit
moved_by true l s n point old_size size sets here old new limit is sound grew placed le k c = kept_on l s n point old_size size sets here old new limit sound grew placed le k c
moved_by false l s n point old_size size sets here old new limit is sound grew placed le k c = forgotten_on l n point old_size size sets (reverse here) old new limit is k c

pub moved : (l s n : Layout) (point old_size size : ℕ) (sets : List SetAt) (here : List Group) (old new : List Kept) (limit : Option ℕ) → IsSound l → Grown l s → IsPlaced l point old_size → old_size ≤ size →
    Closes (keeps_any limit) s n old new here limit → Chain l point old_size sets (reverse here) old → Moved l n point size sets (reverse here) old new limit
moved l s n point old_size size sets here old new limit = moved_by (keeps_any limit) l s n point old_size size sets here old new limit refl

-- the groups of a point's sets fit
pub fit_groups : (l : Layout) (point size : ℕ) (here : List Group) → FitHere l point size here → FitAll l here
fit_groups l point size [] h = tt
fit_groups l point size (g ∷ gs) (f, p, h) = (f, fit_groups (put_back l g) point size gs h)
