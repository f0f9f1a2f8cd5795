-- The groups that are kept lead back from point to point.
use Rattle.std.proofs.Common.{◌≡◌, ℕ, suc, ◌+◌, ◌-◌, ◌≤◌, List, [], ◌∷◌, ◌++◌, length, reverse, take, refl, sym, ap, ◌∙◌, subst, arith}
use Rattle.rawk_value.specs.Values.{Bytes}
use Rattle.rawk_value.specs.declared.value.Value.{Value}
use Rattle.rawk_store.specs.declared.registers.Registers.{Registers}
use Rattle.rawk_store.specs.Groups.{Group}
use Rattle.rawk_history.specs.Steps.{Kept}
use Rattle.rawk_store.specs.State.{State}
use Rattle.rawk_store.specs.Layout.{Layout, Grown, IsSound, keys, operands, state}
use Rattle.rawk_store.specs.Saving.{saved_in}
use Rattle.rawk_store.specs.GroupBack.{FitsIn, put_back}
use Rattle.rawk_store.specs.Growth.{state-grown, operands-grown, keys-grown, Grown-put_back, FitsIn-grown, IsSound-put_back}
use Rattle.rawk_history.specs.Keeping.{IsFront}
use Rattle.std.proofs.lemmas.List.{append-nil, length-reverse}
use Rattle.rawk_code.specs.Actions.{SetAt, sets_at}
use Rattle.rawk_frames.specs.LaidFrames.{returns_of}
use Rattle.rawk_frames.specs.FramesLaws.{returns_of-grown}
use Rattle.rawk_steps.specs.Arrival.{site_for}
use Rattle.rawk_machine.specs.Standing.{Moment, Earlier, Past, LastMade}
use Rattle.rawk_machine.specs.Kept.{moment_in, but_last, below, unsets, pasts, IsPlaced, FitHere, EndsWith, Chain}
use Rattle.rawk_steps.specs.Leading.{newest_first, all_back, back_in}
use Rattle.rawk_machine.proofs.SetLists.{own_dropped, ends_next, below_next, ends_push, below_push, LastSet, last_set, below_but_last, take_front, none_at}

abbrev moment_by : State → List Value → List (List Bytes) → List ℕ → Registers → Moment
moment_by s vs ks rs r = record {
  state = s;
  operands = vs;
  keys = ks;
  returns = rs;
  place = r.place;
  phase = r.phase;
  ending = r.ending;
  site = site_for r.ending r.site;
}

pub moment-grown : (l m : Layout) → Grown l m → IsSound l → moment_in m ≡ moment_in l
moment-grown l m g h =
    ap (λ (s : State). moment_by s (operands m) (keys m) (returns_of m.frames) m.registers) (state-grown l m g h)
    ∙ ap (λ (vs : List Value). moment_by (state l) vs (keys m) (returns_of m.frames) m.registers) (operands-grown l m g h)
    ∙ ap (λ (ks : List (List Bytes)). moment_by (state l) (operands l) ks (returns_of m.frames) m.registers) (keys-grown l m g h)
    ∙ ap (λ (rs : List ℕ). moment_by (state l) (operands l) (keys l) rs m.registers) (returns_of-grown l.frames m.frames g.frames h.frames.frames)
    ∙ ap (λ (r : Registers). moment_by (state l) (operands l) (keys l) (returns_of l.frames) r) g.registers

pub placed-grown : (l m : Layout) (point size : ℕ) → Grown l m → IsPlaced l point size → IsPlaced m point size
placed-grown l m point size g p = let e = ap (λ (r : Registers). r.consumed) g.registers in
    record { goes = ap (λ (r : Registers). r.ending) g.registers ∙ p.goes; here = ap (λ (r : Registers). r.here) g.registers ∙ p.here; consumed = omega (arith, e, p.consumed) }

here-grown : (l m : Layout) (point size : ℕ) (here : List Group) → Grown l m → FitHere l point size here → FitHere m point size here
here-grown l m point size [] grew h = tt
here-grown l m point size (g ∷ gs) grew (f, p, h) =
    let next = Grown-put_back l m g grew f in (FitsIn-grown l m g grew f, placed-grown (put_back l g) (put_back m g) point size next p, here-grown (put_back l g) (put_back m g) point size gs next h)

all_back-grown : (l m : Layout) (point size : ℕ) (here : List Group) → Grown l m → FitHere l point size here → Grown (all_back l here) (all_back m here)
all_back-grown l m point size [] grew h = grew
all_back-grown l m point size (g ∷ gs) grew (f, p, h) = all_back-grown (put_back l g) (put_back m g) point size gs (Grown-put_back l m g grew f) h

pub sound-all_back : (l : Layout) (point size : ℕ) (here : List Group) → FitHere l point size here → IsSound l → IsSound (all_back l here)
sound-all_back l point size [] h sound = sound
sound-all_back l point size (g ∷ gs) (f, p, h) sound = sound-all_back (put_back l g) point size gs h (IsSound-put_back l g f sound)

pub unsets-grown : (l m : Layout) (point size : ℕ) (sets : List SetAt) (here : List Group) → Grown l m → IsSound l → FitHere l point size here → unsets m sets here ≡ unsets l sets here
unsets-grown l m point size sets [] grew sl h = refl
unsets-grown l m point size sets (g ∷ gs) grew sl (f, p, h) =
    let a = put_back l g in
    let b = put_back m g in
    let next = Grown-put_back l m g grew f in
    let sa = IsSound-put_back l g f sl in
    ap (λ (x : Moment). record { moment = x; sets = but_last sets; saved = saved_in g } ∷ unsets b (but_last sets) gs) (moment-grown a b next sa)
    ∙ ap (λ (xs : List Earlier). record { moment = moment_in a; sets = but_last sets; saved = saved_in g } ∷ xs) (unsets-grown a b point size (but_last sets) gs next sa h)

pub fit_here : (l : Layout) (point size : ℕ) (sets : List SetAt) (here : List Group) (items : List Kept) → Chain l point size sets here items → FitHere l point size here
fit_here l point size sets here [] h = h.0
fit_here l point size sets here (item ∷ items) h = h.0

pub ends_with : (l : Layout) (point size : ℕ) (sets : List SetAt) (here : List Group) (items : List Kept) → Chain l point size sets here items → EndsWith point (length here) sets
ends_with l point size sets here [] h = h.1
ends_with l point size sets here (item ∷ items) h = h.1

-- without the sets of the point, which are as many as their groups, those of the points before
pub own_below : (l : Layout) (point size : ℕ) (sets : List SetAt) (here : List Group) (items : List Kept)
    → Chain l point size sets (reverse here) items → take (length sets - length here) sets ≡ below point sets
own_below l point size sets here items h =
    own_dropped point (length here) sets (subst (λ n. EndsWith point n sets) (length-reverse here) (ends_with l point size sets (reverse here) items h))

back_in-grown : (l m : Layout) (point size : ℕ) (here : List Group) (item : Kept) → Grown l m → FitHere l point size here → FitsIn item.step (all_back l here) → Grown (back_in l here item) (back_in m here item)
back_in-grown l m point size here item grew h f = Grown-put_back (all_back l here) (all_back m here) item.step (all_back-grown l m point size here grew h) f

sound-back_in : (l : Layout) (point size : ℕ) (here : List Group) (item : Kept) → FitHere l point size here → FitsIn item.step (all_back l here) → IsSound l → IsSound (back_in l here item)
sound-back_in l point size here item h f sound = IsSound-put_back (all_back l here) item.step f (sound-all_back l point size here h sound)

pub chain-grown : (l m : Layout) (point size : ℕ) (sets : List SetAt) (here : List Group) (items : List Kept) → Grown l m → Chain l point size sets here items → Chain m point size sets here items
chain-grown l m point size sets here [] grew (h, e) = (here-grown l m point size here grew h, e)
chain-grown l m point size sets here (item ∷ items) grew (h, e, z, f, p, c) =
    let a = back_in l here item in
    let b = back_in m here item in
    let next = back_in-grown l m point size here item grew h f in (
      here-grown l m point size here grew h,
      e,
      z,
      FitsIn-grown (all_back l here) (all_back m here) item.step (all_back-grown l m point size here grew h) f,
      placed-grown a b (point - 1) size next p,
      chain-grown a b (point - 1) size (below point sets) (newest_first item) items next c,
    )

pub pasts-grown : (l m : Layout) (point size : ℕ) (sets : List SetAt) (here : List Group) (items : List Kept) → Grown l m → IsSound l → Chain l point size sets here items → pasts m sets point here items ≡ pasts l sets point here items
pasts-grown l m point size sets here [] grew sl c = refl
pasts-grown l m point size sets here (item ∷ items) grew sl (h, e, z, f, p, c) =
    let a = back_in l here item in
    let b = back_in m here item in
    let s = below point sets in
    let new = newest_first item in
    let next = back_in-grown l m point size here item grew h f in
    let sa = sound-back_in l point size here item h f sl in
    let past = λ (x : Moment) (u : List Earlier) (ps : List Past). let y : Past = record { last = record { moment = x; sets = s; saved = saved_in item.step }; unset = u } in y ∷ ps in
    ap (λ (x : Moment). past x (unsets b s new) (pasts b s (point - 1) new items)) (moment-grown a b next sa)
    ∙ ap (λ (u : List Earlier). past (moment_in a) u (pasts b s (point - 1) new items)) (unsets-grown a b (point - 1) size s new next sa (fit_here a (point - 1) size s new items c))
    ∙ ap (λ (ps : List Past). past (moment_in a) (unsets a s new) ps) (pasts-grown a b (point - 1) size s new items next sa c)

here-size : (l : Layout) (point m n : ℕ) (here : List Group) → m ≤ n → FitHere l point m here → FitHere l point n here
here-size l point m n [] le h = tt
here-size l point m n (g ∷ gs) le (f, p, h) = (f, record { goes = p.goes; here = p.here; consumed = omega (arith, p.consumed, le) }, here-size (put_back l g) point m n gs le h)

pub chain-size : (l : Layout) (point m n : ℕ) (sets : List SetAt) (here : List Group) (items : List Kept) → m ≤ n → Chain l point m sets here items → Chain l point n sets here items
chain-size l point m n sets here [] le (h, e) = (here-size l point m n here le h, e)
chain-size l point m n sets here (item ∷ items) le (h, e, z, f, p, c) = (
  here-size l point m n here le h,
  e,
  z,
  f,
  record { goes = p.goes; here = p.here; consumed = omega (arith, p.consumed, le) },
  chain-size (back_in l here item) (point - 1) m n (below point sets) (newest_first item) items le c,
)

-- a front of a chain is a chain
chain-front : (l : Layout) (point size : ℕ) (sets : List SetAt) (here : List Group) (items rest : List Kept) → Chain l point size sets here (items ++ rest) → Chain l point size sets here items
chain-front l point size sets here [] rest c = (fit_here l point size sets here rest c, ends_with l point size sets here rest c)
chain-front l point size sets here (item ∷ items) rest (h, e, z, f, p, c) =
    (h, e, z, f, p, chain-front (back_in l here item) (point - 1) size (below point sets) (newest_first item) items rest c)

pub chain_front : (l : Layout) (point size : ℕ) (sets : List SetAt) (here : List Group) (items all : List Kept) → IsFront items all → Chain l point size sets here all → Chain l point size sets here items
chain_front l point size sets here items all front c = chain-front l point size sets here items front.rest (subst (λ (xs : List Kept). Chain l point size sets here xs) front.is c)

pasts-front : (l : Layout) (sets : List SetAt) (point : ℕ) (here : List Group) (items rest : List Kept) → IsFront (pasts l sets point here items) (pasts l sets point here (items ++ rest))
pasts-front l sets point here [] rest = record { rest = pasts l sets point here rest; is = refl }
pasts-front l sets point here (item ∷ items) rest =
    let m = back_in l here item in
    let s = below point sets in
    let new = newest_first item in
    let r = pasts-front m s (point - 1) new items rest in
    record { rest = r.rest; is = ap (λ (ps : List Past). record { last = record { moment = moment_in m; sets = s; saved = saved_in item.step }; unset = unsets m s new } ∷ ps) r.is }

pub pasts_front : (l : Layout) (sets : List SetAt) (point : ℕ) (here : List Group) (items all : List Kept) → IsFront items all → IsFront (pasts l sets point here items) (pasts l sets point here all)
pasts_front l sets point here items all front = subst (λ (xs : List Kept). IsFront (pasts l sets point here items) (pasts l sets point here xs)) (sym front.is) (pasts-front l sets point here items front.rest)

pub length-pasts : (l : Layout) (sets : List SetAt) (point : ℕ) (here : List Group) (items : List Kept) → length (pasts l sets point here items) ≡ length items
length-pasts l sets point here [] = refl
length-pasts l sets point here (item ∷ items) = ap suc (length-pasts (back_in l here item) (below point sets) (point - 1) (newest_first item) items)

-- a step on
pub chain_step : (l n : Layout) (point size : ℕ) (sets : List SetAt) (item : Kept) (items : List Kept) → IsPlaced l point size → Grown l (put_back n item.step) → FitsIn item.step n →
    Chain l point size sets (newest_first item) items → Chain n (point + 1) size sets [] (item ∷ items)
chain_step l n point size sets item items placed grew fits c =
    let here = newest_first item in
    let back = put_back n item.step in
    let ends = ends_with l point size sets here items c in
    let less : point + 1 - 1 ≡ point = omega arith in (
      tt,
      ends_next point (length here) sets ends,
      omega arith,
      fits,
      subst (λ k. IsPlaced back k size) (sym less) (placed-grown l back point size grew placed),
      subst (λ k. Chain back k size (below (point + 1) sets) here items) (sym less)
          (subst (λ (xs : List SetAt). Chain back point size xs here items) (sym (below_next point (length here) sets ends)) (chain-grown l back point size sets here items grew c)),
    )

pub pasts_step : (l n : Layout) (point size : ℕ) (sets : List SetAt) (item : Kept) (items : List Kept) → IsSound l → Grown l (put_back n item.step) → Chain l point size sets (newest_first item) items →
    pasts n sets (point + 1) [] (item ∷ items) ≡ record { last = record { moment = moment_in l; sets = sets; saved = saved_in item.step }; unset = unsets l sets (newest_first item) } ∷ pasts l sets point (newest_first item) items
pasts_step l n point size sets item items sl grew c =
    let here = newest_first item in
    let back = put_back n item.step in
    let same = below_next point (length here) sets (ends_with l point size sets here items c) in
    let less : point + 1 - 1 ≡ point = omega arith in
    let past = λ (x : Moment) (s : List SetAt) (u : List Earlier) (ps : List Past). let y : Past = record { last = record { moment = x; sets = s; saved = saved_in item.step }; unset = u } in y ∷ ps in
    ap (λ (s : List SetAt). past (moment_in back) s (unsets back s here) (pasts back s (point + 1 - 1) here items)) same
    ∙ ap (λ (k : ℕ). past (moment_in back) sets (unsets back sets here) (pasts back sets k here items)) less
    ∙ ap (λ (x : Moment). past x sets (unsets back sets here) (pasts back sets point here items)) (moment-grown l back grew sl)
    ∙ ap (λ (u : List Earlier). past (moment_in l) sets u (pasts back sets point here items)) (unsets-grown l back point size sets here grew sl (fit_here l point size sets here items c))
    ∙ ap (λ (ps : List Past). past (moment_in l) sets (unsets l sets here) ps) (pasts-grown l back point size sets here items grew sl c)

-- a set
pub chain_set : (l n : Layout) (point size : ℕ) (sets : List SetAt) (e : SetAt) (g : Group) (here : List Group) (items : List Kept) → IsPlaced l point size → put_back n g ≡ l → FitsIn g n → e.point ≡ point →
    Chain l point size sets here items → Chain n point size (sets ++ e ∷ []) (g ∷ here) items
chain_set l n point size sets e g here items placed back fits of c = by items c
  where
    set_here : FitHere l point size here → FitHere n point size (g ∷ here)
    set_here h = (fits, subst (λ (m : Layout). IsPlaced m point size) (sym back) placed, subst (λ (m : Layout). FitHere m point size here) (sym back) h)

    by : (items : List Kept) → Chain l point size sets here items → Chain n point size (sets ++ e ∷ []) (g ∷ here) items
    by [] (h, k) = (set_here h, ends_push point (length here) sets e k of)
    by (item ∷ items) (h, k, z, f, p, c) = (
      set_here h,
      ends_push point (length here) sets e k of,
      z,
      subst (λ (m : Layout). FitsIn item.step (all_back m here)) (sym back) f,
      subst (λ (m : Layout). IsPlaced (back_in m here item) (point - 1) size) (sym back) p,
      subst (λ (m : Layout). Chain (back_in m here item) (point - 1) size (below point (sets ++ e ∷ [])) (newest_first item) items) (sym back)
          (subst (λ (s : List SetAt). Chain (back_in l here item) (point - 1) size s (newest_first item) items) (sym (below_push point sets e of)) c),
    )

pasts_under : (m n : Layout) (sets sets2 : List SetAt) (point : ℕ) (here here2 : List Group) (items : List Kept) → all_back m here ≡ all_back n here2 → below point sets ≡ below point sets2 → pasts m sets point here items ≡ pasts n sets2 point here2 items
pasts_under m n sets sets2 point here here2 [] e s = refl
pasts_under m n sets sets2 point here here2 (item ∷ items) e s =
    let new = newest_first item in
    let past = λ (x : Layout) (b : List SetAt). let y : Past = record { last = record { moment = moment_in x; sets = b; saved = saved_in item.step }; unset = unsets x b new } in y ∷ pasts x b (point - 1) new items in
    ap (λ (x : Layout). past (put_back x item.step) (below point sets)) e ∙ ap (past (back_in n here2 item)) s

pub pasts_set : (l n : Layout) (point : ℕ) (sets : List SetAt) (e : SetAt) (g : Group) (here : List Group) (items : List Kept) → put_back n g ≡ l → e.point ≡ point → pasts n (sets ++ e ∷ []) point (g ∷ here) items ≡ pasts l sets point here items
pasts_set l n point sets e g here items back of = pasts_under n l (sets ++ e ∷ []) sets point (g ∷ here) here items (ap (λ (m : Layout). all_back m here) back) (below_push point sets e of)

pub unsets_set : (l n : Layout) (point : ℕ) (sets : List SetAt) (e : SetAt) (g : Group) (here : List Group) → put_back n g ≡ l → unsets n (sets ++ e ∷ []) (g ∷ here) ≡ record { moment = moment_in l; sets = sets; saved = saved_in g } ∷ unsets l sets here
unsets_set l n point sets e g here back =
    let all = λ (x : Moment) (s : List SetAt) (u : List Earlier). let y : Earlier = record { moment = x; sets = s; saved = saved_in g } in y ∷ u in
    ap (λ (m : Layout). all (moment_in m) (but_last (sets ++ e ∷ [])) (unsets m (but_last (sets ++ e ∷ [])) here)) back
    ∙ ap (λ (s : List SetAt). all (moment_in l) s (unsets l s here)) (take_front sets e)

-- a set taken back
pub chain_unset : (l : Layout) (point size : ℕ) (sets : List SetAt) (g : Group) (here : List Group) (items : List Kept) → Chain l point size sets (g ∷ here) items → Chain (put_back l g) point size (but_last sets) here items
chain_unset l point size sets g here [] (h, e) = (h.2, (last_set point (length here) sets e).rest)
chain_unset l point size sets g here (item ∷ items) (h, e, z, f, p, c) = (
  h.2,
  (last_set point (length here) sets e).rest,
  z,
  f,
  p,
  subst (λ (s : List SetAt). Chain (back_in (put_back l g) here item) (point - 1) size s (newest_first item) items) (sym (below_but_last point (length here) sets e)) c,
)

pub pasts_unset : (l : Layout) (point size : ℕ) (sets : List SetAt) (g : Group) (here : List Group) (items : List Kept) → Chain l point size sets (g ∷ here) items → pasts (put_back l g) (but_last sets) point here items ≡ pasts l sets point (g ∷ here) items
pasts_unset l point size sets g here items c =
    pasts_under (put_back l g) l (but_last sets) sets point here (g ∷ here) items refl (below_but_last point (length here) sets (ends_with l point size sets (g ∷ here) items c))

pub last_made : (l : Layout) (point size : ℕ) (sets : List SetAt) (g : Group) (here : List Group) (items : List Kept) → Chain l point size sets (g ∷ here) items → LastSet point (length here) sets
last_made l point size sets g here items c = last_set point (length here) sets (ends_with l point size sets (g ∷ here) items c)

-- the last set of the point, if there is one
none_own : (k : ℕ) (sets : List SetAt) (h : EndsWith k 0 sets) → (own : List SetAt) → h.own ≡ own → sets_at sets k ≡ []
none_own k sets h [] e = let is : sets ≡ h.earlier = h.is ∙ ap (λ (xs : List SetAt). h.earlier ++ xs) e ∙ append-nil h.earlier in ap (λ (xs : List SetAt). sets_at xs k) is ∙ none_at k h.earlier h.before
none_own k sets h (x ∷ xs) e = absurd (omega (arith, h.count_is, ap length e))

pub last_here : (l : Layout) (point size : ℕ) (sets : List SetAt) (here : List Group) (items : List Kept) → Chain l point size sets here items → LastMade point sets (unsets l sets here)
last_here l point size sets [] items c = let h = ends_with l point size sets [] items c in none_own point sets h h.own refl
last_here l point size sets (g ∷ gs) items c = let r = last_made l point size sets g gs items c in (r.last, r.is, r.of)
