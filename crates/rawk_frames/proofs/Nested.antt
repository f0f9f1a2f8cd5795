-- Activations, as they lie on two stacks.
use Rattle.std.proofs.Common.{◌≡◌, ℕ, suc, zero, ◌+◌, ◌^◌, ◌<◌, ◌≤◌, List, [], ◌∷◌, ◌++◌, length, take, drop, set, reverse, refl, sym, ap, ◌∙◌, arith, slice_get, Option, None, Some, MatchOption, Bool, true, false, Result, Ok, Err, IfOk, OnErr}
use Rattle.std.specs.Bool.{OnFalse, OnTrue}
use Rattle.rawk_value.specs.Values.{Bytes}
use Rattle.rawk_value.specs.declared.value.Value.{Value}
use Rattle.rawk_value.specs.declared.value.Value.TheVariants.{String}
use Rattle.std.proofs.Math.Seq.{take-set-lt}
use Rattle.std.proofs.lemmas.List.{length-reverse, length-drop, length-take, set-get_or, take-append-le, drop-append-le, take-set-le, reverse-append, reverse-reverse}
use Rattle.std.proofs.lemmas.Option.{get_or_from_slice_get, same_Some, none-some}
use Rattle.rawk_slots.specs.Journaled.{Journaled}
use Rattle.rawk_slots.specs.Stacked.{Stacked, live_slots, live_values}
use Rattle.rawk_frames.specs.declared.frames.Local.{Local}
use Rattle.rawk_frames.specs.declared.frames.Local.TheVariants.{Holds}
use Rattle.rawk_frames.specs.declared.frames.Activation.{Activation}
use Rattle.rawk_frames.specs.Frame.{Frame, HasLonger, HasLongerAt, IsLonger, IsOf, locals_now, with_local, with_more}
use Rattle.rawk_frames.specs.LaidFrames.{AreFrames, IsBase, IsNested, IsPlace, frames_from}

pub length_frames : (as1 : List Activation) (ls : List Local) → length (frames_from as1 ls) ≡ length as1
length_frames [] ls = refl
length_frames (a ∷ older) ls = ap suc (length_frames older (take a.base ls))

pub frame_at : (as1 : List Activation) (ls : List Local) (n : ℕ) (o : Option Activation) → o ≡ slice_get as1 n →
    MatchOption o (slice_get (frames_from as1 ls) n ≡ None) (λ a. (f : Frame) × (slice_get (frames_from as1 ls) n ≡ Some f) × IsOf a f)
frame_at [] ls n None e = refl
frame_at [] ls n (Some a) e = absurd (none-some a (sym e))
frame_at (a ∷ older) ls zero None e = absurd (none-some a e)
frame_at (a ∷ older) ls zero (Some b) e =
    let same : b ≡ a = same_Some b a e in
    (record { function = a.function; locals = drop a.base ls; arrays_before = a.arrays_before; called_at = a.called_at; site = a.site }, refl, record { function = ap (λ (x : Activation). x.function) (sym same); arrays_before = ap (λ (x : Activation). x.arrays_before) (sym same); called_at = ap (λ (x : Activation). x.called_at) (sym same); site = ap (λ (x : Activation). x.site) (sym same) })
frame_at (a ∷ older) ls (suc n) o e = frame_at older (take a.base ls) n o e

pub get_drop : (ls : List Local) (i n : ℕ) → slice_get (drop i ls) n ≡ slice_get ls (i + n)
get_drop ls zero n = let e : n ≡ 0 + n = omega arith in ap (slice_get ls) e
get_drop [] (suc i) n = refl
get_drop (l ∷ ls) (suc i) n = get_drop ls i n ∙ (let e : suc (i + n) ≡ suc i + n = omega arith in ap (slice_get (l ∷ ls)) e)

drop_set : (ls : List Local) (i n : ℕ) (v : Local) → drop i (set ls (i + n) v) ≡ set (drop i ls) n v
drop_set ls zero n v = let e : 0 + n ≡ n = omega arith in ap (λ k. set ls k v) e
drop_set [] (suc i) n v = refl
drop_set (l ∷ ls) (suc i) n v = (let e : suc i + n ≡ suc (i + n) = omega arith in ap (λ k. drop (suc i) (set (l ∷ ls) k v)) e) ∙ drop_set ls i n v

pub local_at : (number : ℕ) (as1 : List Activation) (ls : List Local) (p : ℕ) → IsPlace number as1 ls p → slice_get ls p ≡ slice_get (locals_now (frames_from as1 ls)) number
local_at number as1 ls p h =
    ap (slice_get ls) h.there ∙ (sym (get_drop ls h.newest.base number) ∙ ap (λ (xs : List Activation). slice_get (locals_now (frames_from xs ls)) number) (sym h.is))

pub local_set : (number : ℕ) (as1 : List Activation) (ls : List Local) (p : ℕ) (v : Local) → IsPlace number as1 ls p → frames_from as1 (set ls p v) ≡ with_local number v (frames_from as1 ls)
local_set number as1 ls p v h =
    let a : Activation = h.newest in
    ap (λ (xs : List Activation). frames_from xs (set ls p v)) h.is
    ∙ (ap (λ k. frames_from (a ∷ h.older) (set ls k v)) h.there
    ∙ (ap (λ (xs : List Local). record { function = a.function; locals = xs; arrays_before = a.arrays_before; called_at = a.called_at; site = a.site } ∷ frames_from h.older (take a.base (set ls (a.base + number) v))) (drop_set ls a.base number v)
    ∙ (ap (λ (xs : List Local). record { function = a.function; locals = set (drop a.base ls) number v; arrays_before = a.arrays_before; called_at = a.called_at; site = a.site } ∷ frames_from h.older xs) (take-set-le a.base ls (a.base + number) v (omega arith))
    ∙ ap (λ (xs : List Activation). with_local number v (frames_from xs ls)) (sym h.is))))

pub local_longer : (number : ℕ) (as1 : List Activation) (old new : List Local) (p : ℕ) (more : Bytes) → IsPlace number as1 old p → {E : Type 0} (r : Result Bool E)
    → IfOk r (λ done. OnTrue done (HasLongerAt p more old new)) → IfOk r (λ done. OnTrue done (HasLonger number more (frames_from as1 old) (frames_from as1 new)))
local_longer number as1 old new p more place {E} (Ok true) h =
    let long : Local = Holds (String (h.text ++ more)) in
    record { text = h.text; was = sym (local_at number as1 old p place) ∙ h.was; is = ap (λ (ls : List Local). frames_from as1 ls) h.is ∙ local_set number as1 old p long place }
local_longer number as1 old new p more place {E} (Ok false) h = tt
local_longer number as1 old new p more place {E} (Err e) h = tt

pub local_written : (number : ℕ) (as1 : List Activation) (old new : List Local) (p : ℕ) (v : Local) → IsPlace number as1 old p → (done : Bool)
    → OnTrue done (new ≡ set old p v) → OnTrue done (frames_from as1 new ≡ with_local number v (frames_from as1 old))
local_written number as1 old new p v place true e = ap (λ (ls : List Local). frames_from as1 ls) e ∙ local_set number as1 old p v place
local_written number as1 old new p v place false e = tt

-- what is lent of the live locals
pub lent_set : (s : Stacked Local) (p : ℕ) (l : Local) → p < length (live_slots s) → take s.live (set s.slots p l) ≡ set (live_slots s) p l
lent_set s p l h = take-set-lt s.live s.slots p l (omega (arith, h, length-take s.live s.slots))

pub same_lent : (s : Stacked Local) (p : ℕ) (l : Local) → p < length (live_slots s) → slice_get (live_slots s) p ≡ Some l → take s.live (set s.slots p l) ≡ live_slots s
same_lent s p l h e = lent_set s p l h ∙ (ap (λ w. set (live_slots s) p w) (sym (get_or_from_slice_get (live_slots s) p l l e)) ∙ set-get_or (live_slots s) p l)

pub longer_lent : (s : Stacked Local) (p : ℕ) (more : Bytes) (l : Local) (old new : Value) → p < length (live_slots s) → slice_get (live_slots s) p ≡ Some l → l ≡ Holds old → {E : Type 0} (r : Result Bool E)
    → IfOk r (λ done. OnTrue done (IsLonger more old new)) → IfOk r (λ done. OnTrue done (HasLongerAt p more (live_slots s) (take s.live (set s.slots p (Holds new)))))
longer_lent s p more l old new h e is {E} (Ok true) g =
    record { text = g.text; was = e ∙ ap (λ (k : Local). Some k) (is ∙ ap Holds g.was); is = lent_set s p (Holds new) h ∙ ap (λ (v : Value). set (live_slots s) p (Holds v)) g.is }
longer_lent s p more l old new h e is {E} (Ok false) g = tt
longer_lent s p more l old new h e is {E} (Err x) g = tt

same_held : (s : Stacked Local) (p : ℕ) (l : Local) (old new : Value) → p < length (live_slots s) → slice_get (live_slots s) p ≡ Some l → l ≡ Holds old → new ≡ old → take s.live (set s.slots p (Holds new)) ≡ live_slots s
same_held s p l old new h e is same = ap (λ (v : Value). take s.live (set s.slots p (Holds v))) same ∙ (ap (λ (k : Local). take s.live (set s.slots p k)) (sym is) ∙ same_lent s p l h e)

pub other_lent : (s : Stacked Local) (p : ℕ) (l : Local) (old new : Value) → p < length (live_slots s) → slice_get (live_slots s) p ≡ Some l → l ≡ Holds old → {E : Type 0} (r : Result Bool E)
    → IfOk r (λ done. OnFalse done (new ≡ old)) → IfOk r (λ done. OnFalse done (take s.live (set s.slots p (Holds new)) ≡ live_slots s))
other_lent s p l old new h e is {E} (Ok true) g = tt
other_lent s p l old new h e is {E} (Ok false) g = same_held s p l old new h e is g
other_lent s p l old new h e is {E} (Err x) g = tt

pub refused_lent : (s : Stacked Local) (p : ℕ) (l : Local) (old new : Value) → p < length (live_slots s) → slice_get (live_slots s) p ≡ Some l → l ≡ Holds old → {E : Type 0} (r : Result Bool E)
    → OnErr r (new ≡ old) → OnErr r (take s.live (set s.slots p (Holds new)) ≡ live_slots s)
refused_lent s p l old new h e is {E} (Ok x) g = tt
refused_lent s p l old new h e is {E} (Err x) g = same_held s p l old new h e is g

-- a value that was written over the one that is lent, and one that was not
pub written_lent : (s : Stacked Local) (p : ℕ) (new v : Value) → p < length (live_slots s) → (done : Bool) → OnTrue done (new ≡ v) → OnTrue done (take s.live (set s.slots p (Holds new)) ≡ set (live_slots s) p (Holds v))
written_lent s p new v h true e = lent_set s p (Holds new) h ∙ ap (λ (w : Value). set (live_slots s) p (Holds w)) e
written_lent s p new v h false e = tt

pub unwritten_lent : (s : Stacked Local) (p : ℕ) (l : Local) (old new : Value) → p < length (live_slots s) → slice_get (live_slots s) p ≡ Some l → l ≡ Holds old → (done : Bool)
    → OnFalse done (new ≡ old) → OnFalse done (take s.live (set s.slots p (Holds new)) ≡ live_slots s)
unwritten_lent s p l old new h e is true g = tt
unwritten_lent s p l old new h e is false g = same_held s p l old new h e is g

-- what the code tests
pub place_found : (base : ℕ) (as1 : List Activation) (ls : List Local) (count number place : ℕ) → IsBase base as1 → count ≡ length ls → count < 2 ^ 64 → place ≡ base + number → place < count → IsPlace number as1 ls place
place_found base [] ls count number place b c few p lt = absurd (omega (arith, b, c, few, p, lt))
place_found base (x ∷ older) ls count number place b c few p lt = record {
  newest = x;
  older = older;
  is = refl;
  there = p ∙ ap (λ k. k + number) b;
  within = omega (arith, lt, c);
}

pub place_past : (base : ℕ) (as1 : List Activation) (ls : List Local) (count number : ℕ) → IsBase base as1 → count ≡ length ls → count ≤ base + number → length (locals_now (frames_from as1 ls)) ≤ number
place_past base [] ls count number b c h = omega arith
place_past base (x ∷ older) ls count number b c h = omega (arith, length-drop x.base ls, b, c, h)

-- one more local at the end
pub more_locals : (as1 : List Activation) (ls : List Local) (v : Local) → IsNested as1 (length ls) → frames_from as1 (ls ++ v ∷ []) ≡ with_more v (frames_from as1 ls)
more_locals [] ls v h = refl
more_locals (a ∷ older) ls v h =
    ap (λ (xs : List Local). record { function = a.function; locals = xs; arrays_before = a.arrays_before; called_at = a.called_at; site = a.site } ∷ frames_from older (take a.base (ls ++ v ∷ []))) (drop-append-le a.base ls (v ∷ []) h.0)
    ∙ ap (λ (xs : List Local). record { function = a.function; locals = drop a.base ls ++ v ∷ []; arrays_before = a.arrays_before; called_at = a.called_at; site = a.site } ∷ frames_from older xs) (take-append-le a.base ls (v ∷ []) h.0)

pub nested_more : (as1 : List Activation) (n m : ℕ) → n ≤ m → IsNested as1 n → IsNested as1 m
nested_more [] n m le h = tt
nested_more (a ∷ older) n m le h = (omega (arith, h.0, le), h.1)

-- the values from the oldest to the newest
pub oldest_first : {T : Type 0} (s : Stacked T) → reverse (live_values s) ≡ live_slots s
oldest_first s = reverse-reverse (live_slots s)

pub slots_pushed : {T : Type 0} (s t : Stacked T) (v : T) → live_values t ≡ v ∷ live_values s → live_slots t ≡ live_slots s ++ v ∷ []
slots_pushed {T} s t v e = sym (oldest_first t) ∙ (ap (λ (xs : List T). reverse xs) e ∙ (reverse-append (v ∷ []) (live_values s) ∙ ap (λ (xs : List T). xs ++ v ∷ []) (oldest_first s)))

-- one more local, where it was added, and none where it was not
pub more_added : (done : Bool) (as1 : List Activation) (s t : Stacked Local) (v : Local) → IsNested as1 (length (live_slots s)) → OnTrue done (live_values t ≡ v ∷ live_values s) → OnTrue done (frames_from as1 (live_slots t) ≡ with_more v (frames_from as1 (live_slots s)))
more_added true as1 s t v h e = ap (λ (ls : List Local). frames_from as1 ls) (slots_pushed s t v e) ∙ more_locals as1 (live_slots s) v h
more_added false as1 s t v h e = tt

pub none_added : (done : Bool) (as1 : List Activation) (s t : Stacked Local) → OnFalse done (live_values t ≡ live_values s) → OnFalse done (frames_from as1 (live_slots t) ≡ frames_from as1 (live_slots s))
none_added true as1 s t e = tt
none_added false as1 s t e = ap (λ (ls : List Local). frames_from as1 ls) (sym (oldest_first t) ∙ (ap (λ (xs : List Local). reverse xs) e ∙ oldest_first s))

pub length_values : {T : Type 0} (s : Stacked T) → length (live_values s) ≡ length (live_slots s)
length_values s = length-reverse (live_slots s)

pub frames_kept : (base : ℕ) (frames : Journaled (Stacked Activation)) (locals new : Journaled (Stacked Local)) → AreFrames base frames locals → length (live_slots locals.now) ≤ length (live_slots new.now) → AreFrames base frames new
frames_kept base frames locals new h le = record { now = nested_more (live_values frames.now) (length (live_slots locals.now)) (length (live_slots new.now)) le h.now; begins = h.begins }

-- the newest activation, and what is left without it
pub left_frame : (as1 older : List Activation) (ls rest : List Local) (a : Activation) → Some a ≡ slice_get as1 0 → older ≡ drop 1 as1 → rest ≡ take a.base ls → (f : Frame) × (frames_from as1 ls ≡ f ∷ frames_from older rest) × IsOf a f
left_frame [] older ls rest a e d r = absurd (none-some a (sym e))
left_frame (x ∷ xs) older ls rest a e d r =
    let same : a ≡ x = same_Some a x e in (
      record { function = x.function; locals = drop x.base ls; arrays_before = x.arrays_before; called_at = x.called_at; site = x.site },
      ap (λ (more : List Frame). record { function = x.function; locals = drop x.base ls; arrays_before = x.arrays_before; called_at = x.called_at; site = x.site } ∷ more)
          (ap (λ (y : Activation). frames_from xs (take y.base ls)) (sym same) ∙ (ap (λ (ys : List Activation). frames_from ys (take a.base ls)) (sym d) ∙ ap (λ (ys : List Local). frames_from older ys) (sym r))),
      record { function = ap (λ (y : Activation). y.function) (sym same); arrays_before = ap (λ (y : Activation). y.arrays_before) (sym same); called_at = ap (λ (y : Activation). y.called_at) (sym same); site = ap (λ (y : Activation). y.site) (sym same) },
    )
