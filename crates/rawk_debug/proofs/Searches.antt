-- One step of a search.
use Rattle.std.proofs.Common.{◌≡◌, ℕ, ◌+◌, ◌-◌, ◌<◌, ◌≤◌, zero, suc, Bool, true, false, Option, Some, None, List, [], ◌∷◌, length, refl, sym, ◌∙◌, ap, arith, below_more, leb, ltb, ◌&&◌, inl, inr, is_some, take, eqb}
use Rattle.std.specs.Prelude.{slice_get}
use Rattle.std.proofs.lemmas.Bool.Decides.{nat_tests, leb_tells}
use Rattle.rawk_devices.specs.Inputs.{Input}
use Rattle.rawk_code.specs.Actions.{Point, SetAt, sets_at}
use Rattle.rawk_code.specs.Laws.{SetsAgreeBelow, SetsLawBelow}
use Rattle.rawk_code.specs.Trace.{Trace, number}
use Rattle.rawk_commands.specs.declared.command.Way.TheVariants.{Forward, Back}
use Rattle.rawk_commands.specs.declared.command.Goal.{Goal}
use Rattle.rawk_answers.specs.declared.stop.Entry.{Entry}
use Rattle.rawk_answers.specs.Positions.{Position, Snapshot, Stands, held_or, trace_under, trace_of, at, here, upto, raised, gone_to, back_at}
use Rattle.rawk_store.specs.Observed.{Observed, seen}
use Rattle.rawk_debug.specs.Moves.{Stand, sought, wanted, depth_of, from_below, from_above, Halts, Returns, is_found}

pub none_is : {X : Type 0} (o : Option X) → is_some o ≡ false → o ≡ None
none_is None h = refl
none_is (Some x) h = absurd (cc)

-- a machine that is not over stands at a point
point_below : (t : Trace) (points : List Point) (j : ℕ) → is_some (held_or t (slice_get points j)).over ≡ false → j < length points
point_below t [] j h = absurd (cc)
point_below t (p ∷ points) zero h = omega arith
point_below t (p ∷ points) (suc j) h = let i = point_below t points j h in omega arith

not_over : (input : Input) (m : Position) (held : Snapshot) → Stands input m held → is_some held.over ≡ false → m.point < number (trace_of input m)
not_over input m held s h = point_below (trace_of input m) (trace_of input m).run.points m.point (ap (λ (x : Snapshot). is_some x.over) (sym s.holds) ∙ h)

raised_twice : (h : Option ℕ) (i f : ℕ) → raised h (i + 1) (raised h i f) ≡ raised h (i + 1) f
raised_twice None i f = refl
raised_twice (Some n) i f = omega arith

-- a test at a point: whether it is looked for
pub record Asked (goal : Goal) (mid : Stand) (depth : ℕ) (before : Observed) (held_old held_mid : Snapshot) (asked : Bool) : Type 0 where
  pub depth_is : depth ≡ depth_of held_old
  pub asked_is : asked ≡ sought goal mid.stops depth before held_mid

-- a session whose machine has taken one step on
pub record Advanced (mid new : Stand) (held : Snapshot) (before : Observed) : Type 0 where
  pub machine : new.machine ≡ gone_to (mid.machine.point + 1) mid.machine
  pub stops : new.stops ≡ mid.stops
  pub made : new.made ≡ mid.made
  pub came : before ≡ seen held.state

module _ (input : Input) (goal : Goal) (old mid new : Stand) (held_old held_mid held_new : Snapshot) (before : Observed) (depth : ℕ) (asked : Bool)
    (start : Stands input old.machine held_old) (h : Halts input goal old mid) (at_mid : Stands input mid.machine held_mid)
    (on : Advanced mid new held_mid before) (at_new : Stands input new.machine held_new) (a : Asked goal new depth before held_old held_new asked) (fails : asked ≡ false) where
  -- it stands one point on
  point_is : new.machine.point ≡ mid.machine.point + 1
  point_is = ap (λ (m : Position). m.point) on.machine

  machine_is : new.machine ≡ gone_to new.machine.point old.machine
  machine_is =
      on.machine
      ∙ ap (λ (s : Stand). gone_to (mid.machine.point + 1) s.machine) h.same
      ∙ ap (λ f. record (gone_to (mid.machine.point + 1) old.machine) { oldest = f }) (raised_twice old.machine.history mid.machine.point old.machine.oldest)
      ∙ ap (λ j. gone_to j old.machine) (sym point_is)

  came_is : before ≡ from_below input old new.machine.point
  came_is =
      let e : mid.machine.point ≡ new.machine.point - 1 = let p = point_is in omega arith in
      on.came ∙ ap (λ (x : Snapshot). seen x.state) at_mid.holds ∙ ap (λ (s : Stand). seen (here input s.machine).state) h.same
      ∙ ap (λ j. seen (at (trace_of input old.machine) j).state) e

  -- the test that is made there is that of the search
  passed_by : wanted input Forward goal old new.machine.point ≡ false
  passed_by =
      let s : new.stops ≡ old.stops = on.stops ∙ ap (λ (s : Stand). s.stops) h.same in
      let d : depth ≡ depth_of (here input old.machine) = a.depth_is ∙ ap depth_of start.holds in
      let b = came_is in
      let e : held_new ≡ at (trace_of input old.machine) new.machine.point = at_new.holds ∙ ap (here input) machine_is in
      sym (a.asked_is ∙ (λ i. sought goal (s i) (d i) (b i) (e i))) ∙ fails

  -- the search goes on from there
  pub halts_on : is_some held_new.over ≡ false → Halts input goal old new
  halts_on open_still =
      let p = point_is in
      let t : number (trace_of input new.machine) ≡ number (trace_of input old.machine) = ap (λ (m : Position). number (trace_of input m)) machine_is in
      let short = not_over input new.machine held_new at_new open_still in
      let f = h.from in
      let s : new.stops ≡ old.stops = on.stops ∙ ap (λ (s : Stand). s.stops) h.same in
      let m : new.made ≡ old.made = on.made ∙ ap (λ (s : Stand). s.made) h.same in
      let e = machine_is in
      let P : ℕ → Type 0 = λ i. old.machine.point < i → wanted input Forward goal old i ≡ false in
      let passed : (i : ℕ) → i < mid.machine.point + 1 → P i = λ i b l. h.first i l (omega arith) in
      let last : P (mid.machine.point + 1) = λ _. ap (wanted input Forward goal old) (sym p) ∙ passed_by in
      record {
        from = omega arith;
        short = omega arith;
        first = λ i l m. below_more P (mid.machine.point + 1) passed last i (omega arith) l;
        same = ap (λ (p : Position × List Entry × ℕ). record { machine = p.0; stops = p.1; made = p.2 }) (λ i. (e i, s i, m i));
      }

-- the sets up to i among those up to k
upto_cons : (i k : ℕ) (x : SetAt) (xs : List SetAt) (b c : Bool) → leb x.point k ≡ b → leb x.point i ≡ c → i ≤ k → upto i (upto k xs) ≡ upto i xs → upto i (upto k (x ∷ xs)) ≡ upto i (x ∷ xs)
upto_cons i k x xs true true p q h e = rw p (rw q (ap (λ ys. x ∷ ys) e))
upto_cons i k x xs true false p q h e = rw p (rw q e)
upto_cons i k x xs false true p q h e = absurd (grind (arith, nat_tests))
upto_cons i k x xs false false p q h e = rw p (rw q e)

pub upto_twice : (i k : ℕ) (xs : List SetAt) → i ≤ k → upto i (upto k xs) ≡ upto i xs
upto_twice i k [] h = refl
upto_twice i k (x ∷ xs) h = upto_cons i k x xs (leb x.point k) (leb x.point i) refl refl h (upto_twice i k xs h)

-- the sets of a point j among those up to k
at_cons : (j k : ℕ) (x : SetAt) (xs : List SetAt) (b c : Bool) → leb x.point k ≡ b → eqb x.point j ≡ c → j ≤ k → sets_at (upto k xs) j ≡ sets_at xs j → sets_at (upto k (x ∷ xs)) j ≡ sets_at (x ∷ xs) j
at_cons j k x xs true true p q h e = rw p (rw q (ap (λ ys. x ∷ ys) e))
at_cons j k x xs true false p q h e = rw p (rw q e)
at_cons j k x xs false true p q h e = absurd (grind (arith, nat_tests))
at_cons j k x xs false false p q h e = rw p (rw q e)

pub sets_upto : (j k : ℕ) (xs : List SetAt) → j ≤ k → sets_at (upto k xs) j ≡ sets_at xs j
sets_upto j k [] h = refl
sets_upto j k (x ∷ xs) h = at_cons j k x xs (leb x.point k) (eqb x.point j) refl refl h (sets_upto j k xs h)

-- what stands in a list, by what begins it
get_take : {A : Type 0} (xs : List A) (k i : ℕ) → i < k → slice_get (take k xs) i ≡ slice_get xs i
get_take [] zero i h = refl
get_take [] (suc k) i h = refl
get_take (x ∷ xs) zero i h = absurd (omega arith)
get_take (x ∷ xs) (suc k) zero h = refl
get_take (x ∷ xs) (suc k) (suc i) h = get_take xs k i (omega arith)

-- what two traces hold at a point that both have
same_held : (t u : Trace) (points : List Point) (i : ℕ) → i < length points → held_or u (slice_get points i) ≡ held_or t (slice_get points i)
same_held t u [] i h = absurd (omega arith)
same_held t u (p ∷ points) zero h = refl
same_held t u (p ∷ points) (suc i) h = same_held t u points i (omega arith)

agreed_below : (t u : Trace) (i : ℕ) → take (i + 1) t.run.points ≡ take (i + 1) u.run.points → i < length t.run.points → at u i ≡ at t i
agreed_below t u i same h =
    let e : slice_get u.run.points i ≡ slice_get t.run.points i =
    sym (get_take u.run.points (i + 1) i (omega arith)) ∙ (ap (λ (xs : List Point). slice_get xs i) (sym same) ∙ get_take t.run.points (i + 1) i (omega arith)) in
    ap (held_or u) e ∙ same_held t u t.run.points i h

-- a trace that agrees with another one below i + 1 has its point i, or its ending there
at_agreed : (t u : Trace) (i : ℕ) → SetsAgreeBelow (i + 1) t u → at u i ≡ at t i
at_agreed t u i agree = elim (leb_tells (number t) (i + 1)) [
  | inl h ↦ ap (λ (x : Trace). at x i) (agree.1 h.1)
  | inr h ↦ agreed_below t u i agree.0 (let l = h.1 in omega arith)
]

-- going back to a point, what stands there stays
trace_back : SetsLawBelow → (input : Input) (m : Position) (i : ℕ) → at (trace_of input (back_at i m)) i ≡ at (trace_of input m) i
unfolding trace_under
trace_back law input m i =
    at_agreed (trace_of input m) (trace_of input (back_at i m)) i
    (law m.program m.settings (record { input = input; sets = m.sets; steps = m.steps }) (upto i m.sets) (i + 1) (λ j h. sym (sets_upto j i m.sets (omega arith))))

-- two ways back are one
pub back_twice : (old mid new : Stand) → mid ≡ record old { machine = back_at mid.machine.point old.machine } → new.machine ≡ back_at (mid.machine.point - 1) mid.machine
    → new.stops ≡ mid.stops → new.made ≡ mid.made → new ≡ record old { machine = back_at new.machine.point old.machine }
back_twice old mid new same to stops made =
    let p : new.machine.point ≡ mid.machine.point - 1 = ap (λ (m : Position). m.point) to in
    let m : new.machine ≡ back_at new.machine.point old.machine =
    to
    ∙ ap (λ (s : Stand). back_at (mid.machine.point - 1) s.machine) same
    ∙ ap (λ (e : List SetAt). record old.machine { point = mid.machine.point - 1; sets = e }) (upto_twice (mid.machine.point - 1) mid.machine.point old.machine.sets (omega arith))
    ∙ ap (λ j. back_at j old.machine) (sym p) in
    let s : new.stops ≡ old.stops = stops ∙ ap (λ (s : Stand). s.stops) same in
    let n : new.made ≡ old.made = made ∙ ap (λ (s : Stand). s.made) same in
    ap (λ (p : Position × List Entry × ℕ). record { machine = p.0; stops = p.1; made = p.2 }) (λ i. (m i, s i, n i))

pub back_keeps : (old mid : Stand) (new : Position) → mid ≡ record old { machine = back_at mid.machine.point old.machine } → new ≡ back_at (mid.machine.point - 1) mid.machine
    → mid.machine.oldest < mid.machine.point → old.machine.oldest ≤ new.point
back_keeps old mid new same to room =
    let o : mid.machine.oldest ≡ old.machine.oldest = ap (λ (s : Stand). s.machine.oldest) same in
    let p : new.point ≡ mid.machine.point - 1 = ap (λ (m : Position). m.point) to in
    omega arith

-- a session on its way back: nothing is found yet between
pub record Backs (input : Input) (goal : Goal) (old now : Stand) (before : Observed) : Type 0 where
  pub below : now.machine.point < old.machine.point
  pub kept : old.machine.oldest ≤ now.machine.point
  pub first : (i : ℕ) → now.machine.point < i → i < old.machine.point → wanted input Back goal old i ≡ false
  pub same : now ≡ record old { machine = back_at now.machine.point old.machine }
  pub came : before ≡ from_above input old now.machine.point

module _ (law : SetsLawBelow) (input : Input) (goal : Goal) (old mid : Stand) (held_old held_mid : Snapshot) (before : Observed) (depth : ℕ) (asked : Bool)
    (start : Stands input old.machine held_old) (h : Backs input goal old mid before) (at_mid : Stands input mid.machine held_mid) (a : Asked goal mid depth before held_old held_mid asked) where
  here_back : held_mid ≡ at (trace_of input old.machine) mid.machine.point
  here_back = at_mid.holds ∙ ap (λ (s : Stand). here input s.machine) h.same ∙ trace_back law input old.machine mid.machine.point

  tested_back : asked ≡ wanted input Back goal old mid.machine.point
  tested_back =
      let s : mid.stops ≡ old.stops = ap (λ (s : Stand). s.stops) h.same in
      let d : depth ≡ depth_of (here input old.machine) = a.depth_is ∙ ap depth_of start.holds in
      let b = h.came in
      let e = here_back in
      a.asked_is ∙ (λ i. sought goal (s i) (d i) (b i) (e i))

  pub returns_found : asked ≡ true → Returns input goal old mid
  returns_found holds =
      let b = h.below in
      record {
        last = record {
          below = λ _. b;
          within = h.kept;
          upmost = omega arith;
          first = h.first;
          found = λ _. sym tested_back ∙ holds;
        };
        same = h.same;
      }

  pub found_is : (r : Bool) → asked ≡ r → r ≡ is_found input goal old mid.machine.point
  found_is r e =
      let b : ltb mid.machine.point old.machine.point ≡ true = let l = h.below in grind (arith, nat_tests) in
      sym e ∙ tested_back ∙ sym (ap (λ b. b && wanted input Back goal old mid.machine.point) b)

  -- one step further back
  pub backs_on : (new : Stand) (came : Observed) → asked ≡ false → mid.machine.oldest < mid.machine.point
      → new.machine ≡ back_at (mid.machine.point - 1) mid.machine → new.stops ≡ mid.stops → new.made ≡ mid.made → came ≡ seen held_mid.state → Backs input goal old new came
  backs_on new came fails room to stops made from =
      let b = h.below in
      let o : mid.machine.oldest ≡ old.machine.oldest = ap (λ (s : Stand). s.machine.oldest) h.same in
      let p : new.machine.point ≡ mid.machine.point - 1 = ap (λ (m : Position). m.point) to in
      let above : mid.machine.point ≡ new.machine.point + 1 = omega arith in
      record {
        below = omega arith;
        kept = omega arith;
        first = λ i l u. elim (leb_tells i mid.machine.point) [
          | inl t ↦ (let level : i ≡ mid.machine.point = (let le = t.1 in omega arith) in ap (wanted input Back goal old) level ∙ (sym tested_back ∙ fails))
          | inr t ↦ h.first i t.1 u
        ];
        same = back_twice old mid new h.same to stops made;
        came = from ∙ ap (λ (x : Snapshot). seen x.state) here_back ∙ ap (λ j. seen (at (trace_of input old.machine) j).state) above;
      }
