-- The laws of the limit, of the sets and of the output, of a code's run.
use Rattle.std.proofs.Common.{◌≡◌, ℕ, zero, suc, ◌+◌, ◌<◌, ◌≤◌, ◌≢◌, ◌⊎◌, inl, inr, List, [], ◌∷◌, ◌++◌, length, take, Some, refl, sym, ap, ◌∙◌, subst, arith, length-append, append_assoc}
use Rattle.std.specs.Prelude.{slice_get}
use Rattle.std.proofs.Math.Seq.{take-append_seam}
use Rattle.std.proofs.lemmas.List.{take-append-le}
use Rattle.std.proofs.lemmas.Bool.{cases_eq, cases_lt}
use Rattle.std.proofs.lemmas.Option.{slice_get_within}
use Rattle.rawk_devices.specs.Inputs as inputs
use Rattle.rawk_value.specs.Values.{Bytes}
use Rattle.rawk_code.specs.declared.code.Instr.{Instr}
use Rattle.rawk_code.specs.Actions.{Point, Run, Ending, Limited, SetAt, sets_at, all_set, Given}
use Rattle.rawk_code.specs.Machine.{Places, Config, Going, Over, step, steps}
use Rattle.rawk_code.specs.Trace.{Trace}
use Rattle.rawk_code.specs.Laws.{IsBeginning, IsLimited, LimitAgrees, SetsAgreeBelow, OutputGrows}
use Rattle.rawk_code.specs.Steps.{beginning_same, beginning_on, run_of, IsFree, Keeps, with_point, all_set_same, steps_grow, over_stays, given_of, Quiet, Reaches, kind_of, enters, stops}

abbrev points_of : Config → List Point
points_of c = (run_of c).points

ending_same : (a b : Ending) (r s : Run) → Over a r ≡ Over b s → a ≡ b
ending_same a b r s e = cc

run_same : (a b : Ending) (r s : Run) → Over a r ≡ Over b s → r ≡ s
run_same a b r s e = cc

trace_same : (t u : Trace) → Over u.ending u.run ≡ Over t.ending t.run → u ≡ t
trace_same t u e =
    let a = ending_same u.ending t.ending u.run t.run e in
    let b = run_same u.ending t.ending u.run t.run e in
    ap (λ x. let v : Trace = record { ending = x; run = u.run } in v) a ∙ ap (λ x. let v : Trace = record { ending = t.ending; run = x } in v) b

module _ (input : inputs.Input) (code : List Instr) (fin : Places) where
  -- the points and the rest that stand at the end of a run behind a point that was reached
  behind : (sets : List SetAt) (n m : ℕ) (c : Config) (r : Reaches input code fin c) (t : Trace) → length r.run.points ≢ n → steps (given_of input code fin sets n) code fin (suc m) c ≡ Over t.ending t.run → (rest : List Point) × (t.run.points ≡ r.run.points ++ rest) × (0 < length rest)
  behind sets n m c r t ne e =
      let w = with_point sets r.site r.run in
      let new : List Point = record { site = r.site; state = w.state } ∷ [] in
      let d = step (given_of input code fin sets n) code fin c in
      let grown = (steps_grow (given_of input code fin sets n) code fin m d).points in
      let first : points_of d ≡ r.run.points ++ new = ap points_of (enters input code fin sets n c r ne) ∙ ap (λ x. x.points) (r.run_next w) in
      (new ++ grown.0, ap points_of (sym e) ∙ grown.1 ∙ ap (λ l. l ++ grown.0) first ∙ append_assoc r.run.points new grown.0, omega (arith, length-append new grown.0))

  -- one more step of the limit
  pub limit_from : (sets : List SetAt) (n m : ℕ) (c : Config) (t u : Trace) → IsFree c → length (points_of c) ≤ n → steps (given_of input code fin sets n) code fin m c ≡ Over t.ending t.run → steps (given_of input code fin sets (n + 1)) code fin m c ≡ Over u.ending u.run → LimitAgrees n t u
  limit_from sets n zero c t u free le e f = (λ limit. absurd (subst IsFree e free limit), λ not_met. trace_same t u (sym f ∙ e))
  limit_from sets n (suc m) c t u free le e f =
      go (λ d ok low p q. limit_from sets n m d t u ok low (ap (steps few code fin m) (sym p) ∙ e) (ap (steps more code fin m) (sym q) ∙ f)) (kind_of input code fin c free)
    where
      few : Given
      few = given_of input code fin sets n

      more : Given
      more = given_of input code fin sets (n + 1)

      -- the first argument: both go on from one configuration
      go : ((d : Config) → IsFree d → length (points_of d) ≤ n → step few code fin c ≡ d → step more code fin c ≡ d → LimitAgrees n t u) → Quiet input code fin c ⊎ Reaches input code fin c → LimitAgrees n t u
      go together (inl q) = together q.to q.free (omega (arith, ap length q.keeps.points)) (q.goes sets n) (q.goes sets (n + 1))
      go together (inr r) = by_limit (cases_eq (length r.run.points) n)
        where
          size : length r.run.points ≡ length (points_of c)
          size = ap length r.keeps.points

          past : length r.run.points ≢ n + 1
          past = λ x. omega (arith, size)

          w : Run
          w = with_point sets r.site r.run

          long : length w.points ≡ length r.run.points + 1
          long = length-append r.run.points (record { site = r.site; state = w.state } ∷ [])

          by_limit : (length r.run.points ≡ n) ⊎ (length r.run.points ≡ n → ⊥) → LimitAgrees n t u
          by_limit (inr ne) = together (r.next w) (r.free w) (omega (arith, ap (λ x. length x.points) (r.run_next w), long, size)) (enters input code fin sets n c r ne) (enters input code fin sets (n + 1) c r past)
          by_limit (inl eq) =
              let end : Over t.ending t.run ≡ Over (Limited r.site) r.run = sym e ∙ ap (steps few code fin m) (stops input code fin sets n c r eq) ∙ over_stays few code fin m (Limited r.site) r.run in
              let a = ending_same t.ending (Limited r.site) t.run r.run end in
              let b = run_same t.ending (Limited r.site) t.run r.run end in
              let rest = behind sets (n + 1) m c r u past f in
              (λ limit. (ap (λ x. length x.points) b ∙ eq, ap (take n) rest.1 ∙ ap (λ k. take k (r.run.points ++ rest.0)) (sym eq) ∙ take-append_seam r.run.points rest.0 ∙ ap (λ x. x.points) (sym b)), λ not_met. absurd (not_met (subst IsLimited (sym a) tt)))

  -- sets at later points
  pub sets_from : (x y : List SetAt) (n k : ℕ) → ((j : ℕ) → j < k → sets_at x j ≡ sets_at y j) → (m : ℕ) (c : Config) (t u : Trace) → IsFree c → steps (given_of input code fin x n) code fin m c ≡ Over t.ending t.run → steps (given_of input code fin y n) code fin m c ≡ Over u.ending u.run → SetsAgreeBelow k t u
  sets_from x y n k same zero c t u free e f =
      let both : Over u.ending u.run ≡ Over t.ending t.run = sym f ∙ e in
      (ap (λ r. take k r.points) (sym (run_same u.ending t.ending u.run t.run both)), λ low. trace_same t u both)
  sets_from x y n k same (suc m) c t u free e f =
      go (λ d ok p q. sets_from x y n k same m d t u ok (ap (steps left code fin m) (sym p) ∙ e) (ap (steps right code fin m) (sym q) ∙ f)) (kind_of input code fin c free)
    where
      left : Given
      left = given_of input code fin x n

      right : Given
      right = given_of input code fin y n

      go : ((d : Config) → IsFree d → step left code fin c ≡ d → step right code fin c ≡ d → SetsAgreeBelow k t u) → Quiet input code fin c ⊎ Reaches input code fin c → SetsAgreeBelow k t u
      go together (inl q) = together q.to q.free (q.goes x n) (q.goes y n)
      go together (inr r) = by_limit (cases_eq (length r.run.points) n) (cases_lt (length r.run.points) k)
        where
          v : Run
          v = with_point x r.site r.run

          w : Run
          w = with_point y r.site r.run

          by_limit : (length r.run.points ≡ n) ⊎ (length r.run.points ≡ n → ⊥) → (length r.run.points < k) ⊎ (k ≤ length r.run.points) → SetsAgreeBelow k t u
          by_limit (inl eq) b =
              let p : Over t.ending t.run ≡ Over (Limited r.site) r.run = sym e ∙ ap (steps left code fin m) (stops input code fin x n c r eq) ∙ over_stays left code fin m (Limited r.site) r.run in
              let q : Over u.ending u.run ≡ Over (Limited r.site) r.run = sym f ∙ ap (steps right code fin m) (stops input code fin y n c r eq) ∙ over_stays right code fin m (Limited r.site) r.run in
              let both : Over u.ending u.run ≡ Over t.ending t.run = q ∙ sym p in
              (ap (λ r. take k r.points) (sym (run_same u.ending t.ending u.run t.run both)), λ low. trace_same t u both)
          by_limit (inr ne) (inl lt) =
              let alike : w ≡ v = ap (λ (l : List SetAt). let s = record (all_set l r.run.state) { here = length r.run.points; site = r.site } in let z : Run = record { points = r.run.points ++ (record { site = r.site; state = s } ∷ []); state = s } in z) (sym (same (length r.run.points) lt)) in
              together (r.next v) (r.free v) (enters input code fin x n c r ne) (enters input code fin y n c r ne ∙ ap r.next alike)
          by_limit (inr ne) (inr le) =
              let p = behind x n m c r t ne e in
              let q = behind y n m c r u ne f in
              (ap (take k) p.1 ∙ take-append-le k r.run.points p.0 le ∙ sym (ap (take k) q.1 ∙ take-append-le k r.run.points q.0 le), λ low. absurd (omega (arith, ap length p.1, length-append r.run.points p.0, p.2)))

-- the output only grows
last_or_before : (ps : List Point) (x : Point) (j : ℕ) (a : Point) → slice_get (ps ++ x ∷ []) j ≡ Some a → (slice_get ps j ≡ Some a) ⊎ ((a ≡ x) × (j ≡ length ps))
last_or_before [] x zero a e = let same : a ≡ x = cc in inr (same, refl)
last_or_before [] x (suc j) a e = absurd (cc)
last_or_before (p ∷ ps) x zero a e = inl e
last_or_before (p ∷ ps) x (suc j) a e = go (last_or_before ps x j a e)
  where
    go : (slice_get ps j ≡ Some a) ⊎ ((a ≡ x) × (j ≡ length ps)) → (slice_get (p ∷ ps) (suc j) ≡ Some a) ⊎ ((a ≡ x) × (suc j ≡ length (p ∷ ps)))
    go (inl h) = inl h
    go (inr h) = inr (h.0, ap suc h.1)

point_grows : (ps : List Point) (x : Point) (last now : Bytes) → OutputGrows ps last → x.state.output ≡ now → now ≡ last → OutputGrows (ps ++ x ∷ []) now
point_grows ps x last now old is same =
    (λ j k a b le ha hb. pairs j k a b le (last_or_before ps x j a ha) (last_or_before ps x k b hb), λ j a ha. singles j a (last_or_before ps x j a ha))
  where
    to_now : (a : Point) → IsBeginning a.state.output last → IsBeginning a.state.output now
    to_now a h = subst (IsBeginning a.state.output) (sym same) h

    from_last : (a : Point) → a ≡ x → a.state.output ≡ now
    from_last a e = ap (λ p. p.state.output) e ∙ is

    singles : (j : ℕ) (a : Point) → (slice_get ps j ≡ Some a) ⊎ ((a ≡ x) × (j ≡ length ps)) → IsBeginning a.state.output now
    singles j a (inl h) = to_now a (old.1 j a h)
    singles j a (inr h) = subst (IsBeginning a.state.output) (from_last a h.0) (beginning_same a.state.output)

    pairs : (j k : ℕ) (a b : Point) → j ≤ k → (slice_get ps j ≡ Some a) ⊎ ((a ≡ x) × (j ≡ length ps)) → (slice_get ps k ≡ Some b) ⊎ ((b ≡ x) × (k ≡ length ps)) → IsBeginning a.state.output b.state.output
    pairs j k a b le (inl f) (inl g) = old.0 j k a b le f g
    pairs j k a b le (inl f) (inr g) = subst (IsBeginning a.state.output) (sym (from_last b g.0)) (to_now a (old.1 j a f))
    pairs j k a b le (inr f) (inl g) = let within = slice_get_within ps k b g in absurd (omega (arith, f.1, le, within))
    pairs j k a b le (inr f) (inr g) = subst (IsBeginning a.state.output) (from_last a f.0 ∙ sym (from_last b g.0)) (beginning_same a.state.output)

abbrev Ordered : Run → Type 0
Ordered run = OutputGrows run.points run.state.output

keeps_ordered : (run now : Run) → Keeps run now → Ordered run → Ordered now
keeps_ordered run now keeps old =
    subst (λ ps. OutputGrows ps now.state.output) (sym keeps.points) (old.0, λ j a h. beginning_on a.state.output run.state.output now.state.output (old.1 j a h) keeps.output)

step_ordered : (given : Given) (code : List Instr) (fin : Places) (c : Config) → IsFree c → Ordered (run_of c) → Ordered (run_of (step given code fin c))
step_ordered given code fin c free old = go (kind_of given.input code fin c free)
  where
    go : Quiet given.input code fin c ⊎ Reaches given.input code fin c → Ordered (run_of (step given code fin c))
    go (inl q) = subst (λ d. Ordered (run_of d)) (sym (q.goes given.sets given.steps)) (keeps_ordered (run_of c) (run_of q.to) q.keeps old)
    go (inr r) = by_limit (cases_eq (length r.run.points) given.steps)
      where
        mid : Ordered r.run
        mid = keeps_ordered (run_of c) r.run r.keeps old

        by_limit : (length r.run.points ≡ given.steps) ⊎ (length r.run.points ≡ given.steps → ⊥) → Ordered (run_of (step given code fin c))
        by_limit (inl eq) = subst (λ d. Ordered (run_of d)) (sym (stops given.input code fin given.sets given.steps c r eq)) mid
        by_limit (inr ne) =
            let w = with_point given.sets r.site r.run in
            subst (λ d. Ordered (run_of d)) (sym (enters given.input code fin given.sets given.steps c r ne)) (subst Ordered (sym (r.run_next w))
            (point_grows r.run.points (record { site = r.site; state = w.state }) r.run.state.output w.state.output mid refl (all_set_same (sets_at given.sets (length r.run.points)) r.run.state)))

pub ordered : (given : Given) (code : List Instr) (fin : Places) (m : ℕ) (c : Config) → Ordered (run_of c) → Ordered (run_of (steps given code fin m c))
ordered given code fin zero c old = old
ordered given code fin (suc m) (Going pc ops keys rets phase run) old = ordered given code fin m (step given code fin (Going pc ops keys rets phase run)) (step_ordered given code fin (Going pc ops keys rets phase run) tt old)
ordered given code fin (suc m) (Over ending run) old = ordered given code fin m (Over ending run) old
