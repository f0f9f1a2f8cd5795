-- A machine that stands at a point of its code's run stands at that point of the program's trace.
use Rattle.std.proofs.Common.{◌≡◌, ℕ, ◌+◌, ◌-◌, ◌≤◌, ◌⊎◌, inl, inr, suc, zero, List, [], ◌∷◌, ◌++◌, length, Option, None, Some, refl, sym, ap, ◌∙◌, subst, arith, append_assoc}
use Rattle.std.specs.Prelude.{slice_get}
use Rattle.rawk_tree.specs.declared.tree.Program.{Program}
use Rattle.rawk_value.specs.Values.{Bytes}
use Rattle.rawk_devices.specs.Inputs.{Input}
use Rattle.rawk_store.specs.State.{State}
use Rattle.rawk_code.specs.Listing.{Listing}
use Rattle.rawk_code.specs.Laws.{IsBeginning}
use Rattle.rawk_code.specs.Steps.{run_of, steps_grow, steps_add, over_later}
use Rattle.rawk_code.specs.Actions.{Point, Run, Ending, Given}
use Rattle.rawk_code.specs.Trace.{FirstValue, Trace, trace, site_at_end}
use Rattle.rawk_code.specs.Machine.{Config, Going, Over, steps}
use Rattle.rawk_code.specs.Correct.{first, places_of, after, CodeRun, CodeOf}
use Rattle.rawk_machine.specs.Reached.{has_reached}
use Rattle.rawk_machine.specs.Standing.{Standing, HasReached, IsAt, IsPointOf, IsEndOf, StandsIn, stands_by, given_of, whole, whole_state, run_at, config_at, SiteFits}

-- of two numbers one is at most the other
either_le : (m n : ℕ) → (m ≤ n) ⊎ (n ≤ m)
either_le zero n = inl (omega arith)
either_le (suc m) zero = inr (omega arith)
either_le (suc m) (suc n) = elim (either_le m n) [ inl h ↦ inl (omega arith) | inr h ↦ inr (omega arith) ]

-- the element behind a list
pub element_behind : {A : Type 0} (a : List A) (x : A) (rest : List A) (k : ℕ) → length a ≡ k → slice_get (a ++ x ∷ rest) k ≡ Some x
element_behind [] x rest zero e = refl
element_behind [] x rest (suc k) e = absurd (omega arith)
element_behind (b ∷ a) x rest zero e = absurd (omega arith)
element_behind (b ∷ a) x rest (suc k) e = element_behind a x rest k (omega arith)

-- a run that goes on from a place has its points and more
later_points : (given : Given) (code : Listing) (settings : List FirstValue) (m n : ℕ) (c : Config) (ending : Ending) (run : Run) → after code settings given m ≡ c → after code settings given n ≡ Over ending run → ((e : Ending) (r : Run) → c ≡ Over e r → ⊥) → IsBeginning (run_of c).points run.points
later_points given code settings m n c ending run here end going = elim (either_le m n) [
  | inl h ↦
      let split : n ≡ m + (n - m) = omega arith in
      let goes : steps given code.instrs (places_of code) (n - m) c ≡ Over ending run =
      ap (steps given code.instrs (places_of code) (n - m)) (sym here) ∙ sym (steps_add given code.instrs (places_of code) m (n - m) (first code settings)) ∙ ap (after code settings given) (sym split) ∙ end in
      subst (λ (d : Config). IsBeginning (run_of c).points (run_of d).points) goes (steps_grow given code.instrs (places_of code) (n - m) c).points
  | inr h ↦ absurd (going ending run (sym here ∙ over_later given code.instrs (places_of code) n m (first code settings) ending run h end))
]

-- two endings of a run are one
same_end : (given : Given) (code : Listing) (settings : List FirstValue) (m n : ℕ) (e f : Ending) (r s : Run) → after code settings given m ≡ Over e r → after code settings given n ≡ Over f s → Over e r ≡ Over f s
same_end given code settings m n e f r s here end = elim (either_le m n) [
  | inl h ↦ sym (over_later given code.instrs (places_of code) m n (first code settings) e r h here) ∙ end
  | inr h ↦ sym here ∙ over_later given code.instrs (places_of code) n m (first code settings) f s h end
]

over_ending : (e f : Ending) (r s : Run) → Over e r ≡ Over f s → e ≡ f
over_ending e f r s h = cc

over_run : (e f : Ending) (r s : Run) → Over e r ≡ Over f s → r ≡ s
over_run e f r s h = cc

point_in : {S : Type 0} (t : Trace) (machine : Standing S) (input : Input) (gone handed : Bytes) → CodeRun machine.code machine.settings (given_of machine input) t → (at : HasReached machine input gone handed) → machine.ending ≡ None → IsPointOf t machine handed
point_in t machine input gone handed run at going =
    let s : State = whole_state machine gone handed in
    let point : Point = record { site = machine.site; state = s } in
    let c : Config = Going machine.place machine.operands machine.keys machine.returns machine.phase (record { points = at.earlier ++ point ∷ []; state = s }) in
    let here : after machine.code machine.settings (given_of machine input) at.count ≡ c =
    at.reached ∙ ap (λ (e : Option Ending). config_at e machine.place machine.operands machine.keys machine.returns machine.phase (run_at e machine.site at.earlier s)) going in
    let more = later_points (given_of machine input) machine.code machine.settings at.count run.0 c t.ending t.run here run.1 (λ e r h. cc) in
    record {
      state = s;
      point = ap (λ (ps : List Point). slice_get ps machine.point) (more.1 ∙ append_assoc at.earlier (point ∷ []) more.0) ∙ element_behind at.earlier point more.0 machine.point at.number;
      output = refl;
    }

end_in : {S : Type 0} (t : Trace) (e : Ending) (machine : Standing S) (input : Input) (gone handed : Bytes) → CodeRun machine.code machine.settings (given_of machine input) t → (at : HasReached machine input gone handed) → machine.ending ≡ Some e → IsEndOf t e machine handed
end_in t e machine input gone handed run at over =
    let s : State = whole_state machine gone handed in
    let r : Run = record { points = at.earlier; state = s } in
    let here : after machine.code machine.settings (given_of machine input) at.count ≡ Over e r =
    at.reached ∙ ap (λ (o : Option Ending). config_at o machine.place machine.operands machine.keys machine.returns machine.phase (run_at o machine.site at.earlier s)) over in
    let same = same_end (given_of machine input) machine.code machine.settings at.count run.0 e t.ending r t.run here run.1 in
    let endings : e ≡ t.ending = over_ending e t.ending r t.run same in
    let runs : r ≡ t.run = over_run e t.ending r t.run same in
    let fits : SiteFits (Some e) machine.site r = subst (λ (o : Option Ending). SiteFits o machine.site (run_at o machine.site at.earlier s)) over at.site in
    record {
      ending = sym endings;
      number = ap (λ (x : Run). length x.points) (sym runs) ∙ at.number;
      output = ap (λ (x : Run). x.state.output) (sym runs);
      status = ap (λ (x : Run). x.state.status) (sym runs);
      site = ap (λ (x : Ending). site_at_end x t.run) (sym endings) ∙ ap (λ (x : Run). site_at_end e x) (sym runs) ∙ fits;
    }

-- the machine stands in the trace of the program that its code is of
pub stands_in_trace : {S : Type 0} (p : Program) (machine : Standing S) (input : Input) (gone handed : Bytes) → CodeOf p machine.code → IsAt machine input gone handed → StandsIn (trace p machine.settings (given_of machine input)) machine handed
stands_in_trace {S} p machine input gone handed code at = by_ending machine.ending refl
  where
    by_ending : (o : Option Ending) → machine.ending ≡ o → stands_by o (trace p machine.settings (given_of machine input)) machine handed
    by_ending None is = point_in (trace p machine.settings (given_of machine input)) machine input gone handed (code machine.settings (given_of machine input)) (has_reached machine input gone handed at) is
    by_ending (Some e) is = end_in (trace p machine.settings (given_of machine input)) e machine input gone handed (code machine.settings (given_of machine input)) (has_reached machine input gone handed at) is

whole_none : (s : State) → whole [] [] s ≡ s
whole_none s = let e : 0 + s.consumed ≡ s.consumed = omega arith in ap (λ (c : ℕ). record s { consumed = c }) e

-- the trace's point, or its ending, is the machine's
pub record IsExactly {S : Type 0} (t : Trace) (e : Ending) (machine : Standing S) : Type 0 where
  pub ending : t.ending ≡ e
  pub number : length t.run.points ≡ machine.point
  pub state : t.run.state ≡ machine.state
  pub site : site_at_end t.ending t.run ≡ machine.site

abbrev pub exactly_by : {S : Type 0} → Option Ending → Trace → Standing S → Type 0
exactly_by None t machine = slice_get t.run.points machine.point ≡ Some (record { site = machine.site; state = machine.state })
exactly_by (Some e) t machine = IsExactly t e machine

exact_point : {S : Type 0} (t : Trace) (machine : Standing S) (input : Input) → CodeRun machine.code machine.settings (given_of machine input) t → (at : HasReached machine input [] []) → machine.ending ≡ None → slice_get t.run.points machine.point ≡ Some (record { site = machine.site; state = machine.state })
exact_point t machine input run at going =
    let s : State = whole_state machine [] [] in
    let point : Point = record { site = machine.site; state = s } in
    let c : Config = Going machine.place machine.operands machine.keys machine.returns machine.phase (record { points = at.earlier ++ point ∷ []; state = s }) in
    let here : after machine.code machine.settings (given_of machine input) at.count ≡ c =
    at.reached ∙ ap (λ (e : Option Ending). config_at e machine.place machine.operands machine.keys machine.returns machine.phase (run_at e machine.site at.earlier s)) going in
    let more = later_points (given_of machine input) machine.code machine.settings at.count run.0 c t.ending t.run here run.1 (λ e r h. cc) in
    ap (λ (ps : List Point). slice_get ps machine.point) (more.1 ∙ append_assoc at.earlier (point ∷ []) more.0) ∙ element_behind at.earlier point more.0 machine.point at.number
    ∙ ap (λ (x : State). let p : Point = record { site = machine.site; state = x } in Some p) (whole_none machine.state)

exact_end : {S : Type 0} (t : Trace) (e : Ending) (machine : Standing S) (input : Input) → CodeRun machine.code machine.settings (given_of machine input) t → (at : HasReached machine input [] []) → machine.ending ≡ Some e → IsExactly t e machine
exact_end t e machine input run at over =
    let s : State = whole_state machine [] [] in
    let r : Run = record { points = at.earlier; state = s } in
    let here : after machine.code machine.settings (given_of machine input) at.count ≡ Over e r =
    at.reached ∙ ap (λ (o : Option Ending). config_at o machine.place machine.operands machine.keys machine.returns machine.phase (run_at o machine.site at.earlier s)) over in
    let same = same_end (given_of machine input) machine.code machine.settings at.count run.0 e t.ending r t.run here run.1 in
    let endings : e ≡ t.ending = over_ending e t.ending r t.run same in
    let runs : r ≡ t.run = over_run e t.ending r t.run same in
    let fits : SiteFits (Some e) machine.site r = subst (λ (o : Option Ending). SiteFits o machine.site (run_at o machine.site at.earlier s)) over at.site in
    record {
      ending = sym endings;
      number = ap (λ (x : Run). length x.points) (sym runs) ∙ at.number;
      state = ap (λ (x : Run). x.state) (sym runs) ∙ whole_none machine.state;
      site = ap (λ (x : Ending). site_at_end x t.run) (sym endings) ∙ ap (site_at_end e) (sym runs) ∙ fits;
    }

-- with nothing dropped and nothing given, the state is the trace's
pub exactly_in_trace : {S : Type 0} (p : Program) (machine : Standing S) (input : Input) → CodeOf p machine.code → IsAt machine input [] [] → exactly_by machine.ending (trace p machine.settings (given_of machine input)) machine
exactly_in_trace {S} p machine input code at = by_ending machine.ending refl
  where
    by_ending : (o : Option Ending) → machine.ending ≡ o → exactly_by o (trace p machine.settings (given_of machine input)) machine
    by_ending None is = exact_point (trace p machine.settings (given_of machine input)) machine input (code machine.settings (given_of machine input)) (has_reached machine input [] [] at) is
    by_ending (Some e) is = exact_end (trace p machine.settings (given_of machine input)) e machine input (code machine.settings (given_of machine input)) (has_reached machine input [] [] at) is
