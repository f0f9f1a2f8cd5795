-- Where a machine stands, its code's run has reached.
use Rattle.std.proofs.Common.{◌≡◌, ℕ, ◌+◌, false, List, length, Option, None, Some, sym, ap, ◌∙◌, subst}
use Rattle.rawk_value.specs.Values.{Bytes}
use Rattle.rawk_devices.specs.Inputs.{Input}
use Rattle.rawk_store.specs.State.{State}
use Rattle.rawk_code.specs.Actions.{Point, Run, Ending, Given, SetAt}
use Rattle.rawk_code.specs.Trace.{site_at_end}
use Rattle.rawk_code.specs.Machine.{Going, Over, step}
use Rattle.rawk_code.specs.Correct.{first, places_of}
use Rattle.rawk_code.specs.Steps.{steps_add}
use Rattle.rawk_steps.specs.Points.{point_step}
use Rattle.rawk_machine.specs.Standing.{Standing, Ground, Moment, StandsAt, Arrived, HasReached, IsAt, run_under, whole, run_at, config_at, SiteFits, ground_of, moment_of}

-- what was reached, by how the run ended
pub record ReachedBy (ground : Ground) (sets : List SetAt) (moment : Moment) (ending : Option Ending) (earlier : List Point) (now : State) : Type 0 where
  pub count : ℕ
  pub reached : run_under ground sets count ≡ config_at ending moment.place moment.operands moment.keys moment.returns moment.phase (run_at ending moment.site earlier now)
  pub site : SiteFits ending moment.site (run_at ending moment.site earlier now)

pub reached_by : (ground : Ground) (sets : List SetAt) (point : ℕ) (moment : Moment) (now : State) (ending : Option Ending) (count at : ℕ) (earlier : List Point) (state : State) →
    run_under ground sets count ≡ config_at ending at moment.operands moment.keys moment.returns moment.phase (record { points = earlier; state = state }) →
    Arrived ending ground sets point moment.place moment.site now at earlier state → length earlier ≡ point → ReachedBy ground sets moment ending earlier now
reached_by ground sets point moment now None count at earlier state pending (there, place, free, is) number =
    let given : Given = record { input = ground.input; sets = sets; steps = ground.steps } in
    let code = ground.code in
    let run : Run = record { points = earlier; state = state } in
    let here = Going at moment.operands moment.keys moment.returns moment.phase run in
    record {
      count = count + 1;
      reached = steps_add given code.instrs (places_of code) count 1 (first code ground.settings)
          ∙ ap (step given code.instrs (places_of code)) pending
          ∙ point_step code given at moment.operands moment.keys moment.returns moment.phase run moment.site point false there number free
          ∙ ap (λ (s : State). Going (at + 1) moment.operands moment.keys moment.returns moment.phase (run_at None moment.site earlier s)) (sym is)
          ∙ ap (λ (p : ℕ). Going p moment.operands moment.keys moment.returns moment.phase (run_at None moment.site earlier now)) (sym place);
      site = tt;
    }
reached_by ground sets point moment now (Some e) count at earlier state pending (is, site) number = record {
  count = count;
  reached = pending ∙ ap (λ (s : State). Over e (record { points = earlier; state = s })) (sym is);
  site = ap (λ (s : State). site_at_end e (record { points = earlier; state = s })) is ∙ site;
}

pub stands_reached : (ground : Ground) (sets : List SetAt) (point : ℕ) (moment : Moment) (gone handed : Bytes) → (at : StandsAt ground sets point moment gone handed) → ReachedBy ground sets moment moment.ending at.earlier (whole gone handed moment.state)
stands_reached ground sets point moment gone handed at = reached_by ground sets point moment (whole gone handed moment.state) moment.ending at.count at.at at.earlier at.state at.pending at.arrived at.number

pub has_reached : {S : Type 0} (machine : Standing S) (input : Input) (gone handed : Bytes) → IsAt machine input gone handed → HasReached machine input gone handed
has_reached machine input gone handed at =
    let r = stands_reached (ground_of machine input) machine.sets machine.point (moment_of machine) gone handed at in
    record { count = r.count; earlier = at.earlier; reached = r.reached; number = at.number; site = r.site }

-- with a state that is the same with what was dropped and given
pub stands_as : (ground : Ground) (sets : List SetAt) (point : ℕ) (m : Moment) (gone handed gone2 told2 : Bytes) (s : State) → whole gone2 told2 s ≡ whole gone handed m.state → StandsAt ground sets point m gone handed → StandsAt ground sets point (record m { state = s }) gone2 told2
stands_as ground sets point m gone handed gone2 told2 s e at = record {
  count = at.count;
  at = at.at;
  earlier = at.earlier;
  state = at.state;
  pending = at.pending;
  arrived = subst (λ (x : State). Arrived m.ending ground sets point m.place m.site x at.at at.earlier at.state) (sym e) at.arrived;
  number = at.number;
}
