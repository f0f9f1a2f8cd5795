use Rattle.std.proofs.Common.{List, [], length, reverse, inl, refl, ap, sym, subst, arith}
use Rattle.rawk_tape.specs.Tapes.{TapeState, MayBe}
use Rattle.rawk_devices.specs.Inputs.{Input, CountsUp, before}
use Rattle.rawk_store.specs.Groups.{Group}
use Rattle.rawk_history.specs.Steps.{Kept}
use Rattle.rawk_code.specs.Actions.{SetAt}
use Rattle.rawk_machine.specs.Standing.{Ground, StandsAt, AllStood, AllPassed}
use Rattle.rawk_machine.specs.Kept.{moment_in, unsets, pasts}
use Rattle.rawk_store.specs.Layout.{Layout}
use Rattle.rawk_store.specs.Stores.{now_of}
use Rattle.rawk_operands.specs.Moving.{moving_of}
use Rattle.rawk_machine.proofs.Stands.{at_start, come_some, come_first, starts_first}
use Rattle.rawk_value.specs.Values.{Bytes}
use Rattle.rawk_code.specs.Trace.{FirstValue}
use Rattle.rawk_travel.specs.Asking.{Asks}
use Rattle.rawk_machine.specs.Asked.{HasAsked, Unstood}
use Rattle.rawk_machine.proofs.Askings.{asked_first, counted_first}
use Rattle.rawk_machine.proofs.machine.Machine.new.Goals as goal

pub returns-clause-may : goal.returns-clause-may
returns-clause-may g c = λ input may.
    subst (λ (s : g.row.R.Denot). g.R.Source.may_give s input) (ap (λ (t : TapeState g.row.R.Denot). t.source) c.new-tape.ensures)
    (come_first g.R.Source.may_give c.new-tape.result c.step.new.tape input may.kept (ap (λ (t : TapeState g.row.R.Denot). t.bytes) c.new-tape.ensures) c.step.ensures.may may.may may.whole)

pub returns-clause-still : goal.returns-clause-still
returns-clause-still g c = λ gone. come_some g.R.Source.may_give gone g.met.R.Source.gives_some

pub returns-clause-stands : goal.returns-clause-stands
returns-clause-stands g c = λ input may.
    let l = now_of c.in-Ok.parts.1 in
    let starts = starts_first c.args.code c.in-Ok.parts.0 l c.in-Ok.ensures.first.now c.in-Ok.ensures.first.arrays in
    let ground : Ground = record { code = c.args.code; settings = c.in-Ok.parts.0; steps = c.args.steps; input = input } in
    subst (λ (xs : List SetAt). StandsAt ground xs 0 (moment_in (now_of c.forget.new.self)) [] []) (sym c.new.ensures.items)
    (subst (λ (x : Layout). StandsAt ground [] 0 (moment_in x) [] []) (sym c.forget.ensures.now)
    (at_start g.R.Source.may_give c.args.code c.in-Ok.parts.0 c.args.steps c.step.new.tape l (now_of c.step.new.store) input
    starts c.in-Ok-step.ensures.did may.kept may.whole may.may))

pub returns-clause-asks : goal.returns-clause-asks
returns-clause-asks g c = λ input may.
    let l = now_of c.in-Ok.parts.1 in
    let starts = starts_first c.args.code c.in-Ok.parts.0 l c.in-Ok.ensures.first.now c.in-Ok.ensures.first.arrays in
    let empty = ap (λ (t : TapeState g.row.R.Denot). t.bytes) c.new-tape.ensures in
    subst (λ (xs : List SetAt). HasAsked c.args.code c.in-Ok.parts.0 (record { input = input; sets = xs; steps = c.args.steps }) 0 c.step.new.tape.bytes) (sym c.new.ensures.items)
    (asked_first g.R.Source.may_give c.args.code c.in-Ok.parts.0 c.args.steps c.step.new.tape l input starts
    (subst (λ (b : Bytes). Asks g.R.Source.may_give c.args.code b c.step.new.tape (moving_of l)) empty c.step.ensures.asks) may.kept may.whole may.may)

pub returns-clause-counted : goal.returns-clause-counted
returns-clause-counted g c =
    subst (λ (s : g.row.R.Denot). CountsUp (g.R.Source.handed s) (g.R.Source.handed c.step.new.tape.source) (length c.step.new.tape.bytes)) (ap (λ (t : TapeState g.row.R.Denot). t.source) c.new-tape.ensures)
    (counted_first g.R.Source.over g.R.Source.handed c.new-tape.result c.step.new.tape (ap (λ (t : TapeState g.row.R.Denot). t.bytes) c.new-tape.ensures) c.step.ensures.draws)

pub returns-clause-stood : goal.returns-clause-stood
returns-clause-stood g c = λ input may.
    let ground : Ground = record { code = c.args.code; settings = c.in-Ok.parts.0; steps = c.args.steps; input = input } in
    let l = now_of c.forget.new.self in
    record {
      now = returns-clause-stands g c input may;
      unset = subst (λ (gs : List Group). AllStood ground 0 (unsets l c.new.result.items (reverse gs))) (sym c.new-2.ensures.items) tt;
      history = subst (λ (ks : List Kept). AllPassed ground 0 (pasts l c.new.result.items 0 (reverse c.new-2.result.items) ks)) (sym c.requires.empty) tt;
    }

-- memory is refused for the parts: nothing was read
pub returns-in-Err-clause-err : goal.returns-in-Err-clause-err
returns-in-Err-clause-err g c = record { read = []; given = λ rest comes. comes; asked = λ rest comes. inl refl; counted = λ small. omega arith }

-- memory is refused in the first step
pub returns-in-Err-step-clause-err : goal.returns-in-Err-step-clause-err
returns-in-Err-step-clause-err g c =
    let l = now_of c.in-Ok.parts.1 in
    let starts = starts_first c.args.code c.in-Ok.parts.0 l c.in-Ok.ensures.first.now c.in-Ok.ensures.first.arrays in
    let empty = ap (λ (t : TapeState g.row.R.Denot). t.bytes) c.new-tape.ensures in
    let source = ap (λ (t : TapeState g.row.R.Denot). t.source) c.new-tape.ensures in
    let read : Bytes = c.step.new.tape.bytes in
    let asks = subst (λ (b : Bytes). Asks g.R.Source.may_give c.args.code b c.step.new.tape (moving_of l)) empty c.step.ensures.asks in
    let may : (rest : Input) → g.R.Source.may_give c.step.new.tape.source rest → MayBe g.R.Source.may_give c.step.new.tape (before read rest) = λ rest comes. record { rest = rest; comes = comes; whole = refl } in
    subst (λ (s : g.row.R.Denot). Unstood g.R.Source.may_give g.R.Source.handed c.args.code c.args.settings.now c.args.source c.args.steps s) (sym c.into_source.ensures)
    (record {
      read = read;
      given = λ rest comes.
          subst (λ (s : g.row.R.Denot). g.R.Source.may_give s (before read rest)) source
          (come_first g.R.Source.may_give c.new-tape.result c.step.new.tape (before read rest) (before read rest) empty c.step.ensures.may (may rest comes) refl);
      asked = λ rest comes.
          subst (λ (fs : List FirstValue). HasAsked c.args.code fs (record { input = before read rest; sets = []; steps = c.args.steps }) 0 read) c.in-Ok.ensures.settings
          (asked_first g.R.Source.may_give c.args.code c.in-Ok.parts.0 c.args.steps c.step.new.tape l (before read rest) starts asks (before read rest) refl (may rest comes));
      counted =
          subst (λ (s : g.row.R.Denot). CountsUp (g.R.Source.handed s) (g.R.Source.handed c.step.new.tape.source) (length read)) source
          (counted_first g.R.Source.over g.R.Source.handed c.new-tape.result c.step.new.tape empty c.step.ensures.draws);
    })

pub returns-clause-code : goal.returns-clause-code
returns-clause-code g c = refl

pub returns-clause-steps : goal.returns-clause-steps
returns-clause-steps g c = refl

pub returns-clause-point : goal.returns-clause-point
returns-clause-point g c = refl

pub returns-clause-limit : goal.returns-clause-limit
returns-clause-limit g c = refl

pub returns-clause-err : goal.returns-clause-err
returns-clause-err g c = tt

pub returns-in-Err-clause-code : goal.returns-in-Err-clause-code
returns-in-Err-clause-code g c = tt

pub returns-in-Err-clause-settings : goal.returns-in-Err-clause-settings
returns-in-Err-clause-settings g c = tt

pub returns-in-Err-clause-sets : goal.returns-in-Err-clause-sets
returns-in-Err-clause-sets g c = tt

pub returns-in-Err-clause-steps : goal.returns-in-Err-clause-steps
returns-in-Err-clause-steps g c = tt

pub returns-in-Err-clause-point : goal.returns-in-Err-clause-point
returns-in-Err-clause-point g c = tt

pub returns-in-Err-clause-unset : goal.returns-in-Err-clause-unset
returns-in-Err-clause-unset g c = tt

pub returns-in-Err-clause-history : goal.returns-in-Err-clause-history
returns-in-Err-clause-history g c = tt

pub returns-in-Err-clause-limit : goal.returns-in-Err-clause-limit
returns-in-Err-clause-limit g c = tt

pub returns-in-Err-clause-may : goal.returns-in-Err-clause-may
returns-in-Err-clause-may g c = tt

pub returns-in-Err-clause-still : goal.returns-in-Err-clause-still
returns-in-Err-clause-still g c = tt

pub returns-in-Err-clause-stands : goal.returns-in-Err-clause-stands
returns-in-Err-clause-stands g c = tt

pub returns-in-Err-clause-asks : goal.returns-in-Err-clause-asks
returns-in-Err-clause-asks g c = tt

pub returns-in-Err-clause-counted : goal.returns-in-Err-clause-counted
returns-in-Err-clause-counted g c = tt

pub returns-in-Err-clause-stood : goal.returns-in-Err-clause-stood
returns-in-Err-clause-stood g c = tt

pub returns-in-Err-step-clause-code : goal.returns-in-Err-step-clause-code
returns-in-Err-step-clause-code g c = tt

pub returns-in-Err-step-clause-settings : goal.returns-in-Err-step-clause-settings
returns-in-Err-step-clause-settings g c = tt

pub returns-in-Err-step-clause-sets : goal.returns-in-Err-step-clause-sets
returns-in-Err-step-clause-sets g c = tt

pub returns-in-Err-step-clause-steps : goal.returns-in-Err-step-clause-steps
returns-in-Err-step-clause-steps g c = tt

pub returns-in-Err-step-clause-point : goal.returns-in-Err-step-clause-point
returns-in-Err-step-clause-point g c = tt

pub returns-in-Err-step-clause-unset : goal.returns-in-Err-step-clause-unset
returns-in-Err-step-clause-unset g c = tt

pub returns-in-Err-step-clause-history : goal.returns-in-Err-step-clause-history
returns-in-Err-step-clause-history g c = tt

pub returns-in-Err-step-clause-limit : goal.returns-in-Err-step-clause-limit
returns-in-Err-step-clause-limit g c = tt

pub returns-in-Err-step-clause-may : goal.returns-in-Err-step-clause-may
returns-in-Err-step-clause-may g c = tt

pub returns-in-Err-step-clause-still : goal.returns-in-Err-step-clause-still
returns-in-Err-step-clause-still g c = tt

pub returns-in-Err-step-clause-stands : goal.returns-in-Err-step-clause-stands
returns-in-Err-step-clause-stands g c = tt

pub returns-in-Err-step-clause-asks : goal.returns-in-Err-step-clause-asks
returns-in-Err-step-clause-asks g c = tt

pub returns-in-Err-step-clause-counted : goal.returns-in-Err-step-clause-counted
returns-in-Err-step-clause-counted g c = tt

pub returns-in-Err-step-clause-stood : goal.returns-in-Err-step-clause-stood
returns-in-Err-step-clause-stood g c = tt
