use Rattle.std.proofs.Common.{◌≡◌, ℕ, ◌+◌, ◌++◌, List, [], length, reverse, refl, sym, ap, ◌∙◌, subst, arith, Option, None}
use Rattle.rawk_value.specs.declared.value.Value.{Value}
use Rattle.rawk_record.specs.Shown.{Shown}
use Rattle.rawk_store.specs.Groups.{Group}
use Rattle.rawk_history.specs.Steps.{Forth, Kept}
use Rattle.rawk_store.specs.declared.registers.Registers.{Registers}
use Rattle.rawk_store.specs.Stores.{now_of}
use Rattle.rawk_machine.specs.Last.{Last, On, last_of}
use Rattle.rawk_machine.specs.Standing.{Standing, Moment, Past, IsAt, StandsAt, MovesOn, ground_of, given_of, moment_of}
use Rattle.rawk_machine.specs.Kept.{IsPlaced, unsets, pasts, before_of, Chain, Few, LastFits}
use Rattle.rawk_machine.specs.Stood.{standing_of, IsBelow}
use Rattle.rawk_steps.specs.Arrival.{ends_quietly}
use Rattle.rawk_machine.proofs.SetLists.{none_at, ends_below}
use Rattle.rawk_machine.proofs.Chains.{ends_with, fit_here, chain-grown, chain-size, moment-grown, unsets-grown, pasts-grown}
use Rattle.rawk_machine.proofs.Forths.{before-grown, last_fits-grown}
use Rattle.rawk_machine.proofs.Journals.{moved, few_moved}
use Rattle.rawk_machine.proofs.Stands.{at_step, come_some, stood_step, stood_same}
use Rattle.rawk_machine.proofs.Gives.{on_err}
use Rattle.rawk_machine.proofs.Askings.{asked_step}
use Rattle.rawk_machine.specs.Asked.{AskedBy, HasAsked, asked_wider}
use Rattle.rawk_reading.specs.Drawing.{Draws}
use Rattle.rawk_machine.proofs.machine.Machine.advance.Goals as goal

pub returns-in_err-journaled-in-None-clause-still : goal.returns-in_err-journaled-in-None-clause-still
returns-in_err-journaled-in-None-clause-still g c = λ gone. come_some g.R.Source.may_give gone g.met.R.Source.gives_some

pub returns-in_ok-journaled-in-None-clause-still : goal.returns-in_ok-journaled-in-None-clause-still
returns-in_ok-journaled-in-None-clause-still g c = λ gone. come_some g.R.Source.may_give gone g.met.R.Source.gives_some

pub returns-in-Some-clause-still : goal.returns-in-Some-clause-still
returns-in-Some-clause-still g c = λ gone. come_some g.R.Source.may_give gone g.met.R.Source.gives_some

pub returns-in_ok-journaled-in-None-clause-stands : goal.returns-in_ok-journaled-in-None-clause-stands
returns-in_ok-journaled-in-None-clause-stands g c = λ input gone handed may at.
    let i = c.self.inside in
    let v = c.self.invariant in
    let l = now_of i.store in
    let sets = i.sets.items in
    let clear = none_at (i.point + 1) sets (ends_below i.point (length (reverse i.here.items)) sets (ends_with l i.point (length i.tape.bytes) sets (reverse i.here.items) (g.K.Keeper.kept i.keeper) v.chain)) in
    at_step g.R.Source.may_give i.code i.settings i.steps sets i.point c.journaled.new.tape l (now_of c.journaled.new.store) input gone handed c.in-None.is (v.below c.in-None.is).0 clear
    c.in_ok-journaled-in-None.ensures.did may.kept may.whole may.may (subst (λ (m : Standing g.row.R.Denot). IsAt m input gone handed) (sym c.self.view_is) at)

pub returns-in_ok-journaled-in-None-clause-moves : goal.returns-in_ok-journaled-in-None-clause-moves
returns-in_ok-journaled-in-None-clause-moves g c = λ none.
    let i = c.self.inside in
    let v = c.self.invariant in
    let e = c.in_ok-journaled-in-None.ensures in
    let l = now_of i.store in
    let n = now_of c.journaled.new.store in
    let placed : IsPlaced l i.point (length i.tape.bytes) = record { goes = c.in-None.is; here = (v.below c.in-None.is).0; consumed = c.journaled.ensures.within } in
    let m = moved l e.kept.0 n i.point (length i.tape.bytes) (length c.journaled.new.tape.bytes) i.sets.items i.here.items (g.K.Keeper.kept i.keeper) (g.K.Keeper.kept c.journaled.new.keeper) (g.K.Keeper.limit i.keeper)
    v.sound e.kept.1 placed c.journaled.ensures.draws.longer e.kept.2 v.chain in
    let old : Standing g.row.R.Denot = standing_of i.code i.settings i.steps i.sets.items i.point i.tape l i.executed (reverse i.here.items) (g.K.Keeper.kept i.keeper) (g.K.Keeper.limit i.keeper) (last_of i.last (g.K.Keeper.forth i.keeper)) in
    let new = λ (gs : List Group) (la : Last). standing_of i.code i.settings i.steps i.sets.items (i.point + 1) c.journaled.new.tape n c.journaled.new.executed (reverse gs) (g.K.Keeper.kept c.journaled.new.keeper) (g.K.Keeper.limit c.journaled.new.keeper) la in
    let on : MovesOn old (new [] On) = record { point = refl; unset = refl; saved = m.saved; history = m.front; kept = m.count; before = λ any. m.before any } in
    subst (λ (x : Standing g.row.R.Denot). MovesOn x (new c.journaled.new.here.items On)) c.self.view_is
    (subst (λ (gs : List Group). MovesOn old (new gs On)) (sym e.here) on)

pub returns-in_ok-journaled-in-None-clause-stood : goal.returns-in_ok-journaled-in-None-clause-stood
returns-in_ok-journaled-in-None-clause-stood g c = λ input may stood.
    let i = c.self.inside in
    let n = now_of c.journaled.new.store in
    let going : c.args.self.now.ending ≡ None = sym (ap (λ (m : Standing g.row.R.Denot). m.ending) c.self.view_is) ∙ c.in-None.is in
    let on = returns-in_ok-journaled-in-None-clause-moves g c going in
    let new : Standing g.row.R.Denot =
    standing_of i.code i.settings i.steps i.sets.items (i.point + 1) c.journaled.new.tape n c.journaled.new.executed (reverse c.journaled.new.here.items) (g.K.Keeper.kept c.journaled.new.keeper) (g.K.Keeper.limit c.journaled.new.keeper) On in
    stood_step on.saved c.args.self.now new input on.point on.unset on.history (ap (λ (m : Standing g.row.R.Denot). ground_of m input) c.self.view_is)
    (returns-in_ok-journaled-in-None-clause-stands g c input [] [] may stood.now) stood

pub invariant_of-self : goal.invariant_of-self
invariant_of-self g c =
    let i = c.self.inside in
    let v = c.self.invariant in
    let e = c.in_err-journaled-in-None.ensures in
    let l = now_of i.store in
    let n = now_of c.journaled.new.store in
    let same : n.registers ≡ l.registers = e.grown.registers in
    let going : c.journaled.new.store.registers.now.ending ≡ None = ap (λ (r : Registers). r.ending) same ∙ c.in-None.is in
    let size = length c.journaled.new.tape.bytes in
    let chain : Chain l i.point size i.sets.items (reverse i.here.items) (g.K.Keeper.kept i.keeper) = chain-size l i.point (length i.tape.bytes) size i.sets.items (reverse i.here.items) (g.K.Keeper.kept i.keeper) c.journaled.ensures.draws.longer v.chain in
    let grew : Chain n i.point size i.sets.items (reverse i.here.items) (g.K.Keeper.kept i.keeper) = chain-grown l n i.point size i.sets.items (reverse i.here.items) (g.K.Keeper.kept i.keeper) e.grown chain in
    record {
      rest = c.journaled.ensures.rest;
      sound = c.journaled.ensures.sound;
      consumed = c.journaled.ensures.consumed;
      below = subst (λ (r : Registers). IsBelow r i.point i.steps) (sym same) v.below;
      within = v.within;
      quiet = subst ends_quietly (sym going) tt;
      failed = λ x. absurd (cc (going, x));
      chain = subst (λ (ks : List Kept). Chain n i.point size i.sets.items (reverse c.journaled.new.here.items) ks) (sym e.same) (subst (λ (gs : List Group). Chain n i.point size i.sets.items (reverse gs) (g.K.Keeper.kept i.keeper)) (sym e.stays) grew);
      few = subst (λ (top : Option ℕ). Few top (length (g.K.Keeper.kept c.journaled.new.keeper))) (sym c.journaled.ensures.limit) (subst (λ (ks : List Kept). Few (g.K.Keeper.limit i.keeper) (length ks)) (sym e.same) v.few);
      clean = λ is. ap (λ (gs : List Group). reverse gs) e.stays ∙ v.clean (ap (last_of i.last) (sym e.forth) ∙ is);
      ahead = subst (λ (o : Option Forth). LastFits (last_of i.last o) n.arrays) (sym e.forth) (last_fits-grown (last_of i.last (g.K.Keeper.forth i.keeper)) l.arrays n.arrays e.grown.arrays v.ahead);
      room = λ x xs is. v.room x xs (ap (λ (gs : List Group). reverse gs) (sym e.stays) ∙ is);
    }

pub invariant_of-self-in-None : goal.invariant_of-self-in-None
invariant_of-self-in-None g c =
    let i = c.self.inside in
    let v = c.self.invariant in
    let e = c.in_ok-journaled-in-None.ensures in
    let l = now_of i.store in
    let n = now_of c.journaled.new.store in
    let size = length c.journaled.new.tape.bytes in
    let under = (v.below c.in-None.is).1 in
    let placed : IsPlaced l i.point (length i.tape.bytes) = record { goes = c.in-None.is; here = (v.below c.in-None.is).0; consumed = c.journaled.ensures.within } in
    let m = moved l e.kept.0 n i.point (length i.tape.bytes) size i.sets.items i.here.items (g.K.Keeper.kept i.keeper) (g.K.Keeper.kept c.journaled.new.keeper) (g.K.Keeper.limit i.keeper)
    v.sound e.kept.1 placed c.journaled.ensures.draws.longer e.kept.2 v.chain in
    record {
      rest = c.journaled.ensures.rest;
      sound = c.journaled.ensures.sound;
      consumed = c.journaled.ensures.consumed;
      below = λ none. let s = e.settled none in (s.0, omega (arith, under, s.1));
      within = omega (arith, under);
      quiet = e.quiet;
      failed = e.failed;
      chain = subst (λ (gs : List Group). Chain n (i.point + 1) size i.sets.items (reverse gs) (g.K.Keeper.kept c.journaled.new.keeper)) (sym e.here) m.chain;
      few = subst (λ (top : Option ℕ). Few top (length (g.K.Keeper.kept c.journaled.new.keeper))) (sym c.journaled.ensures.limit) (few_moved (g.K.Keeper.limit i.keeper) m);
      clean = λ is. ap (λ (gs : List Group). reverse gs) e.here;
      ahead = tt;
      room = λ x xs is. absurd (cc (ap (λ (gs : List Group). reverse gs) e.here, is));
    }

-- where memory was refused the parts are the same but for empty slots
pub returns-in_err-journaled-in-None-clause-stood : goal.returns-in_err-journaled-in-None-clause-stood
returns-in_err-journaled-in-None-clause-stood g c = λ input may stood.
    let i = c.self.inside in
    let v = c.self.invariant in
    let e = c.in_err-journaled-in-None.ensures in
    let l = now_of i.store in
    let n = now_of c.journaled.new.store in
    let here = reverse i.here.items in
    let kept = g.K.Keeper.kept i.keeper in
    let size = length i.tape.bytes in
    let moment = moment-grown l n e.grown v.sound ∙ ap (λ (m : Standing g.row.R.Denot). moment_of m) c.self.view_is in
    let unset = ap (λ (gs : List Group). unsets n i.sets.items (reverse gs)) e.stays
    ∙ unsets-grown l n i.point size i.sets.items here e.grown v.sound (fit_here l i.point size i.sets.items here kept v.chain)
    ∙ ap (λ (m : Standing g.row.R.Denot). m.unset) c.self.view_is in
    let history = ap (λ (gs : List Group). pasts n i.sets.items i.point (reverse gs) (g.K.Keeper.kept c.journaled.new.keeper)) e.stays
    ∙ ap (λ (ks : List Kept). pasts n i.sets.items i.point here ks) e.same
    ∙ pasts-grown l n i.point size i.sets.items here kept e.grown v.sound v.chain
    ∙ ap (λ (m : Standing g.row.R.Denot). m.history) c.self.view_is in
    let new : Standing g.row.R.Denot =
    standing_of i.code i.settings i.steps i.sets.items i.point c.journaled.new.tape n c.journaled.new.executed (reverse c.journaled.new.here.items) (g.K.Keeper.kept c.journaled.new.keeper) (g.K.Keeper.limit c.journaled.new.keeper) (last_of i.last (g.K.Keeper.forth c.journaled.new.keeper)) in
    stood_same c.args.self.now new input (ap (λ (m : Standing g.row.R.Denot). ground_of m input) c.self.view_is) (ap (λ (m : Standing g.row.R.Denot). m.sets) c.self.view_is)
    (ap (λ (m : Standing g.row.R.Denot). m.point) c.self.view_is) moment unset history stood

pub returns-in_err-journaled-in-None-clause-err : goal.returns-in_err-journaled-in-None-clause-err
returns-in_err-journaled-in-None-clause-err g c =
    let i = c.self.inside in
    let v = c.self.invariant in
    let e = c.in_err-journaled-in-None.ensures in
    let l = now_of i.store in
    let n = now_of c.journaled.new.store in
    let here = reverse i.here.items in
    let kept = g.K.Keeper.kept i.keeper in
    let size = length i.tape.bytes in
    let same = moment-grown l n e.grown v.sound in
    let past : pasts n i.sets.items i.point (reverse c.journaled.new.here.items) (g.K.Keeper.kept c.journaled.new.keeper) ≡ pasts l i.sets.items i.point here kept =
    ap (λ (gs : List Group). pasts n i.sets.items i.point (reverse gs) (g.K.Keeper.kept c.journaled.new.keeper)) e.stays
    ∙ ap (λ (ks : List Kept). pasts n i.sets.items i.point here ks) e.same
    ∙ pasts-grown l n i.point size i.sets.items here kept e.grown v.sound v.chain in
    on_err c.from_residual.result (record {
      point = ap (λ (m : Standing g.row.R.Denot). m.point) c.self.view_is;
      state = ap (λ (m : Moment). m.state) same ∙ ap (λ (m : Standing g.row.R.Denot). m.state) c.self.view_is;
      operands = ap (λ (m : Moment). m.operands) same ∙ ap (λ (m : Standing g.row.R.Denot). m.operands) c.self.view_is;
      keys = ap (λ (m : Moment). m.keys) same ∙ ap (λ (m : Standing g.row.R.Denot). m.keys) c.self.view_is;
      returns = ap (λ (m : Moment). m.returns) same ∙ ap (λ (m : Standing g.row.R.Denot). m.returns) c.self.view_is;
      place = ap (λ (m : Moment). m.place) same ∙ ap (λ (m : Standing g.row.R.Denot). m.place) c.self.view_is;
      phase = ap (λ (m : Moment). m.phase) same ∙ ap (λ (m : Standing g.row.R.Denot). m.phase) c.self.view_is;
      ending = ap (λ (m : Moment). m.ending) same ∙ ap (λ (m : Standing g.row.R.Denot). m.ending) c.self.view_is;
      site = ap (λ (m : Moment). m.site) same ∙ ap (λ (m : Standing g.row.R.Denot). m.site) c.self.view_is;
      unset = ap (λ (gs : List Group). unsets n i.sets.items (reverse gs)) e.stays
          ∙ unsets-grown l n i.point size i.sets.items here e.grown v.sound (fit_here l i.point size i.sets.items here kept v.chain)
          ∙ ap (λ (m : Standing g.row.R.Denot). m.unset) c.self.view_is;
      history = past ∙ ap (λ (m : Standing g.row.R.Denot). m.history) c.self.view_is;
      before = ap (λ (la : Last). before_of la n.globals n.arrays n.current (pasts n i.sets.items i.point (reverse c.journaled.new.here.items) (g.K.Keeper.kept c.journaled.new.keeper))) (ap (last_of i.last) e.forth)
          ∙ ap (λ (xs : List Value). before_of (last_of i.last (g.K.Keeper.forth i.keeper)) xs n.arrays n.current (pasts n i.sets.items i.point (reverse c.journaled.new.here.items) (g.K.Keeper.kept c.journaled.new.keeper))) e.grown.globals
          ∙ ap (λ (x : Shown). before_of (last_of i.last (g.K.Keeper.forth i.keeper)) l.globals n.arrays x (pasts n i.sets.items i.point (reverse c.journaled.new.here.items) (g.K.Keeper.kept c.journaled.new.keeper))) e.grown.current
          ∙ before-grown (last_of i.last (g.K.Keeper.forth i.keeper)) l.globals l.arrays n.arrays l.current (pasts n i.sets.items i.point (reverse c.journaled.new.here.items) (g.K.Keeper.kept c.journaled.new.keeper)) e.grown.arrays v.sound.arrays v.ahead
          ∙ ap (λ (ps : List Past). before_of (last_of i.last (g.K.Keeper.forth i.keeper)) l.globals l.arrays l.current ps) past
          ∙ ap (λ (m : Standing g.row.R.Denot). m.before) c.self.view_is;
    })

pub returns-in_err-journaled-in-None-clause-stands : goal.returns-in_err-journaled-in-None-clause-stands
returns-in_err-journaled-in-None-clause-stands g c = λ input gone handed may at.
    let i = c.self.inside in
    let same = moment-grown (now_of i.store) (now_of c.journaled.new.store) c.in_err-journaled-in-None.ensures.grown c.self.invariant.sound in
    subst (λ (m : Moment). StandsAt (record { code = i.code; settings = i.settings; steps = i.steps; input = input }) i.sets.items i.point m gone handed) (sym same) (subst (λ (m : Standing g.row.R.Denot). IsAt m input gone handed) (sym c.self.view_is) at)

pub returns-in_ok-journaled-in-None-clause-asks : goal.returns-in_ok-journaled-in-None-clause-asks
returns-in_ok-journaled-in-None-clause-asks g c = λ input gone handed may at asked.
    let i = c.self.inside in
    subst (λ (m : Standing g.row.R.Denot). HasAsked i.code i.settings (record { input = input; sets = i.sets.items; steps = i.steps }) (m.point + 1) (gone ++ c.journaled.new.tape.bytes)) c.self.view_is
    (asked_step g.R.Source.may_give i.code i.settings i.steps i.sets.items i.point i.tape.bytes c.journaled.new.tape (now_of i.store) input gone handed c.in-None.is c.journaled.ensures.asks may.kept may.whole may.may
    (subst (λ (m : Standing g.row.R.Denot). IsAt m input gone handed) (sym c.self.view_is) at)
    (subst (λ (m : Standing g.row.R.Denot). AskedBy m input m.point (gone ++ m.tape.bytes)) (sym c.self.view_is) asked))

pub returns-in_ok-journaled-in-None-clause-draws : goal.returns-in_ok-journaled-in-None-clause-draws
returns-in_ok-journaled-in-None-clause-draws g c =
    subst (λ (m : Standing g.row.R.Denot). Draws g.R.Source.over g.R.Source.handed m.tape c.journaled.new.tape) c.self.view_is c.journaled.ensures.draws

pub returns-in_err-journaled-in-None-clause-asks : goal.returns-in_err-journaled-in-None-clause-asks
returns-in_err-journaled-in-None-clause-asks g c = λ input gone handed may at asked.
    let i = c.self.inside in
    subst (λ (m : Standing g.row.R.Denot). HasAsked i.code i.settings (record { input = input; sets = i.sets.items; steps = i.steps }) (m.point + 1) (gone ++ c.journaled.new.tape.bytes)) c.self.view_is
    (asked_step g.R.Source.may_give i.code i.settings i.steps i.sets.items i.point i.tape.bytes c.journaled.new.tape (now_of i.store) input gone handed c.in-None.is c.journaled.ensures.asks may.kept may.whole may.may
    (subst (λ (m : Standing g.row.R.Denot). IsAt m input gone handed) (sym c.self.view_is) at)
    (subst (λ (m : Standing g.row.R.Denot). AskedBy m input m.point (gone ++ m.tape.bytes)) (sym c.self.view_is) asked))

pub returns-in_err-journaled-in-None-clause-draws : goal.returns-in_err-journaled-in-None-clause-draws
returns-in_err-journaled-in-None-clause-draws g c =
    subst (λ (m : Standing g.row.R.Denot). Draws g.R.Source.over g.R.Source.handed m.tape c.journaled.new.tape) c.self.view_is c.journaled.ensures.draws

pub returns-in-Some-clause-asks : goal.returns-in-Some-clause-asks
returns-in-Some-clause-asks g c = λ input gone handed may at asked.
    let old = c.args.self.now in
    asked_wider old.code old.settings (given_of old input) old.point (old.point + 1) (gone ++ old.tape.bytes) (omega arith) asked

pub returns-in-Some-clause-code : goal.returns-in-Some-clause-code
returns-in-Some-clause-code g c = refl

pub returns-in-Some-clause-settings : goal.returns-in-Some-clause-settings
returns-in-Some-clause-settings g c = refl

pub returns-in-Some-clause-sets : goal.returns-in-Some-clause-sets
returns-in-Some-clause-sets g c = refl

pub returns-in-Some-clause-steps : goal.returns-in-Some-clause-steps
returns-in-Some-clause-steps g c = refl

pub returns-in-Some-clause-limit : goal.returns-in-Some-clause-limit
returns-in-Some-clause-limit g c = refl

pub returns-in-Some-clause-may : goal.returns-in-Some-clause-may
returns-in-Some-clause-may g c = λ gone input comes. comes

pub returns-in-Some-clause-stands : goal.returns-in-Some-clause-stands
returns-in-Some-clause-stands g c = λ input gone handed comes is. is

pub returns-in-Some-clause-stood : goal.returns-in-Some-clause-stood
returns-in-Some-clause-stood g c = λ input comes stood. stood

pub returns-in-Some-clause-rests : goal.returns-in-Some-clause-rests
returns-in-Some-clause-rests g c = λ ending. refl

pub returns-in-Some-clause-err : goal.returns-in-Some-clause-err
returns-in-Some-clause-err g c = tt

pub returns-in_ok-journaled-in-None-clause-err : goal.returns-in_ok-journaled-in-None-clause-err
returns-in_ok-journaled-in-None-clause-err g c = tt
