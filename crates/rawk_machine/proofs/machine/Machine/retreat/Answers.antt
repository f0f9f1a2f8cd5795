use Rattle.std.proofs.Common.{◌≡◌, ℕ, ◌-◌, List, ◌∷◌, length, reverse, take, sym, ap, ◌∙◌, subst, arith, Option, None}
use Rattle.rawk_tape.specs.Tapes.{TapeState}
use Rattle.rawk_store.specs.Groups.{Group}
use Rattle.rawk_history.specs.Steps.{Forth, Kept}
use Rattle.rawk_store.specs.Layout.{Layout}
use Rattle.rawk_store.specs.Stores.{now_of}
use Rattle.rawk_code.specs.Actions.{SetAt}
use Rattle.rawk_store.specs.GroupBack.{arrays_in, globals_on}
use Rattle.rawk_record.specs.Shown.{record_back}
use Rattle.rawk_machine.specs.Last.{Back, Last, last_of}
use Rattle.rawk_machine.specs.declared.last_move.LastMove.TheVariants as move
use Rattle.rawk_machine.specs.Standing.{Standing, Stood, gone_back}
use Rattle.rawk_machine.specs.Kept.{below, pasts, Chain, Few, LastFits}
use Rattle.rawk_steps.specs.Leading.{back_in, newest_first, arrays_forth, globals_forth, record_forth}
use Rattle.rawk_machine.specs.Stood.{standing_of}
use Rattle.rawk_steps.specs.Arrival.{ends_quietly}
use Rattle.rawk_machine.proofs.Chains.{fit_here, own_below}
use Rattle.rawk_machine.proofs.Journals.{fit_groups, few_less}
use Rattle.rawk_machine.proofs.Befores.{back_not_on}
use Rattle.rawk_machine.proofs.Leads.{gone_is}
use Rattle.rawk_machine.proofs.Stands.{come_either, stood_back}
use Rattle.rawk_machine.proofs.machine.Machine.retreat.Goals as goal

pub go_back-requires-clause-fits_here : goal.go_back-requires-clause-fits_here
go_back-requires-clause-fits_here g c =
    let i = c.self.inside in
    let l = now_of i.store in
    let here = reverse i.here.items in
    let size = length i.tape.bytes in
    fit_groups l i.point size here (fit_here l i.point size i.sets.items here (g.K.Keeper.kept i.keeper) c.self.invariant.chain)

pub go_back-requires-clause-fits_step : goal.go_back-requires-clause-fits_step
go_back-requires-clause-fits_step g c =
    let i = c.self.inside in
    let n = c.in-Some.ensures in
    (n.0, n.1, n.2, (subst (λ (ks : List Kept). Chain (now_of i.store) i.point (length i.tape.bytes) i.sets.items (reverse i.here.items) ks) n.2 c.self.invariant.chain).3)

pub consume-requires : goal.consume-requires
consume-requires g c =
    let i = c.self.inside in
    let n = c.in-Some.ensures in
    let h = subst (λ (ks : List Kept). Chain (now_of i.store) i.point (length i.tape.bytes) i.sets.items (reverse i.here.items) ks) n.2 c.self.invariant.chain in
    let e = ap (λ (x : Layout). x.registers.consumed) (c.go_back.ensures.back n.0 n.1 n.2).now in
    omega (arith, e, h.4.consumed)

pub invariant_of-self : goal.invariant_of-self
invariant_of-self g c =
    let i = c.self.inside in
    let v = c.self.invariant in
    let l = now_of i.store in
    let here = reverse i.here.items in
    let size = length i.tape.bytes in
    let first = c.in-Some.ensures in
    let item = first.0 in
    let b = c.go_back.ensures.back item first.1 first.2 in
    let items = g.K.Keeper.kept c.go_back.new.keeper in
    let took : g.K.Keeper.kept i.keeper ≡ item ∷ items = first.2 ∙ ap (λ (ks : List Kept). item ∷ ks) (sym b.left) in
    let h = subst (λ (ks : List Kept). Chain l i.point size i.sets.items here ks) took v.chain in
    let many : c.len-made_here.result ≡ length i.here.items = omega (arith, i.here.ok.0) in
    let own : c.drop_newest.new.sets.items ≡ below i.point i.sets.items = c.drop_newest.ensures ∙ ap (λ k. take (length i.sets.items - k) i.sets.items) many ∙ own_below l i.point size i.sets.items i.here.items (g.K.Keeper.kept i.keeper) v.chain in
    let m = back_in l here item in
    let is = b.now in
    let none : c.go_back.new.store.registers.now.ending ≡ None = ap (λ (x : Layout). x.registers.ending) is ∙ h.4.goes in
    let at = ap (λ (x : Layout). x.registers.here) is in
    let bytes : size ≡ length c.consume.new.self.bytes = sym (ap (λ (t : TapeState g.row.R.Denot). length t.bytes) c.consume.ensures.after) in
    let chain : Chain (now_of c.go_back.new.store) (i.point - 1) size (below i.point i.sets.items) (newest_first item) items = subst (λ (x : Layout). Chain x (i.point - 1) size (below i.point i.sets.items) (newest_first item) items) (sym is) h.5 in
    let chain2 : Chain (now_of c.go_back.new.store) (i.point - 1) size c.drop_newest.new.sets.items (newest_first item) items = subst (λ (xs : List SetAt). Chain (now_of c.go_back.new.store) (i.point - 1) size xs (newest_first item) items) (sym own) chain in
    let chain3 : Chain (now_of c.go_back.new.store) (i.point - 1) size c.drop_newest.new.sets.items (reverse c.go_back.new.here.items) items = subst (λ (gs : List Group). Chain (now_of c.go_back.new.store) (i.point - 1) size c.drop_newest.new.sets.items (reverse gs) items) (sym b.here) chain2 in
    record {
      rest = c.go_back.ensures.rest;
      sound = c.go_back.ensures.sound;
      consumed = ap (λ (t : TapeState g.row.R.Denot). t.consumed) c.consume.ensures.after;
      below = λ e. (at ∙ h.4.here, omega (arith, h.2, v.within));
      within = omega (arith, v.within);
      quiet = subst ends_quietly (sym none) tt;
      failed = λ x. absurd (cc (none, x));
      chain = subst (λ k. Chain (now_of c.go_back.new.store) (i.point - 1) k c.drop_newest.new.sets.items (reverse c.go_back.new.here.items) items) bytes chain3;
      few = subst (λ (top : Option ℕ). Few top (length items)) (sym c.go_back.ensures.limit) (few_less (g.K.Keeper.limit i.keeper) (length items) (length (item ∷ items)) (omega arith) (subst (λ (ks : List Kept). Few (g.K.Keeper.limit i.keeper) (length ks)) took v.few));
      clean = λ e. absurd (back_not_on (g.K.Keeper.forth c.go_back.new.keeper) e);
      ahead = subst (λ (o : Option Forth). LastFits (last_of move.Back o) c.go_back.new.store.arrays.now) (sym b.is) (b.fits, b.sets_fit);
      room = λ x xs e. omega (arith, h.2, v.within);
    }

pub returns-clause-back : goal.returns-clause-back
returns-clause-back g c =
    let i = c.self.inside in
    let l = now_of i.store in
    let here = reverse i.here.items in
    let first = c.in-Some.ensures in
    let item = first.0 in
    let b = c.go_back.ensures.back item first.1 first.2 in
    let newer = b.forth in
    let items = g.K.Keeper.kept c.go_back.new.keeper in
    let took : g.K.Keeper.kept i.keeper ≡ item ∷ items = first.2 ∙ ap (λ (ks : List Kept). item ∷ ks) (sym b.left) in
    let kept = g.K.Keeper.kept i.keeper in
    let limit = g.K.Keeper.limit i.keeper in
    let many : c.len-made_here.result ≡ length i.here.items = omega (arith, i.here.ok.0) in
    let own : c.drop_newest.new.sets.items ≡ below i.point i.sets.items = c.drop_newest.ensures ∙ ap (λ k. take (length i.sets.items - k) i.sets.items) many ∙ own_below l i.point (length i.tape.bytes) i.sets.items i.here.items kept c.self.invariant.chain in
    let m = back_in l here item in
    let n = now_of c.go_back.new.store in
    let is = b.now in
    let back_to = λ (la : Last) (sets : List SetAt) (t : TapeState g.row.R.Denot) (x : Layout) (gs : List Group) (top : Option ℕ). standing_of i.code i.settings i.steps sets (i.point - 1) t x i.executed (reverse gs) items top la in
    let standing = back_to (Back newer) in
    let old = λ (ks : List Kept). gone_back (pasts l i.sets.items i.point here ks) (standing_of i.code i.settings i.steps i.sets.items i.point i.tape l i.executed here ks limit (last_of i.last (g.K.Keeper.forth i.keeper))) in
    ap (λ (o : Option Forth). back_to (last_of move.Back o) c.drop_newest.new.sets.items c.consume.new.self n c.go_back.new.here.items (g.K.Keeper.limit c.go_back.new.keeper)) b.is
    ∙ ap (λ (xs : List SetAt). standing xs c.consume.new.self n c.go_back.new.here.items (g.K.Keeper.limit c.go_back.new.keeper)) own
    ∙ ap (λ (t : TapeState g.row.R.Denot). standing (below i.point i.sets.items) t n c.go_back.new.here.items (g.K.Keeper.limit c.go_back.new.keeper)) c.consume.ensures.after
    ∙ ap (λ (x : Layout). standing (below i.point i.sets.items) (record i.tape { consumed = x.registers.consumed }) x c.go_back.new.here.items (g.K.Keeper.limit c.go_back.new.keeper)) is
    ∙ ap (λ (gs : List Group). standing (below i.point i.sets.items) (record i.tape { consumed = m.registers.consumed }) m gs (g.K.Keeper.limit c.go_back.new.keeper)) b.here
    ∙ ap (λ (top : Option ℕ). standing (below i.point i.sets.items) (record i.tape { consumed = m.registers.consumed }) m item.sets top) c.go_back.ensures.limit
    ∙ gone_is i.code i.settings i.steps i.sets.items i.point i.tape l i.executed here item newer items limit (last_of i.last (g.K.Keeper.forth i.keeper))
    (ap (λ (x : Layout). globals_forth (globals_on x.globals newer.globals newer.others) newer.sets) (sym is) ∙ b.globals)
    (ap (λ (x : Layout). arrays_forth (arrays_in x.arrays newer.others) newer.sets) (sym is) ∙ b.arrays)
    (ap (λ (x : Layout). record_forth (record_back x.current newer.current) newer.sets) (sym is) ∙ b.current)
    ∙ ap old (sym took)
    ∙ ap (λ (x : Standing g.row.R.Denot). gone_back x.history x) c.self.view_is

pub returns-clause-stood : goal.returns-clause-stood
returns-clause-stood g c = λ input stood.
    let old = c.args.self.now in
    subst (λ (x : Standing g.row.R.Denot). Stood x input) (sym (returns-clause-back g c)) (stood_back old input old.history stood.history stood)

pub returns-clause-may : goal.returns-clause-may
returns-clause-may g c = λ gone input.
    let k = c.go_back.new.store.registers.now.consumed in
    come_either g.R.Source.may_give c.args.self.now _ gone input k (c.consume.ensures.after ∙ ap (λ (m : Standing g.row.R.Denot). record m.tape { consumed = k }) c.self.view_is)

pub returns-clause-sets : goal.returns-clause-sets
returns-clause-sets g c = λ moved.
    let i = c.self.inside in
    let many : c.len-made_here.result ≡ length i.here.items = omega (arith, i.here.ok.0) in
    c.drop_newest.ensures ∙ ap (λ k. take (length i.sets.items - k) i.sets.items) many ∙ own_below (now_of i.store) i.point (length i.tape.bytes) i.sets.items i.here.items (g.K.Keeper.kept i.keeper) c.self.invariant.chain
    ∙ ap (λ (x : Standing g.row.R.Denot). below x.point x.sets) c.self.view_is
