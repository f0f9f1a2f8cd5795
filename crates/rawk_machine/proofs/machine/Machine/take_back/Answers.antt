use Rattle.std.proofs.Common.{◌≡◌, ℕ, ◌-◌, List, [], ◌∷◌, length, take, reverse, sym, ap, ◌∙◌, subst, arith, None}
use Rattle.std.proofs.lemmas.List.{reverse-append}
use Rattle.rawk_tape.specs.Tapes.{TapeState}
use Rattle.rawk_store.specs.Groups.{Group}
use Rattle.rawk_store.specs.Layout.{Layout}
use Rattle.rawk_store.specs.Stores.{now_of}
use Rattle.rawk_code.specs.Actions.{SetAt}
use Rattle.rawk_machine.specs.Last.{Nothing, last_of}
use Rattle.rawk_machine.specs.Standing.{Standing, Stood, taken_back}
use Rattle.rawk_machine.specs.Kept.{but_last, unsets, Chain}
use Rattle.rawk_machine.specs.Stood.{standing_of}
use Rattle.rawk_steps.specs.Arrival.{ends_quietly}
use Rattle.rawk_machine.proofs.Chains.{fit_here, chain_unset}
use Rattle.rawk_machine.proofs.Leads.{taken_is}
use Rattle.rawk_machine.proofs.Stands.{come_either, stood_unset}
use Rattle.rawk_machine.proofs.machine.Machine.take_back.Goals as goal

pub undo-requires : goal.undo-requires
undo-requires g c =
    let i = c.self.inside in
    let l = now_of i.store in
    let size = length i.tape.bytes in
    let x = c.in-Some.group in
    let rest = reverse c.pop.new.self.items in
    let last : reverse i.here.items ≡ x ∷ rest = ap (λ (gs : List Group). reverse gs) c.in-Some.ensures.items ∙ reverse-append c.pop.new.self.items (x ∷ []) in
    (fit_here l i.point size i.sets.items (x ∷ rest) (g.K.Keeper.kept i.keeper) (subst (λ (gs : List Group). Chain l i.point size i.sets.items gs (g.K.Keeper.kept i.keeper)) last c.self.invariant.chain)).0

pub consume-requires : goal.consume-requires
consume-requires g c =
    let i = c.self.inside in
    let l = now_of i.store in
    let size = length i.tape.bytes in
    let x = c.in-Some.group in
    let rest = reverse c.pop.new.self.items in
    let last : reverse i.here.items ≡ x ∷ rest = ap (λ (gs : List Group). reverse gs) c.in-Some.ensures.items ∙ reverse-append c.pop.new.self.items (x ∷ []) in
    let placed = (fit_here l i.point size i.sets.items (x ∷ rest) (g.K.Keeper.kept i.keeper) (subst (λ (gs : List Group). Chain l i.point size i.sets.items gs (g.K.Keeper.kept i.keeper)) last c.self.invariant.chain)).1 in
    let e = ap (λ (m : Layout). m.registers.consumed) c.undo.ensures.now in
    omega (arith, e, placed.consumed)

pub invariant_of-self-2 : goal.invariant_of-self-2
invariant_of-self-2 g c =
    let i = c.self.inside in
    let v = c.self.invariant in
    let l = now_of i.store in
    let size = length i.tape.bytes in
    let x = c.in-Some.group in
    let rest = reverse c.pop.new.self.items in
    let kept = g.K.Keeper.kept i.keeper in
    let last : reverse i.here.items ≡ x ∷ rest = ap (λ (gs : List Group). reverse gs) c.in-Some.ensures.items ∙ reverse-append c.pop.new.self.items (x ∷ []) in
    let whole = subst (λ (gs : List Group). Chain l i.point size i.sets.items gs kept) last v.chain in
    let fits = fit_here l i.point size i.sets.items (x ∷ rest) kept whole in
    let is = c.undo.ensures.now in
    let none : c.undo.new.self.registers.now.ending ≡ None = ap (λ (m : Layout). m.registers.ending) is ∙ fits.1.goes in
    let at = ap (λ (m : Layout). m.registers.here) is in
    let under = v.room x rest last in
    let bytes : size ≡ length c.consume.new.self.bytes = sym (ap (λ (t : TapeState g.row.R.Denot). length t.bytes) c.consume.ensures.after) in
    let chain : Chain (now_of c.undo.new.self) i.point size (but_last i.sets.items) rest kept = subst (λ (m : Layout). Chain m i.point size (but_last i.sets.items) rest kept) (sym is) (chain_unset l i.point size i.sets.items x rest kept whole) in
    let chain2 : Chain (now_of c.undo.new.self) i.point size c.pop-last.new.self.items rest kept = subst (λ (xs : List SetAt). Chain (now_of c.undo.new.self) i.point size xs rest kept) (sym (c.pop-last.ensures.rest ∙ ap (λ (k : ℕ). take (k - 1) i.sets.items) i.sets.ok.0)) chain in
    record {
      rest = c.undo.ensures.rest;
      sound = c.undo.ensures.sound;
      consumed = ap (λ (t : TapeState g.row.R.Denot). t.consumed) c.consume.ensures.after;
      below = λ e. (at ∙ fits.1.here, under);
      within = v.within;
      quiet = subst ends_quietly (sym none) tt;
      failed = λ e. absurd (cc (none, e));
      chain = subst (λ k. Chain (now_of c.undo.new.self) i.point k c.pop-last.new.self.items rest kept) bytes chain2;
      few = v.few;
      clean = λ is. absurd (cc is);
      ahead = tt;
      room = λ y ys e. under;
    }

pub returns-clause-back : goal.returns-clause-back
returns-clause-back g c =
    let i = c.self.inside in
    let v = c.self.invariant in
    let l = now_of i.store in
    let size = length i.tape.bytes in
    let x = c.in-Some.group in
    let rest = reverse c.pop.new.self.items in
    let kept = g.K.Keeper.kept i.keeper in
    let limit = g.K.Keeper.limit i.keeper in
    let last : reverse i.here.items ≡ x ∷ rest = ap (λ (gs : List Group). reverse gs) c.in-Some.ensures.items ∙ reverse-append c.pop.new.self.items (x ∷ []) in
    let whole = subst (λ (gs : List Group). Chain l i.point size i.sets.items gs kept) last v.chain in
    let is = c.undo.ensures.now in
    let standing = λ (sets : List SetAt) (t : TapeState g.row.R.Denot) (m : Layout). standing_of i.code i.settings i.steps sets i.point t m i.executed rest kept limit Nothing in
    let old = λ (gs : List Group). taken_back (unsets l i.sets.items gs) (standing_of i.code i.settings i.steps i.sets.items i.point i.tape l i.executed gs kept limit (last_of i.last (g.K.Keeper.forth i.keeper))) in
    ap (λ (xs : List SetAt). standing xs c.consume.new.self (now_of c.undo.new.self)) (c.pop-last.ensures.rest ∙ ap (λ (k : ℕ). take (k - 1) i.sets.items) i.sets.ok.0)
    ∙ ap (λ (t : TapeState g.row.R.Denot). standing (but_last i.sets.items) t (now_of c.undo.new.self)) c.consume.ensures.after
    ∙ ap (λ (m : Layout). standing (but_last i.sets.items) (record i.tape { consumed = m.registers.consumed }) m) is
    ∙ taken_is i.code i.settings i.steps i.sets.items i.point size i.tape l i.executed x rest kept limit (last_of i.last (g.K.Keeper.forth i.keeper)) whole
    ∙ ap old (sym last)
    ∙ ap (λ (m : Standing g.row.R.Denot). taken_back m.unset m) c.self.view_is

pub returns-clause-stood : goal.returns-clause-stood
returns-clause-stood g c = λ input stood.
    let old = c.args.self.now in
    subst (λ (m : Standing g.row.R.Denot). Stood m input) (sym (returns-clause-back g c)) (stood_unset old input old.unset stood.unset stood)

pub returns-clause-may : goal.returns-clause-may
returns-clause-may g c = λ gone input.
    let k = c.undo.new.self.registers.now.consumed in
    come_either g.R.Source.may_give c.args.self.now _ gone input k (c.consume.ensures.after ∙ ap (λ (m : Standing g.row.R.Denot). record m.tape { consumed = k }) c.self.view_is)
