use Rattle.std.proofs.Common.{◌≡◌, ◌∙◌, [], ap, sym, subst, length, reverse, Option, Some, None}
use Rattle.rawk_arrays.specs.Laid.{Laid}
use Rattle.rawk_store.specs.Observed.{Observed}
use Rattle.rawk_store.specs.State.{State}
use Rattle.rawk_store.specs.Layout.{Layout, state}
use Rattle.rawk_store.specs.Stores.{now_of}
use Rattle.rawk_steps.specs.Arrival.{ends_quietly}
use Rattle.rawk_machine.specs.Standing.{Standing}
use Rattle.rawk_machine.specs.Kept.{before_of}
use Rattle.rawk_machine.specs.Last.{last_of}
use Rattle.rawk_machine.specs.Stood.{standing_of, IsBelow}
use Rattle.rawk_machine.proofs.Forths.{never_ahead, never_before}
use Rattle.rawk_machine.proofs.Gives.{no_groups, standing_as, chain_as}
use Rattle.rawk_machine.proofs.machine.Machine+R+Off.pack.Goals as goal

pub invariant_of-self : goal.invariant_of-self
invariant_of-self g c =
    let i = c.self.inside in
    let v = c.self.invariant in
    let l = now_of i.store in
    let m = now_of c.pack.new.self in
    let is = c.pack.ensures.others in
    let none = no_groups l i.sets.items (reverse i.here.items) (ap (λ (m : Standing g.row.R.Denot). m.unset) c.self.view_is ∙ c.requires) in
    record {
      rest = c.pack.ensures.rest;
      sound = c.pack.ensures.sound v.sound;
      consumed = v.consumed ∙ sym (ap (λ (x : Layout). x.registers.consumed) is);
      below = subst (λ (x : Layout). IsBelow x.registers i.point i.steps) (sym is) v.below;
      within = v.within;
      quiet = subst (λ (x : Layout). ends_quietly x.registers.ending) (sym is) v.quiet;
      failed = λ e. v.failed (sym (ap (λ (x : Layout). x.registers.ending) is) ∙ e);
      chain = chain_as l m i.point (length i.tape.bytes) (length i.tape.bytes) i.sets.items (reverse i.here.items) none v.chain;
      few = v.few;
      clean = v.clean;
      ahead = never_ahead i.last c.pack.new.self.arrays.now;
      room = v.room;
    }

pub returns : goal.returns
returns g c =
    let i = c.self.inside in
    let l = now_of i.store in
    let n : Layout = record l { arrays = c.pack.new.self.arrays.now } in
    let is : now_of c.pack.new.self ≡ n = c.pack.ensures.others in
    let same : state n ≡ state l = sym (ap state is) ∙ c.pack.ensures.state in
    let none = no_groups l i.sets.items (reverse i.here.items) (ap (λ (m : Standing g.row.R.Denot). m.unset) c.self.view_is ∙ c.requires) in
    let before = λ (a : Laid). before_of (last_of i.last None) l.globals a l.current [] in
    let old : Standing g.row.R.Denot = standing_of i.code i.settings i.steps i.sets.items i.point i.tape l i.executed [] [] (Some 0) (last_of i.last None) in
    let with = λ (s : State) (seen : Option Observed). let m : Standing g.row.R.Denot = record old { state = s; before = seen } in m in
    ap (λ (x : Layout). standing_of i.code i.settings i.steps i.sets.items i.point i.tape x i.executed (reverse i.here.items) [] (Some 0) (last_of i.last None)) is
    ∙ standing_as i.code i.settings i.steps i.sets.items i.point i.tape l i.executed (reverse i.here.items) (Some 0) (last_of i.last None) (λ (m : Standing g.row.R.Denot). m) i.tape n none (ap (λ (s : State). with s (before n.arrays)) same ∙ ap (with (state l)) (never_before i.last l.globals n.arrays l.arrays l.current))
    ∙ c.self.view_is
