use Rattle.std.proofs.Common.{◌≡◌, ◌∙◌, [], ap, sym, subst, refl, reverse, ◌++◌, Some, None}
use Rattle.rawk_value.specs.Values.{Bytes}
use Rattle.rawk_store.specs.Journaled.{Journaled}
use Rattle.rawk_store.specs.Layout.{Layout}
use Rattle.rawk_store.specs.Stores.{now_of, start_of}
use Rattle.rawk_machine.specs.Standing.{Standing, IsAt}
use Rattle.rawk_machine.specs.Last.{last_of}
use Rattle.rawk_machine.specs.Stood.{standing_of}
use Rattle.rawk_machine.specs.Drops.{at_given}
use Rattle.rawk_machine.proofs.Gives.{no_groups, standing_as, chain_as}
use Rattle.rawk_machine.proofs.machine.Machine+R+Off.give_into.Goals as goal

pub invariant_of-self : goal.invariant_of-self
invariant_of-self g c =
    let i = c.self.inside in
    let v = c.self.invariant in
    let l = now_of i.store in
    let none = no_groups l i.sets.items (reverse i.here.items) (ap (λ (m : Standing g.row.R.Denot). m.unset) c.self.view_is ∙ c.requires) in
    let rested = ap (λ (j : Journaled Bytes). record (start_of i.store) { output = j.start }) c.give.ensures.rest
    ∙ ap (λ (x : Layout). record x { output = [] }) v.rest
    ∙ sym (ap (λ (j : Journaled Bytes). record l { output = j.now }) c.give.ensures.rest) in
    record {
      rest = rested;
      sound = record { arrays = v.sound.arrays; frames = v.sound.frames; nested = v.sound.nested; keys = v.sound.keys; operands = v.sound.operands };
      consumed = v.consumed;
      below = v.below;
      within = v.within;
      quiet = v.quiet;
      failed = v.failed;
      chain = chain_as l (record l { output = c.give.new.self.now }) i.point _ _ i.sets.items (reverse i.here.items) none v.chain;
      few = v.few;
      clean = v.clean;
      ahead = v.ahead;
      room = v.room;
    }

pub returns-clause-rest : goal.returns-clause-rest
returns-clause-rest g c =
    let i = c.self.inside in
    let l = now_of i.store in
    let none = no_groups l i.sets.items (reverse i.here.items) (ap (λ (m : Standing g.row.R.Denot). m.unset) c.self.view_is ∙ c.requires) in
    let change = λ (m : Standing g.row.R.Denot). (record m { state = record m.state { output = [] } }) in
    ap (λ (j : Journaled Bytes). standing_of i.code i.settings i.steps i.sets.items i.point i.tape (record l { output = j.now }) i.executed (reverse i.here.items) [] (Some 0) (last_of i.last None)) c.give.ensures.rest
    ∙ standing_as i.code i.settings i.steps i.sets.items i.point i.tape l i.executed (reverse i.here.items) (Some 0) (last_of i.last None) change i.tape (record l { output = [] }) none refl
    ∙ ap change c.self.view_is

pub returns-clause-stands : goal.returns-clause-stands
returns-clause-stands g c = λ input gone handed at.
    let i = c.self.inside in
    let l = now_of i.store in
    let none = no_groups l i.sets.items (reverse i.here.items) (ap (λ (m : Standing g.row.R.Denot). m.unset) c.self.view_is ∙ c.requires) in
    let change = λ (m : Standing g.row.R.Denot). (record m { state = record m.state { output = [] } }) in
    let same = ap (λ (j : Journaled Bytes). standing_of i.code i.settings i.steps i.sets.items i.point i.tape (record l { output = j.now }) i.executed (reverse i.here.items) [] (Some 0) (last_of i.last None)) c.give.ensures.rest
    ∙ standing_as i.code i.settings i.steps i.sets.items i.point i.tape l i.executed (reverse i.here.items) (Some 0) (last_of i.last None) change i.tape (record l { output = [] }) none refl
    ∙ ap change c.self.view_is in
    let bytes : c.give.new.buffer.items ≡ c.args.self.now.state.output = c.give.ensures.given ∙ ap (λ (m : Standing g.row.R.Denot). m.state.output) c.self.view_is in
    subst (λ (x : Bytes). IsAt (standing_of i.code i.settings i.steps i.sets.items i.point i.tape (record l { output = c.give.new.self.now }) i.executed (reverse i.here.items) [] (Some 0) (last_of i.last None)) input gone (handed ++ x)) (sym bytes)
    (subst (λ (m : Standing g.row.R.Denot). IsAt m input gone (handed ++ c.args.self.now.state.output)) (sym same) (at_given c.args.self.now input gone handed at))
