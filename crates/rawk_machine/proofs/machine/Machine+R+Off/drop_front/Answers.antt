use Rattle.std.proofs.Common.{◌≡◌, ℕ, ◌-◌, ◌∙◌, [], ap, refl, arith, length, drop, reverse, Some, None}
use Rattle.rawk_value.specs.Values.{Bytes}
use Rattle.rawk_tape.specs.Tapes.{TapeState}
use Rattle.rawk_store.specs.Layout.{Layout}
use Rattle.rawk_store.specs.Stores.{now_of}
use Rattle.rawk_machine.specs.Standing.{Standing, dropped}
use Rattle.rawk_machine.specs.Last.{last_of}
use Rattle.rawk_machine.specs.Stood.{standing_of}
use Rattle.rawk_machine.proofs.Gives.{no_groups, standing_as, chain_as}
use Rattle.rawk_machine.proofs.machine.Machine+R+Off.drop_front.Goals as goal

pub invariant_of-self : goal.invariant_of-self
invariant_of-self g c =
    let i = c.self.inside in
    let v = c.self.invariant in
    let l = now_of i.store in
    let none = no_groups l i.sets.items (reverse i.here.items) (ap (λ (m : Standing g.row.R.Denot). m.unset) c.self.view_is ∙ c.requires) in
    record {
      rest = v.rest;
      sound = v.sound;
      consumed = omega (arith, c.forget-size.ensures.consumed, c.if-size-eq0.true, v.consumed);
      below = v.below;
      within = v.within;
      quiet = v.quiet;
      failed = λ e. ap g.R.Source.over c.forget-size.ensures.source ∙ v.failed e;
      chain = chain_as l l i.point (length i.tape.bytes) (length c.forget-size.new.self.bytes) i.sets.items (reverse i.here.items) none v.chain;
      few = v.few;
      clean = v.clean;
      ahead = v.ahead;
      room = v.room;
    }

pub returns-then-size-eq0-clause-dropped : goal.returns-then-size-eq0-clause-dropped
returns-then-size-eq0-clause-dropped g c =
    let i = c.self.inside in
    let l = now_of i.store in
    let n = c.forget-size.result in
    let tape = c.forget-size.new.self in
    let none = no_groups l i.sets.items (reverse i.here.items) (ap (λ (m : Standing g.row.R.Denot). m.unset) c.self.view_is ∙ c.requires) in
    let standing = λ (t : TapeState g.row.R.Denot) (x : Layout). standing_of i.code i.settings i.steps i.sets.items i.point t x i.executed (reverse i.here.items) [] (Some 0) (last_of i.last None) in
    let less : tape.consumed ≡ i.tape.consumed - n = omega (arith, c.forget-size.ensures.consumed) in
    let same : i.store.registers.now.consumed ≡ i.store.registers.now.consumed - n = omega (arith, c.if-size-eq0.true) in
    let new : TapeState g.row.R.Denot = record { source = i.tape.source; bytes = drop n i.tape.bytes; consumed = i.tape.consumed - n } in
    let at = λ (k : ℕ). record l { registers = record l.registers { consumed = k } } in
    ap (λ (s : g.row.R.Denot). standing (record { source = s; bytes = tape.bytes; consumed = tape.consumed }) l) c.forget-size.ensures.source
    ∙ ap (λ (b : Bytes). standing (record { source = i.tape.source; bytes = b; consumed = tape.consumed }) l) c.forget-size.ensures.bytes
    ∙ ap (λ (k : ℕ). standing (record { source = i.tape.source; bytes = drop n i.tape.bytes; consumed = k }) l) less
    ∙ ap (λ (k : ℕ). standing new (at k)) same
    ∙ standing_as i.code i.settings i.steps i.sets.items i.point i.tape l i.executed (reverse i.here.items) (Some 0) (last_of i.last None) (dropped n) new (at (i.store.registers.now.consumed - n)) none refl
    ∙ ap (dropped n) c.self.view_is

pub invariant_of-self-2 : goal.invariant_of-self-2
invariant_of-self-2 g c =
    let i = c.self.inside in
    let v = c.self.invariant in
    let l = now_of i.store in
    let k = c.consumed-consumed.result - c.forget-size.result in
    let m : Layout = record l { registers = record l.registers { consumed = k } } in
    let none = no_groups l i.sets.items (reverse i.here.items) (ap (λ (m : Standing g.row.R.Denot). m.unset) c.self.view_is ∙ c.requires) in
    record {
      rest = ap (λ (x : Layout). record x { registers = record x.registers { consumed = k } }) v.rest;
      sound = record { arrays = v.sound.arrays; frames = v.sound.frames; nested = v.sound.nested; keys = v.sound.keys; operands = v.sound.operands };
      consumed = omega (arith, c.forget-size.ensures.consumed, c.consumed-consumed.ensures.value);
      below = v.below;
      within = v.within;
      quiet = v.quiet;
      failed = λ e. ap g.R.Source.over c.forget-size.ensures.source ∙ v.failed e;
      chain = chain_as l m i.point (length i.tape.bytes) (length c.forget-size.new.self.bytes) i.sets.items (reverse i.here.items) none v.chain;
      few = v.few;
      clean = v.clean;
      ahead = v.ahead;
      room = v.room;
    }

pub returns-clause-dropped : goal.returns-clause-dropped
returns-clause-dropped g c =
    let i = c.self.inside in
    let v = c.self.invariant in
    let l = now_of i.store in
    let n = c.forget-size.result in
    let tape = c.forget-size.new.self in
    let none = no_groups l i.sets.items (reverse i.here.items) (ap (λ (m : Standing g.row.R.Denot). m.unset) c.self.view_is ∙ c.requires) in
    let standing = λ (t : TapeState g.row.R.Denot) (x : Layout). standing_of i.code i.settings i.steps i.sets.items i.point t x i.executed (reverse i.here.items) [] (Some 0) (last_of i.last None) in
    let less : tape.consumed ≡ i.tape.consumed - n = omega (arith, c.forget-size.ensures.consumed) in
    let same : c.consumed-consumed.result - n ≡ i.store.registers.now.consumed - n = ap (λ k. k - n) (c.consumed-consumed.ensures.value ∙ v.consumed) in
    let new : TapeState g.row.R.Denot = record { source = i.tape.source; bytes = drop n i.tape.bytes; consumed = i.tape.consumed - n } in
    let at = λ (k : ℕ). record l { registers = record l.registers { consumed = k } } in
    ap (λ (s : g.row.R.Denot). standing (record { source = s; bytes = tape.bytes; consumed = tape.consumed }) (at (c.consumed-consumed.result - n))) c.forget-size.ensures.source
    ∙ ap (λ (b : Bytes). standing (record { source = i.tape.source; bytes = b; consumed = tape.consumed }) (at (c.consumed-consumed.result - n))) c.forget-size.ensures.bytes
    ∙ ap (λ (k : ℕ). standing (record { source = i.tape.source; bytes = drop n i.tape.bytes; consumed = k }) (at (c.consumed-consumed.result - n))) less
    ∙ ap (λ (k : ℕ). standing new (at k)) same
    ∙ standing_as i.code i.settings i.steps i.sets.items i.point i.tape l i.executed (reverse i.here.items) (Some 0) (last_of i.last None) (dropped n) new (at (i.store.registers.now.consumed - n)) none refl
    ∙ ap (dropped n) c.self.view_is
