use Rattle.std.proofs.Common.{◌∙◌, ap, refl, arith, length}
use Rattle.rawk_arrays.specs.Laid.{Laid, arrays_of}
use Rattle.rawk_arrays.specs.ListLaws.{length_arrays, spread_arrays}
use Rattle.rawk_arrays.proofs.arrays.Arrays.place_numbered.Goals as goal

pub returns-then-array-self-clause-place : goal.returns-then-array-self-clause-place
returns-then-array-self-clause-place c =
    let s = c.self.inside in
    let l : Laid = record { index = s.index; slots = s.cells.now; live = s.live } in
    omega (arith, length_arrays l, ap (λ w. length (arrays_of w.now)) c.self.view_is, c.if-array-self.true)

pub returns-in_err-place-clause-same : goal.returns-in_err-place-clause-same
returns-in_err-place-clause-same c =
    let s = c.self.inside in
    let l : Laid = record { index = s.index; slots = s.cells.now; live = s.live } in
    let m : Laid = record { index = c.slot_for_number.new.index; slots = c.slot_for_number.new.cells.now; live = s.live } in
    spread_arrays l m refl c.self.invariant.laid.array_key c.slot_for_number.ensures.more c.slot_for_number.ensures.now ∙ ap (λ w. arrays_of w.now) c.self.view_is

pub returns-clause-same : goal.returns-clause-same
returns-clause-same c =
    let s = c.self.inside in
    let l : Laid = record { index = s.index; slots = s.cells.now; live = s.live } in
    let m : Laid = record { index = c.slot_for_number.new.index; slots = c.slot_for_number.new.cells.now; live = s.live } in
    spread_arrays l m refl c.self.invariant.laid.array_key c.slot_for_number.ensures.more c.slot_for_number.ensures.now ∙ ap (λ w. arrays_of w.now) c.self.view_is
