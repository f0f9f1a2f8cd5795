use Rattle.std.proofs.Common.{◌∙◌, ap, sym, arith}
use Rattle.rawk_arrays.specs.Elements.{is_element}
use Rattle.rawk_arrays.specs.Laid.{Laid, IsLaid, arrays_of}
use Rattle.rawk_arrays.specs.ListLaws.{past_element, absent_element, slotless_element}
use Rattle.rawk_arrays.proofs.arrays.Arrays.place_there.Goals as goal

pub returns-then-array-self : goal.returns-then-array-self
returns-then-array-self c =
    let s = c.self.inside in
    let l : Laid = record { index = s.index; slots = s.cells.now; live = s.live } in
    sym (ap (λ w. is_element c.args.array c.args.key.now (arrays_of w.now)) c.self.view_is) ∙ past_element l c.args.array c.args.key.now c.if-array-self.true

pub returns-else-place-len : goal.returns-else-place-len
returns-else-place-len c =
    let s = c.self.inside in
    let l : Laid = record { index = s.index; slots = s.cells.now; live = s.live } in
    let laid : IsLaid l.index l.slots = record { distinct = c.self.invariant.laid.distinct; array_key = c.self.invariant.laid.array_key } in
    sym (ap (λ w. is_element c.args.array c.args.key.now (arrays_of w.now)) c.self.view_is)
    ∙ slotless_element l c.args.array c.args.key.now c.in-Some.place (omega (arith, c.if-array-self.false)) laid c.in-Some.ensures (omega (arith, c.if-place-len.false, c.len.ensures))

pub returns-in-None : goal.returns-in-None
returns-in-None c =
    let s = c.self.inside in
    let l : Laid = record { index = s.index; slots = s.cells.now; live = s.live } in
    sym (ap (λ w. is_element c.args.array c.args.key.now (arrays_of w.now)) c.self.view_is)
    ∙ absent_element l c.args.array c.args.key.now (omega (arith, c.if-array-self.false)) c.self.invariant.laid.array_key c.in-None.ensures
