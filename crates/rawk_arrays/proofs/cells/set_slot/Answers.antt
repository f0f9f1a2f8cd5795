use Rattle.std.proofs.Common.{◌<◌, ◌∙◌, ℕ, ap, arith, length, get_or, set, []}
use Rattle.std.proofs.lemmas.Option.{slice_get-get_or}
use Rattle.rawk_keys.specs.ArrayKey.{ArrayKey, array_key}
use Rattle.rawk_arrays.specs.Laid.{IsLaid}
use Rattle.rawk_arrays.specs.Walks.{one}
use Rattle.rawk_arrays.proofs.Counting.{count_room, counted_put}
use Rattle.rawk_arrays.proofs.cells.set_slot.Goals as goal

pub recount-requires-clause-room : goal.recount-requires-clause-room
recount-requires-clause-room g c = λ name is.
    let laid : IsLaid c.args.index.now c.args.cells.now.now = record { distinct = c.requires.laid.distinct; array_key = c.requires.laid.array_key } in
    let lt : c.args.number < length c.args.cells.now.now = omega (arith, c.if-number-len.false, c.len.ensures) in
    let room = count_room c.args.index.now c.args.cells.now.now c.args.number c.args.value name c.args.counts.now.items laid is lt c.requires.counted in
    omega (arith, room, ap one c.is_some-is.ensures, ap one c.is_filled-was.ensures, c.len-names.ensures)

pub returns-clause-counted : goal.returns-clause-counted
returns-clause-counted g c =
    let index = c.args.index.now in
    let counts = c.args.counts.now.items in
    let laid : IsLaid index c.args.cells.now.now = record { distinct = c.requires.laid.distinct; array_key = c.requires.laid.array_key } in
    let lt : c.args.number < length c.args.cells.now.now = omega (arith, c.if-number-len.false, c.len.ensures) in
    let name : ArrayKey = get_or index c.args.number (array_key 0 []) in
    let is = slice_get-get_or index c.args.number (array_key 0 []) (omega (arith, lt, c.requires.laid.array_key)) in
    let made = c.recount.ensures name is in
    rw c.in_ok-write.ensures.did
    (counted_put index c.args.cells.now.now c.args.number c.args.value name counts c.recount.new.counts.items laid is lt c.requires.counted
    (made ∙ ap (λ (n : ℕ). set counts name.array n) (omega (arith, ap one c.is_some-is.ensures, ap one c.is_filled-was.ensures))))
