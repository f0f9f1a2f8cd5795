use Rattle.std.proofs.Common.{◌≡◌, ◌<◌, ◌+◌, ◌-◌, ◌∙◌, [], ℕ, ap, arith, drop, length, get_or, set, subst}
use Rattle.std.proofs.lemmas.Option.{slice_get-get_or}
use Rattle.rawk_slots.specs.Back.{back}
use Rattle.rawk_keys.specs.ArrayKey.{ArrayKey, array_key}
use Rattle.rawk_arrays.specs.Counted.{AreCounted}
use Rattle.rawk_arrays.specs.Walks.{one}
use Rattle.rawk_arrays.proofs.Counting.{Entry, back_room, below_at, counted_back}
use Rattle.rawk_arrays.proofs.counts.recount_back.Goals as goal

pub recount-requires-clause-there : goal.recount-requires-clause-there
recount-requires-clause-there c =
    let e : Entry = c.index-saved-left.result in
    let b = below_at (length c.args.cells.now.now) c.args.saved.now (c.loop-left.left - 1) e c.requires.below (omega (arith, c.loop-left-test.true, c.loop-left.invariant.within)) in
    omega (arith, b, ap (λ (x : Entry). x.place) c.index-saved-left.is, c.requires.laid.array_key)

pub recount-requires-clause-room : goal.recount-requires-clause-room
recount-requires-clause-room c = λ name is.
    let e : Entry = c.index-saved-left.result in
    let i = c.loop-left.left - 1 in
    let lt : i < length c.args.saved.now = omega (arith, c.loop-left-test.true, c.loop-left.invariant.within) in
    let n : c.loop-left.left ≡ i + 1 = omega (arith, c.loop-left-test.true) in
    let before : AreCounted c.args.index.now (back c.args.cells.now.now (drop (i + 1) c.args.saved.now)) c.loop-left.counts.items = subst (λ k. AreCounted c.args.index.now (back c.args.cells.now.now (drop k c.args.saved.now)) c.loop-left.counts.items) n c.loop-left.invariant.counted in
    let room = back_room c.args.index.now c.args.cells.now.now c.args.saved.now i e name c.loop-left.counts.items c.requires.laid c.requires.below c.requires.distinct lt c.index-saved-left.is before is in
    omega (arith, room, ap one c.is_some.ensures, ap one c.is_filled-was.ensures, c.len-names.ensures)

pub loop-left-preserved : goal.loop-left-preserved
loop-left-preserved c =
    let e : Entry = c.index-saved-left.result in
    let i = c.loop-left.left - 1 in
    let lt : i < length c.args.saved.now = omega (arith, c.loop-left-test.true, c.loop-left.invariant.within) in
    let n : c.loop-left.left ≡ i + 1 = omega (arith, c.loop-left-test.true) in
    let before : AreCounted c.args.index.now (back c.args.cells.now.now (drop (i + 1) c.args.saved.now)) c.loop-left.counts.items = subst (λ k. AreCounted c.args.index.now (back c.args.cells.now.now (drop k c.args.saved.now)) c.loop-left.counts.items) n c.loop-left.invariant.counted in
    let name : ArrayKey = get_or c.args.index.now e.place (array_key 0 []) in
    let place = below_at (length c.args.cells.now.now) c.args.saved.now i e c.requires.below lt in
    let is = slice_get-get_or c.args.index.now e.place (array_key 0 []) (omega (arith, place, ap (λ (x : Entry). x.place) c.index-saved-left.is, c.requires.laid.array_key)) in
    record {
      within = omega (arith, lt);
      counted = counted_back c.args.index.now c.args.cells.now.now c.args.saved.now i e name c.loop-left.counts.items c.recount.new.counts.items c.requires.laid c.requires.below c.requires.distinct lt c.index-saved-left.is before is
          (c.recount.ensures name is ∙ ap (λ (m : ℕ). set c.loop-left.counts.items name.array m) (omega (arith, ap one c.is_some.ensures, ap one c.is_filled-was.ensures)));
    }
