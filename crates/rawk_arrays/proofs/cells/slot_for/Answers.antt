use Rattle.std.proofs.Common.{◌+◌, arith, refl}
use Rattle.std.proofs.lemmas.Option.{slice_get_within}
use Rattle.rawk_keys.specs.ArrayKey.{array_key}
use Rattle.rawk_arrays.specs.PlaceLaws.{covered_now, laid_covered}
use Rattle.rawk_arrays.proofs.Counting.{counted_more}
use Rattle.rawk_arrays.proofs.cells.slot_for.Goals as goal

pub returns-in_err-number-clause-counted : goal.returns-in_err-number-clause-counted
returns-in_err-number-clause-counted c =
    counted_more c.args.array c.args.index.now c.number_of.new.index c.args.cells.now.now c.args.cells.now.now c.args.counts.now.items c.reach.new.counts.items c.requires.laid.array_key c.number_of.ensures.more c.number_of.ensures.added
    (record { longer = omega arith; same = λ i. refl }) c.reach.ensures.more c.in_ok-reach.ensures.room c.requires.counted

pub overflow_add-number : goal.overflow_add-number
overflow_add-number c =
    let lt = slice_get_within c.number_of.new.index c.in_ok-number.number (array_key c.args.array c.args.key.now) c.in_ok-number.ensures.there in
    omega (arith, lt, c.len-count.ensures)

pub returns-in_err-cover-clause-laid : goal.returns-in_err-cover-clause-laid
returns-in_err-cover-clause-laid c =
    let lt = slice_get_within c.number_of.new.index c.in_ok-number.number (array_key c.args.array c.args.key.now) c.in_ok-number.ensures.there in
    laid_covered (c.in_ok-number.number + 1) c.args.index.now c.number_of.new.index c.args.cells.now c.cover.new.cells c.requires.laid c.number_of.ensures.more (c.number_of.ensures.distinct c.requires.laid.distinct) c.cover.ensures.covered (omega (arith, lt))

pub returns-in_err-cover-clause-counted : goal.returns-in_err-cover-clause-counted
returns-in_err-cover-clause-counted c =
    counted_more c.args.array c.args.index.now c.number_of.new.index c.args.cells.now.now c.cover.new.cells.now c.args.counts.now.items c.reach.new.counts.items c.requires.laid.array_key c.number_of.ensures.more c.number_of.ensures.added
    (covered_now (c.in_ok-number.number + 1) c.args.cells.now c.cover.new.cells c.cover.ensures.covered) c.reach.ensures.more c.in_ok-reach.ensures.room c.requires.counted

pub returns-clause-laid : goal.returns-clause-laid
returns-clause-laid c =
    let lt = slice_get_within c.number_of.new.index c.in_ok-number.number (array_key c.args.array c.args.key.now) c.in_ok-number.ensures.there in
    laid_covered (c.in_ok-number.number + 1) c.args.index.now c.number_of.new.index c.args.cells.now c.cover.new.cells c.requires.laid c.number_of.ensures.more (c.number_of.ensures.distinct c.requires.laid.distinct) c.cover.ensures.covered (omega (arith, lt))

pub returns-clause-counted : goal.returns-clause-counted
returns-clause-counted c =
    counted_more c.args.array c.args.index.now c.number_of.new.index c.args.cells.now.now c.cover.new.cells.now c.args.counts.now.items c.reach.new.counts.items c.requires.laid.array_key c.number_of.ensures.more c.number_of.ensures.added
    (covered_now (c.in_ok-number.number + 1) c.args.cells.now c.cover.new.cells c.cover.ensures.covered) c.reach.ensures.more c.in_ok-reach.ensures.room c.requires.counted
