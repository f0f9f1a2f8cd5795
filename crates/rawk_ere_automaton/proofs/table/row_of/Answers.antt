use Rattle.std.proofs.Common.{◌<◌, [], length, arith}
use Rattle.std.proofs.lemmas.List.{get_or_read}
use Rattle.rawk_ere_automaton.proofs.BuildLemmas.{found_row}
use Rattle.rawk_ere_automaton.proofs.table.row_of.Goals as goal

pub returns-then-is_same : goal.returns-then-is_same
returns-then-is_same c =
    let lt : c.loop-index.index < length c.args.sets.now = omega arith in
    found_row c.args.sets.now c.args.set.now.1 c.loop-index.index c.index-sets-index.result lt (get_or_read c.args.sets.now c.loop-index.index _ lt c.index-sets-index.is (0, [])) (c.is_same.ensures c.if-is_same.true)
