use Rattle.std.proofs.Common.{◌*◌, ◌<◌, length}
use Rattle.rawk_ere_automaton.specs.Table.{members}
use Rattle.rawk_ere_automaton.proofs.BuildLemmas.{filled_more, extends_more, pushed_length, row_extends, placed_target}
use Rattle.rawk_ere_automaton.proofs.table.fill.Goals as goal

pub loop-byte-preserved : goal.loop-byte-preserved
loop-byte-preserved c =
    let code = c.args.code.now in
    let sets = c.loop-byte.sets.items in
    let new = c.target.new.sets.items in
    let next = c.loop-byte.next.items in
    let row = c.args.row in
    let b = c.loop-byte.byte in
    let index = c.in_ok-index.index in
    let i = c.loop-byte.invariant in
    let lr : row < length sets = row_extends c.args.sets.now.items sets row i.2 c.requires.within in
    let lb : b < 256 = c.loop-byte-test.true in
    let t = c.in_ok-index.ensures in
    let p = placed_target code sets new row b index t in (
      pushed_length next c.push.new.self.items (256 * row) b index i.0 c.in_ok-push.ensures.items,
      filled_more code sets new next c.push.new.self.items row b index (members new index) i.1 lr i.0 lb t.leads p c.in_ok-push.ensures.items,
      extends_more c.args.sets.now.items sets new (members new index) index i.2 p,
    )
