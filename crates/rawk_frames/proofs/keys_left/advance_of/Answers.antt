use Rattle.std.proofs.Common.{ap, ◌∙◌, arith, List, ℕ}
use Rattle.rawk_slots.specs.Stacked.{live_values}
use Rattle.rawk_frames.specs.LaidKeys.{left_lists}
use Rattle.rawk_frames.proofs.Loops.{loop_advanced, loop_over, no_lists, nothing_left}
use Rattle.rawk_frames.proofs.keys_left.advance_of.Goals as goal

pub returns-in-None-newest-clause-did : goal.returns-in-None-newest-clause-did
returns-in-None-newest-clause-did g c =
    let ns = live_values c.args.visited.now.now in
    let ls = live_values c.args.lists.now.now in
    nothing_left (left_lists ns ls) (no_lists ns ls c.in-None-newest.ensures)

pub returns-in_ok-set_newest-clause-did : goal.returns-in_ok-set_newest-clause-did
returns-in_ok-set_newest-clause-did g c =
    let ns = live_values c.args.visited.now.now in
    let ls = live_values c.args.lists.now.now in
    ap (λ (ms : List ℕ). left_lists ms ls) c.in_ok-set_newest.ensures.did ∙ loop_advanced ns ls c.in-Some.count.now c.in-Some.ensures

pub returns-else-next-length-clause-did : goal.returns-else-next-length-clause-did
returns-else-next-length-clause-did g c =
    let ns = live_values c.args.visited.now.now in
    let ls = live_values c.args.lists.now.now in
    loop_over ns ls c.in-Some.count.now c.in-Some-newest.list.now c.in-Some.ensures c.in-Some-newest.ensures (omega (arith, c.if-next-length.false, c.len-length.ensures, c.in-Some-newest.list.now.ok.0))
