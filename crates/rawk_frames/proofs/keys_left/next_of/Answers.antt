use Rattle.std.proofs.Common.{ap, sym, ◌∙◌, List, slice_get}
use Rattle.rawk_value.specs.Values.{Bytes}
use Rattle.rawk_slots.specs.Stacked.{live_values}
use Rattle.rawk_frames.proofs.Loops.{loop_now, no_loops, no_lists, none_there}
use Rattle.rawk_frames.proofs.keys_left.next_of.Goals as goal

pub returns-in-Some-newest : goal.returns-in-Some-newest
returns-in-Some-newest c =
    c.key_of.ensures ∙ ap (λ (ks : List Bytes). slice_get ks 0) (sym (loop_now (live_values c.args.visited.now.now) (live_values c.args.lists.now.now) c.in-Some.count.now c.in-Some-newest.list.now c.in-Some.ensures c.in-Some-newest.ensures))

pub returns-in-None-newest : goal.returns-in-None-newest
returns-in-None-newest c = none_there (live_values c.args.visited.now.now) (live_values c.args.lists.now.now) (no_lists (live_values c.args.visited.now.now) (live_values c.args.lists.now.now) c.in-None-newest.ensures)

pub returns-in-None : goal.returns-in-None
returns-in-None c = none_there (live_values c.args.visited.now.now) (live_values c.args.lists.now.now) (no_loops (live_values c.args.visited.now.now) (live_values c.args.lists.now.now) c.in-None.ensures)
