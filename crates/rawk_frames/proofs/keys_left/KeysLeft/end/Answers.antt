use Rattle.std.proofs.Common.{ap, drop, ◌∙◌, List, ℕ}
use Rattle.std.specs.Global.{Vec}
use Rattle.rawk_value.specs.Values.{Bytes}
use Rattle.rawk_slots.specs.Stacked.{live_values}
use Rattle.rawk_frames.specs.LaidKeys.{keys_of, left_lists}
use Rattle.rawk_frames.proofs.Loops.{drop_lists}
use Rattle.rawk_frames.proofs.keys_left.KeysLeft.end.Goals as goal

pub returns-clause-did : goal.returns-clause-did
returns-clause-did c =
    let s = c.self.inside in
    ap (λ (ns : List ℕ). left_lists ns (live_values c.drop_newest.new.self.now)) c.drop_newest-2.ensures.did
    ∙ (ap (λ (ls : List (Vec Bytes)). left_lists (drop c.args.count (live_values s.visited.now)) ls) c.drop_newest.ensures.did
    ∙ (drop_lists c.args.count (live_values s.visited.now) (live_values s.lists.now) ∙ ap (λ w. drop c.args.count (keys_of w.now)) c.self.view_is))
