use Rattle.std.proofs.Common.{◌≡◌, ◌∙◌, ◌<◌, ◌≤◌, ◌-◌, ℕ, ap, Bool, true, false, List, length, reverse, slice_set, take, if◌then◌else◌}
use Rattle.std.specs.Option.{is_some}
use Rattle.rawk_slots.specs.Stacked.{live_values}
use Rattle.rawk_slots.proofs.Stacks.{set-newest}
use Rattle.rawk_slots.proofs.stack.Stack.take_newest.Goals as goal

newest_if : {T : Type 0} (b : Bool) (xs ys : List T) (live : ℕ) (v : T) → ys ≡ (if b then slice_set xs (live - 1) v else xs) → 0 < live → live ≤ length xs →
    reverse (take live ys) ≡ (if b then slice_set (reverse (take live xs)) 0 v else reverse (take live xs))
newest_if {T} true xs ys live v e h k = ap (λ (zs : List T). reverse (take live zs)) e ∙ set-newest xs live v h k
newest_if {T} false xs ys live v e h k = ap (λ (zs : List T). reverse (take live zs)) e

pub returns-then-self-gt0-clause-after : goal.returns-then-self-gt0-clause-after
returns-then-self-gt0-clause-after g c =
    let s = c.self.inside in
    newest_if (is_some c.take_changed.result) s.slots.now _ s.live c.args.spare c.take_changed.ensures.after c.if-self-gt0.true c.self.invariant.now
    ∙ ap (λ w. if is_some c.take_changed.result then slice_set (live_values w.now) 0 c.args.spare else live_values w.now) c.self.view_is
