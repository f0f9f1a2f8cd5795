use Rattle.std.proofs.Common.{◌≡◌, ℕ, ◌<◌, length, get_or, true, false}
use Rattle.rawk_ere_tree.proofs.set.unmark.Given as goal

abbrev pub invariant-loop-index : goal.invariant-loop-index
invariant-loop-index l = (length l.marks.items ≡ length l.fn.marks.items)
    × ((q : ℕ) → get_or l.marks.items q false ≡ true → (get_or l.fn.marks.items q false ≡ true) × ((k : ℕ) → k < l.index → get_or l.members k 0 ≡ q → ⊥))
