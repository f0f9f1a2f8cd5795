-- Lines of a text.
use Rattle.std.specs.Prelude.{ℕ, ◌+◌, ◌-◌, ◌==◌, List, length, take, count_by}

-- how many newlines there are in a text
abbrev pub newlines : List ℕ → ℕ
newlines text = count_by (λ b. b == 10) text

-- the line, from 1, of the place with `left` bytes left: one more than the newlines before it
abbrev pub line_of : List ℕ → ℕ → ℕ
line_of text left = newlines (take (length text - left) text) + 1
