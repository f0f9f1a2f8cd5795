-- How many steps a session keeps.
use Rattle.std.specs.Prelude.{ℕ, ◌≤◌, Option}
use Rattle.std.specs.Option.{ForSome}
use Rattle.rawk_limits.specs.declared.TheConstants.{HISTORY}

-- all of them, or the newest ones, one at least, within the limit
abbrev pub IsHistory : Option ℕ → Type 0
IsHistory history = ForSome history (λ h. (1 ≤ h) × (h ≤ HISTORY))
