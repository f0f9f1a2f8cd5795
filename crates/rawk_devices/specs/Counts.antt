-- Counts that rise: a law of them, for the crates above.
use Rattle.std.specs.Prelude.{◌≡◌, ℕ, ◌+◌}
use Rattle.std.proofs.Common.{arith}
use Rattle.rawk_devices.specs.Inputs.{CountsUp}

-- two rises, one after the other
pub counts_more : (a b c m n : ℕ) → CountsUp a b m → CountsUp b c n → CountsUp a c (m + n)
counts_more a b c m n first second = λ small.
    let f : b ≡ a + m = first (omega arith) in
    let s : c ≡ b + n = second (omega arith) in
    omega arith
