-- Lemmas on buffers that grow at their end.
use Rattle.std.proofs.Common.{◌≡◌, ap, ◌∙◌, ℕ, ◌-◌, ◌++◌, Bool, append_assoc, length, replicate}
use Rattle.std.specs.Prelude.{◌||◌, if◌then◌else◌}
use Rattle.rawk_value.specs.Values.{Bytes}
use Rattle.rawk_format.specs.Format.{padded}
use Rattle.rawk_format.specs.Grown.{Follows}

pub follows_then : {a b c : Bytes} → Follows a b → Follows b c → Follows a c
follows_then {a} {b} {c} f g = record { more = f.more ++ g.more; grown = g.grown ∙ ap (λ x. x ++ g.more) f.grown ∙ append_assoc a f.more g.more }

-- a body behind a head, filled up to a width, in five pieces
pub padded_in_pieces : (left filled : Bool) (width room before between behind : ℕ) (head body shown a b c d e f : Bytes)
    → b ≡ a ++ replicate before 32 → c ≡ b ++ shown → d ≡ c ++ replicate between 48 → e ≡ d ++ body → f ≡ e ++ replicate behind 32
    → shown ≡ head → room ≡ width - length shown - length body → before ≡ (if left || filled then 0 else room) → between ≡ (if filled then room else 0) → behind ≡ (if left then room else 0)
    → f ≡ a ++ padded left filled width head body
padded_in_pieces left filled width room before between behind head body shown a b c d e f p1 p2 p3 p4 p5 is r k1 k2 k3 =
    let whole : f ≡ (((a ++ replicate before 32) ++ shown) ++ replicate between 48 ++ body) ++ replicate behind 32 = cc in
    let flat : f ≡ a ++ (replicate before 32 ++ (shown ++ (replicate between 48 ++ (body ++ replicate behind 32)))) = whole ∙ simp append_assoc in
    let same : room ≡ width - length head - length body = r ∙ ap (λ t. width - length t - length body) is in
    let before_is : before ≡ (if left || filled then 0 else width - length head - length body) = k1 ∙ ap (λ n. if left || filled then 0 else n) same in
    let between_is : between ≡ (if filled then width - length head - length body else 0) = k2 ∙ ap (λ n. if filled then n else 0) same in
    let behind_is : behind ≡ (if left then width - length head - length body else 0) = k3 ∙ ap (λ n. if left then n else 0) same in
    flat ∙ ap (λ n. a ++ (replicate n 32 ++ (shown ++ (replicate between 48 ++ (body ++ replicate behind 32))))) before_is
    ∙ ap (λ t. a ++ (replicate (if left || filled then 0 else width - length head - length body) 32 ++ (t ++ (replicate between 48 ++ (body ++ replicate behind 32))))) is
    ∙ ap (λ n. a ++ (replicate (if left || filled then 0 else width - length head - length body) 32 ++ (head ++ (replicate n 48 ++ (body ++ replicate behind 32))))) between_is
    ∙ ap (λ n. a ++ (replicate (if left || filled then 0 else width - length head - length body) 32 ++ (head ++ (replicate (if filled then width - length head - length body else 0) 48 ++ (body ++ replicate n 32))))) behind_is
