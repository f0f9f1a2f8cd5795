-- What a `{` begins.
use Rattle.std.proofs.Common.{◌≡◌, ℕ, ◌+◌, ◌-◌, ◌≤◌, min, Bool, true, false, ◌&&◌, if◌then◌else◌, List, drop, sym, ap, ◌∙◌, arith}
use Rattle.std.specs.Prelude.{nat_le}
use Rattle.std.proofs.lemmas.List.{drop-drop}
use Rattle.rawk_ere_tree.specs.declared.node.Count.TheVariants.{AtLeast, Between}
use Rattle.rawk_ere_pattern.specs.Pattern.{begins, begins_digit, digits_from, Braced, Itself, Wrong, Interval, at_least, between, exactly, after_comma, after_least, without_least, braced}
use Rattle.rawk_ere_pattern.proofs.PatternLemmas.{le_true}

abbrev without : Bool → Bool → Bool → Braced
without comma digit end = if comma && (digit && end) then Wrong else Itself

pub without_is : (at : ℕ) (p : List ℕ) (c d e : Bool) → begins 44 (drop at p) ≡ c → begins_digit (drop (at + 1) p) ≡ d → begins 125 (digits_from 0 (drop (at + 1) p)).1 ≡ e → without_least (drop at p) ≡ without c d e
without_is at p c d e hc hd he =
    let s = drop at p in
    let n = drop-drop 1 at p in
    ap (λ b. without b (begins_digit (drop 1 s)) (begins 125 (digits_from 0 (drop 1 s)).1)) hc
    ∙ ap (λ l. without c (begins_digit l) (begins 125 (digits_from 0 l).1)) n
    ∙ ap (λ b. without c b (begins 125 (digits_from 0 (drop (at + 1) p)).1)) hd ∙ ap (without c d) he

abbrev comma_of : Bool → Bool → ℕ → List ℕ → Braced
comma_of end digit m s = if end then at_least m (drop 1 s) else if digit then between m (digits_from 0 s) else Itself

pub at_least_is : (least m at : ℕ) (p : List ℕ) → least ≡ min m 256 → least ≤ 255 → begins 125 (drop at p) ≡ true → after_comma m (drop at p) ≡ Interval (AtLeast least) (drop (at + 1) p)
at_least_is least m at p e le h =
    let s = drop at p in
    let is : m ≡ least = omega arith in
    ap (λ b. comma_of b (begins_digit s) m s) h ∙ ap (λ k. at_least k (drop 1 s)) is ∙ ap (λ b. if b then Interval (AtLeast least) (drop 1 s) else Wrong) (le_true least 255 le) ∙ ap (Interval (AtLeast least)) (drop-drop 1 at p)

abbrev between_of : Bool → Bool → Bool → ℕ → ℕ × List ℕ → Braced
between_of end low high m n = if end then (if low && high then Interval (Between m (n.0 - m)) (drop 1 n.1) else Wrong) else Itself

pub between_is : (least most m at next : ℕ) (p : List ℕ) → least ≡ min m 256 → most ≡ min (digits_from 0 (drop at p)).0 256 → drop next p ≡ (digits_from 0 (drop at p)).1 → least ≤ most → most ≤ 255
    → begins 125 (drop at p) ≡ false → begins_digit (drop at p) ≡ true → begins 125 (drop next p) ≡ true → after_comma m (drop at p) ≡ Interval (Between least (most - least)) (drop (next + 1) p)
between_is least most m at next p e f r le top h d k =
    let s = drop at p in
    let n = digits_from 0 s in
    let im : m ≡ least = omega arith in
    let io : n.0 ≡ most = omega arith in
    let k' : begins 125 n.1 ≡ true = sym (ap (begins 125) r) ∙ k in
    let low : nat_le m n.0 ≡ true = le_true m n.0 (omega arith) in
    let high : nat_le n.0 255 ≡ true = le_true n.0 255 (omega arith) in
    ap (λ b. comma_of b (begins_digit s) m s) h ∙ ap (λ b. comma_of false b m s) d
    ∙ ap (λ b. between_of b (nat_le m n.0) (nat_le n.0 255) m n) k' ∙ ap (λ b. between_of true b (nat_le n.0 255) m n) low ∙ ap (λ b. between_of true true b m n) high
    ∙ ap (λ x. Interval (Between x (n.0 - x)) (drop 1 n.1)) im ∙ ap (λ x. Interval (Between least (x - least)) (drop 1 n.1)) io
    ∙ ap (λ l. Interval (Between least (most - least)) (drop 1 l)) (sym r) ∙ ap (Interval (Between least (most - least))) (drop-drop 1 next p)

abbrev braced_of : Bool → List ℕ → Braced
braced_of digit s = if digit then after_least (digits_from 0 s) else without_least s

abbrev least_of : Bool → Bool → ℕ × List ℕ → Braced
least_of end comma m = if end then exactly m.0 (drop 1 m.1) else if comma then after_comma m.0 (drop 1 m.1) else Itself

pub exactly_is : (least at next : ℕ) (p : List ℕ) → least ≡ min (digits_from 0 (drop at p)).0 256 → drop next p ≡ (digits_from 0 (drop at p)).1 → least ≤ 255 → begins_digit (drop at p) ≡ true → begins 125 (drop next p) ≡ true
    → braced (drop at p) ≡ Interval (Between least 0) (drop (next + 1) p)
exactly_is least at next p e r le d h =
    let s = drop at p in
    let m = digits_from 0 s in
    let is : m.0 ≡ least = omega arith in
    let h' : begins 125 m.1 ≡ true = sym (ap (begins 125) r) ∙ h in
    ap (λ b. braced_of b s) d ∙ ap (λ b. least_of b (begins 44 m.1) m) h' ∙ ap (λ x. exactly x (drop 1 m.1)) is
    ∙ ap (λ b. if b then Interval (Between least 0) (drop 1 m.1) else Wrong) (le_true least 255 le)
    ∙ ap (λ l. Interval (Between least 0) (drop 1 l)) (sym r) ∙ ap (Interval (Between least 0)) (drop-drop 1 next p)

pub comma_is : (at next : ℕ) (p : List ℕ) → drop next p ≡ (digits_from 0 (drop at p)).1 → begins_digit (drop at p) ≡ true → begins 125 (drop next p) ≡ false → begins 44 (drop next p) ≡ true
    → after_comma (digits_from 0 (drop at p)).0 (drop (next + 1) p) ≡ braced (drop at p)
comma_is at next p r d h k =
    let s = drop at p in
    let m = digits_from 0 s in
    let h' : begins 125 m.1 ≡ false = sym (ap (begins 125) r) ∙ h in
    let k' : begins 44 m.1 ≡ true = sym (ap (begins 44) r) ∙ k in
    sym (ap (λ b. braced_of b s) d ∙ ap (λ b. least_of b (begins 44 m.1) m) h' ∙ ap (λ b. least_of false b m) k'
    ∙ ap (λ l. after_comma m.0 (drop 1 l)) (sym r) ∙ ap (after_comma m.0) (drop-drop 1 next p))
