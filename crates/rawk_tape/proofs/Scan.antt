-- Searches that go on from a place.
use Rattle.std.proofs.Common.{◌≡◌, ◌≤◌, ◌<◌, ◌+◌, ◌-◌, ℕ, Bool, List, length, drop, arith, subst}
use Rattle.std.proofs.lemmas.List.{length-drop, get_or-drop}
use Rattle.memchr.specs.Find.{Nowhere, NoneBefore, Passes}

pub Passes-drop : (p : ℕ → Bool) (hay : List ℕ) (from k : ℕ) → from ≤ k → Passes p hay k → Passes p (drop from hay) (k - from)
Passes-drop p hay from k low pass =
    let e : from + (k - from) ≡ k = omega arith in rw (get_or-drop, e) pass

pub Nowhere-drop : (p : ℕ → Bool) (hay : List ℕ) (from n : ℕ) → Nowhere (Passes p (drop from hay)) 0 n → Nowhere (Passes p hay) from (from + n)
Nowhere-drop p hay from n h k low high pass =
    h (k - from) (omega arith) (omega arith) (Passes-drop p hay from k low pass)

-- a search in the rest of a list is a search in the list
pub found_in_rest : (p : ℕ → Bool) (hay rest : List ℕ) (from at : ℕ) → rest ≡ drop from hay → from ≤ length hay → (NoneBefore (Passes p rest) 0 (length rest) at × Passes p rest at) → NoneBefore (Passes p hay) from (length hay) (from + at) × Passes p hay (from + at)
found_in_rest p hay rest from at e low h =
    let h' : NoneBefore (Passes p (drop from hay)) 0 (length (drop from hay)) at × Passes p (drop from hay) at = subst (λ (s : List ℕ). NoneBefore (Passes p s) 0 (length s) at × Passes p s at) e h in
    let high : at < length (drop from hay) = h'.0.high in
    (record { low = omega arith; high = omega (arith, length-drop from hay); before = Nowhere-drop p hay from at h'.0.before }, rw get_or-drop at h'.1)

pub none_in_rest : (p : ℕ → Bool) (hay rest : List ℕ) (from : ℕ) → rest ≡ drop from hay → from ≤ length hay → Nowhere (Passes p rest) 0 (length rest) → Nowhere (Passes p hay) from (length hay)
none_in_rest p hay rest from e low h =
    let h' : Nowhere (Passes p (drop from hay)) 0 (length (drop from hay)) = subst (λ (s : List ℕ). Nowhere (Passes p s) 0 (length s)) e h in
    let n : from + length (drop from hay) ≡ length hay = omega (arith, length-drop from hay) in
    subst (λ m. Nowhere (Passes p hay) from m) n (Nowhere-drop p hay from (length (drop from hay)) h')
