-- The bytes that pass through a source or a sink.
use Rattle.std.proofs.Common.{◌≡◌, ◌≤◌, ◌+◌, ◌-◌, ℕ, List, length, ◌++◌, take, drop, slice_range, arith, subst, sym, ◌∙◌, ap}
use Rattle.std.proofs.lemmas.List.{length-drop, length-take-le, take-take, append_assoc, take-append-drop, drop-drop}
use Rattle.std.proofs.Math.Seq.{take-add}
use Rattle.rawk_devices.specs.Inputs.{Input, before, left_from, is_failed}
use Rattle.rawk_devices.specs.declared.source.Ending.{Ending}

-- bytes of a source in memory, copied to the front of a buffer, stood before what is left
pub bytes_handed : (bytes lent buf : List ℕ) (place size : ℕ) (ending : Ending) (rest : Input) → lent ≡ bytes → place + size ≤ length bytes → take (length (slice_range lent place (place + size))) buf ≡ slice_range lent place (place + size) → rest ≡ left_from bytes (place + size) ending → before (take size buf) rest ≡ left_from bytes place ending
bytes_handed bytes lent buf place size ending rest e fits front gives =
    let f : take (length (slice_range bytes place (place + size))) buf ≡ slice_range bytes place (place + size) = subst (λ (x : List ℕ). take (length (slice_range x place (place + size))) buf ≡ slice_range x place (place + size)) e front in
    let d : place + size - place ≡ size = omega arith in
    let cut : slice_range bytes place (place + size) ≡ take size (drop place bytes) = ap (λ k. take k (drop place bytes)) d in
    let m : size ≤ length (drop place bytes) = omega (arith, length-drop place bytes) in
    let n : length (slice_range bytes place (place + size)) ≡ size = ap length cut ∙ length-take-le size (drop place bytes) m in
    let chunk : take size buf ≡ take size (drop place bytes) = ap (λ k. take k buf) (sym n) ∙ (f ∙ cut) in
    let whole : take size buf ++ drop (place + size) bytes ≡ drop place bytes = ap (λ (x : List ℕ). x ++ drop (place + size) bytes) chunk ∙ (ap (λ (x : List ℕ). take size (drop place bytes) ++ x) (sym (drop-drop size place bytes)) ∙ take-append-drop size (drop place bytes)) in
    ap (before (take size buf)) gives ∙ ap (λ (x : List ℕ). record { bytes = x; fails = is_failed ending }) whole

-- what a sink holds after one write more
pub written : (held bytes : List ℕ) (at size : ℕ) → at + size ≤ length bytes → (held ++ take at bytes) ++ take size (slice_range bytes at (length bytes)) ≡ held ++ take (at + size) bytes
written held bytes at size low =
    let l : size ≤ length bytes - at = omega arith in
    append_assoc held (take at bytes) _ ∙ ap (λ (x : List ℕ). held ++ x) (ap (λ (x : List ℕ). take at bytes ++ x) (take-take size (length bytes - at) (drop at bytes) l) ∙ sym (take-add at size bytes))
