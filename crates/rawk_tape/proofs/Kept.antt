-- The bytes of a buffer after a read behind them, and after the first of them were let go.
use Rattle.std.proofs.Common.{◌≡◌, ◌≤◌, ◌<◌, ◌+◌, ◌-◌, ℕ, zero, suc, Bool, true, false, List, None, Some, Result, Ok, Err, length, ◌++◌, take, drop, arith, refl, sym, ◌∙◌, ap, if◌then◌else◌}
use Rattle.std.proofs.lemmas.List.{length-drop, length-take-le, take-append-le, drop-take}
use Rattle.std.proofs.lemmas.List.Edits.{take-paste}
use Rattle.std.proofs.Math.Seq.{take-append-add, paste}
use Rattle.rawk_devices.specs.declared.source.DeviceFault.{DeviceFault}
use Rattle.rawk_devices.specs.declared.source.Ending.TheVariants.{Ended, Failed}
use Rattle.rawk_devices.specs.Inputs.{size_taken, ending_of}
use Rattle.rawk_tape.specs.Lines.{failures_by}

-- bytes put behind the first of a list
pub put_behind : (xs ys more : List ℕ) (end size : ℕ) → end ≤ length xs → size ≤ length ys → take (end + size) (take end xs ++ (ys ++ more)) ≡ take end xs ++ take size ys
put_behind xs ys more end size low high =
    let n : length (take end xs) ≡ end = length-take-le end xs low in
    ap (λ k. take (k + size) (take end xs ++ (ys ++ more))) (sym n) ∙ (take-append-add (take end xs) (ys ++ more) size ∙ ap (λ (x : List ℕ). take end xs ++ x) (take-append-le size ys more high))

-- a part copied to the front
pub moved_to_front : (xs : List ℕ) (size end : ℕ) → size ≤ end → end ≤ length xs → take (end - size) (paste xs 0 (drop size xs) (end - size)) ≡ drop size (take end xs)
moved_to_front xs size end low high =
    let z : 0 + (end - size) ≡ end - size = omega arith in
    let e : size + (end - size) ≡ end = omega arith in
    let m : end - size ≤ length (drop size xs) = omega (arith, length-drop size xs) in
    let zero_in : 0 ≤ length xs = omega arith in
    ap (λ k. take k (paste xs 0 (drop size xs) (end - size))) (sym z) ∙ (take-paste xs 0 (drop size xs) (end - size) zero_in m ∙ (sym (drop-take size (end - size) xs) ∙ ap (λ k. drop size (take k xs)) e))

-- a read that did not end took some bytes
pub some_taken : (read : Result ℕ DeviceFault) → ending_of read ≡ None → 0 < size_taken read
some_taken (Ok zero) e = cc
some_taken (Ok (suc n)) e = omega arith
some_taken (Err fault) e = cc

none_failed : (b : Bool) → failures_by (if b then Some Ended else None) ≡ 0
none_failed true = refl
none_failed false = refl

-- a failed read took none
pub none_taken : (read : Result ℕ DeviceFault) → ending_of read ≡ Some Failed → size_taken read ≡ 0
none_taken (Ok zero) e = refl
none_taken (Ok (suc n)) e = let h : 0 ≡ 1 = sym (none_failed _) ∙ ap failures_by e in absurd (omega (arith, h))
none_taken (Err fault) e = refl
