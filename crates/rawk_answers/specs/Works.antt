-- What a machine has done up to now, whichever way it went.
use Rattle.std.proofs.Common.{◌≡◌, ℕ, ◌+◌, ◌-◌, ◌≤◌, length, Option, Some, ap, ◌∙◌, arith}
use Rattle.rawk_value.specs.declared.fault.Fault.TheVariants.{ReadFailed}
use Rattle.rawk_value.specs.Values.{Bytes}
use Rattle.rawk_devices.specs.Inputs.{CountsUp}
use Rattle.rawk_devices.specs.declared.source.Ending.{Ending as End}
use Rattle.rawk_code.specs.Actions.{Ending, Faulted}

-- how many instructions it ran, all bytes that it read, and its source as it is left
pub record Work (S : Type 0) : Type 0 where
  pub executed : ℕ
  pub read : Bytes
  pub source : S

-- no fewer instructions were run; more bytes were read, as many as the source handed out, and one that was over was asked for nothing
pub record Draws {S : Type 0} (over : S → Option End) (handed : S → ℕ) (old new : Work S) : Type 0 where
  pub ran : old.executed ≤ new.executed
  pub longer : length old.read ≤ length new.read
  pub counted : CountsUp (handed old.source) (handed new.source) (length new.read - length old.read)
  pub closed : (ending : End) → over old.source ≡ Some ending → (new.source ≡ old.source) × (new.read ≡ old.read)

-- a run that ended by a failed read
abbrev pub read_failed : Ending
read_failed = Faulted ReadFailed

-- nothing was done
pub draws_none : {S : Type 0} (over : S → Option End) (handed : S → ℕ) (old new : Work S) → new ≡ old → Draws over handed old new
draws_none {S} over handed old new same =
    let read : length new.read ≡ length old.read = ap (λ (w : Work S). length w.read) same in
    let count : handed new.source ≡ handed old.source = ap (λ (w : Work S). handed w.source) same in
    let ran : new.executed ≡ old.executed = ap (λ (w : Work S). w.executed) same in
    record {
      ran = omega (arith, ran);
      longer = omega (arith, read);
      counted = λ small. omega (arith, read, count);
      closed = λ ending is. (ap (λ (w : Work S). w.source) same, ap (λ (w : Work S). w.read) same);
    }

-- two of them, one after the other
pub draws_on : {S : Type 0} (over : S → Option End) (handed : S → ℕ) (old now new : Work S) → Draws over handed old now → Draws over handed now new → Draws over handed old new
draws_on {S} over handed old now new first second = record {
  ran = omega (arith, first.ran, second.ran);
  longer = omega (arith, first.longer, second.longer);
  counted = λ small.
      let f : handed now.source ≡ handed old.source + (length now.read - length old.read) = first.counted (omega (arith, small, first.longer, second.longer)) in
      let s : handed new.source ≡ handed now.source + (length new.read - length now.read) = second.counted (omega (arith, small, first.longer, second.longer, f)) in
      omega (arith, f, s, first.longer, second.longer);
  closed = λ ending is.
      let f = first.closed ending is in
      let s = second.closed ending (ap over f.0 ∙ is) in
      (s.0 ∙ f.0, s.1 ∙ f.1);
}
