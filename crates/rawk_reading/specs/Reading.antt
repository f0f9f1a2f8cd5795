-- The reading of a record.
use Rattle.std.specs.Prelude.{◌≡◌, ℕ, ◌+◌, ℤ, pos, ◌+ℤ◌, true, false, List, ◌∷◌, length, slice_set, None, Some, Result, Ok, Err}
use Rattle.rawk_value.specs.declared.fault.Fault.{Fault}
use Rattle.rawk_value.specs.declared.value.Value.{Value}
use Rattle.rawk_value.specs.declared.value.Value.TheVariants.{Number}
use Rattle.rawk_value.specs.declared.value.Value.TheVariants as value
use Rattle.rawk_value.specs.Values.{Bytes, next_ok, number_of, checked, text_of, is_empty}
use Rattle.rawk_devices.specs.Inputs.{Input, before}
use Rattle.rawk_record.specs.Shown.{Shown, read_as}
use Rattle.rawk_store.specs.State.{NR, FNR, FS, RS}
use Rattle.rawk_code.specs.Actions.{Point, Run, Goes, Breaks, Stops, Faulted, read_record, read_text}
use Rattle.rawk_reading.specs.declared.reading.Reading.{Reading}
use Rattle.rawk_reading.specs.declared.reading.Reading.TheVariants as reading
use Rattle.rawk_operands.specs.Borrowed.{global_in}
use Rattle.rawk_operands.specs.Moving.{Moving, full}
use Rattle.rawk_value.specs.declared.fault.Fault.TheVariants as fault

-- a counter with one more
abbrev pub counter_up : ℕ → List Value → Result ℤ Fault
counter_up x globals = next_ok (number_of (global_in x globals)) (λ n. checked (n +ℤ pos 1))

-- the present record, by the separators of now
abbrev pub shown_of : Bytes → List Value → Result Shown Fault
shown_of text globals = read_as text (text_of (global_in FS globals)) (is_empty (text_of (global_in RS globals)))

abbrev pub with_reading : ℤ → ℤ → Shown → Moving → Moving
with_reading nr fnr shown m = record {
  globals = slice_set (slice_set m.globals NR (Number nr)) FNR (Number fnr);
  arrays = m.arrays;
  frames = m.frames;
  returns = m.returns;
  keys = m.keys;
  ranges = m.ranges;
  operands = m.operands;
  current = shown;
  output = m.output;
  registers = m.registers;
}

-- the parts with a text as their record, counted; or the fault of a counter or a separator
abbrev pub taken_of : Bytes → Moving → Result Moving Fault
taken_of text m = next_ok (counter_up NR m.globals) (λ nr. next_ok (counter_up FNR m.globals) (λ fnr. next_ok (shown_of text m.globals) (λ shown. Ok (with_reading nr fnr shown m))))

-- the record became this one, with both counters, or its separator was refused and nothing has changed
abbrev pub Counts : Reading → ℤ → ℤ → Result Shown Fault → Moving → Moving → Type 0
Counts reading.Taken nr fnr answer old new = (shown : Shown) × (answer ≡ Ok shown) × (new ≡ with_reading nr fnr shown old)
Counts reading.Missing nr fnr answer old new = ⊥
Counts (reading.Faulted f) nr fnr answer old new = (answer ≡ Err f) × (new ≡ old)

abbrev pub with_counted_text : ℤ → ℤ → Bytes → Moving → Moving
with_counted_text nr fnr text m = record {
  globals = slice_set (slice_set m.globals NR (Number nr)) FNR (Number fnr);
  arrays = m.arrays;
  frames = m.frames;
  returns = m.returns;
  keys = m.keys;
  ranges = m.ranges;
  operands = value.Input text ∷ m.operands;
  current = m.current;
  output = m.output;
  registers = m.registers;
}

-- the parts with a text as their newest operand, counted; or the fault of a counter
abbrev pub text_taken_of : Bytes → Moving → Result Moving Fault
text_taken_of text m = next_ok (counter_up NR m.globals) (λ nr. next_ok (counter_up FNR m.globals) (λ fnr. Ok (with_counted_text nr fnr text m)))

-- a text was taken, which makes these parts, or refused and then nothing has changed
abbrev pub Takes : Reading → Result Moving Fault → Moving → Moving → Type 0
Takes reading.Taken taken old new = taken ≡ Ok new
Takes reading.Missing taken old new = ⊥
Takes (reading.Faulted f) taken old new = (taken ≡ Err f) × (new ≡ old)

abbrev pub with_consumed : ℕ → Moving → Moving
with_consumed count m = record { globals = m.globals; arrays = m.arrays; frames = m.frames; returns = m.returns; keys = m.keys; ranges = m.ranges; operands = m.operands; current = m.current; output = m.output; registers = record m.registers { consumed = count } }

-- the same, with `count` bytes consumed
abbrev pub Finds : Reading → Result Moving Fault → ℕ → Moving → Moving → Type 0
Finds reading.Taken taken count old new = (mid : Moving) × (taken ≡ Ok mid) × (new ≡ with_consumed count mid)
Finds reading.Missing taken count old new = ⊥
Finds (reading.Faulted f) taken count old new = (taken ≡ Err f) × (new ≡ old)

-- how many bytes are consumed then
abbrev pub consumed_by : Reading → ℕ → ℕ → ℕ
consumed_by reading.Taken count consumed = count
consumed_by reading.Missing count consumed = consumed
consumed_by (reading.Faulted f) count consumed = consumed

-- the registers stay, but for the count of consumed bytes
abbrev pub KeepsRegisters : Moving → Moving → Type 0
KeepsRegisters old new = new.registers ≡ record old.registers { consumed = new.registers.consumed }

-- a run over these parts, behind bytes that were dropped and output that was given
abbrev pub run_in : Moving → List Point → Bytes → Bytes → Run
run_in m points gone handed = record { points = points; state = full m (length gone + m.registers.consumed) handed }

-- the reading of a record on an input whose first bytes were dropped
abbrev pub ReadsTo : Reading → List Point → Bytes → Bytes → Input → Moving → Moving → Type 0
ReadsTo reading.Taken points gone handed kept old new = read_record (before gone kept) (run_in old points gone handed) ≡ Goes true (run_in new points gone handed)
ReadsTo reading.Missing points gone handed kept old new = (read_record (before gone kept) (run_in old points gone handed) ≡ Goes false (run_in old points gone handed)) × (new ≡ old)
ReadsTo (reading.Faulted f) points gone handed kept old new = (read_record (before gone kept) (run_in old points gone handed) ≡ Breaks (Stops (Faulted f)) (run_in old points gone handed)) × (new ≡ old)

-- the reading of a text there, which becomes the newest operand
abbrev pub ReadsText : Reading → List Point → Bytes → Bytes → Input → Moving → Moving → Type 0
ReadsText reading.Taken points gone handed kept old new = (text : Bytes) × (read_text (before gone kept) (run_in old points gone handed) ≡ Goes (Some text) (run_in new points gone handed)) × (new.operands ≡ value.Input text ∷ old.operands)
ReadsText reading.Missing points gone handed kept old new = (read_text (before gone kept) (run_in old points gone handed) ≡ Goes None (run_in old points gone handed)) × (new ≡ old)
ReadsText (reading.Faulted f) points gone handed kept old new = (read_text (before gone kept) (run_in old points gone handed) ≡ Breaks (Stops (Faulted f)) (run_in old points gone handed)) × (new ≡ old)

-- keys that are left and places of calls stay
pub record KeepsPlaces (old new : Moving) : Type 0 where
  pub keys : new.keys ≡ old.keys
  pub returns : new.returns ≡ old.returns

-- a fault of the program or its input: neither of writing nor of memory
abbrev pub IsQuiet : Fault → Type 0
IsQuiet fault.WriteFailed = ⊥
IsQuiet fault.OutOfMemory = ⊥
IsQuiet _ = Unit {0}

abbrev pub IsQuietReading : Reading → Type 0
IsQuietReading reading.Taken = Unit {0}
IsQuietReading reading.Missing = Unit {0}
IsQuietReading (reading.Faulted f) = IsQuiet f
