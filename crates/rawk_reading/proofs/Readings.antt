-- What the calls of a reading answer, put together.
use Rattle.std.proofs.Common.{◌≡◌, ◌≢◌, ℕ, List, Option, None, Some, Result, Ok, Err, refl, sym, ap, ◌∙◌, subst}
use Rattle.std.specs.Prelude.{IfOk, slice_range}
use Rattle.rawk_value.specs.declared.fault.Fault.{Fault}
use Rattle.rawk_value.specs.declared.fault.Fault.TheVariants as fault
use Rattle.rawk_value.specs.Values.{Bytes, text_of}
use Rattle.rawk_devices.specs.Inputs.{Input, before}
use Rattle.rawk_tape.specs.Records.{next_record}
use Rattle.rawk_tape.specs.Records as records
use Rattle.rawk_tape.specs.Tapes.{TapeState, MayBe, Answers, text_at}
use Rattle.rawk_tape.specs.declared.found.Found.{Found as Place}
use Rattle.rawk_store.specs.State.{RS}
use Rattle.rawk_code.specs.Actions.{Point}
use Rattle.rawk_reading.specs.declared.reading.Reading.{Reading}
use Rattle.rawk_reading.specs.declared.reading.Reading.TheVariants as reading
use Rattle.rawk_operands.specs.Borrowed.{global_in}
use Rattle.rawk_operands.specs.Moving.{Moving}
use Rattle.rawk_operands.specs.Oks.{if_ok}
use Rattle.rawk_operate.specs.Done.{IsCalm}
use Rattle.rawk_reading.specs.Reading.{Takes, taken_of, text_taken_of, Finds, with_consumed, ReadsTo, ReadsText, KeepsPlaces, IsQuietReading, run_in}
use Rattle.rawk_reading.proofs.Takings.{read_missing, read_fault, read_taken, read_refused, text_missing, text_fault, text_found, text_stands}
use Rattle.rawk_reading.proofs.Quiets.{calm_quiet, quiet_next_record}

-- the tape's input does not depend on what is consumed
pub maybe_consumed : {S : Type 0} (may_give : S → Input → Type 0) (t u : TapeState S) (kept : Input) → u ≡ record t { consumed = u.consumed } → MayBe may_give u kept → MayBe may_give t kept
maybe_consumed {S} may_give t u kept e may =
    let m : MayBe may_give (record t { consumed = u.consumed }) kept = subst (λ (x : TapeState S). MayBe may_give x kept) e may in
    record { rest = m.rest; comes = m.comes; whole = m.whole }

pub finds_taken : (r : Reading) (take : Bytes → Result Moving Fault) (text segment : Bytes) (count : ℕ) (old mid : Moving) → r ≡ reading.Taken → text ≡ segment → Takes r (take text) old mid → Finds reading.Taken (take segment) count old (with_consumed count mid)
finds_taken r take text segment count old mid is same takes =
    let t : take text ≡ Ok mid = subst (λ (x : Reading). Takes x (take text) old mid) is takes in
    (mid, ap take (sym same) ∙ t, refl)

-- a record that was found
pub reads_found : (r : Reading) (text : Bytes) (count : ℕ) (old new : Moving) (points : List Point) (gone handed : Bytes) (kept : Input) →
    next_record kept old.registers.consumed (text_of (global_in RS old.globals)) ≡ Ok (Some (record { text = text; count = count })) → Finds r (taken_of text old) count old new → ReadsTo r points gone handed kept old new
reads_found reading.Taken text count old new points gone handed kept next finds =
    read_taken old finds.0 points gone handed kept text count next finds.1 ∙ ap (λ (m : Moving). Rattle.rawk_code.specs.Actions.Goes Rattle.std.proofs.Common.true (run_in m points gone handed)) (sym finds.2)
reads_found reading.Missing text count old new points gone handed kept next finds = absurd finds
reads_found (reading.Faulted f) text count old new points gone handed kept next finds = (read_refused old points gone handed kept text count f next finds.0, finds.1)

-- a text that was found
pub texts_found : (r : Reading) (text : Bytes) (count : ℕ) (old new : Moving) (points : List Point) (gone handed : Bytes) (kept : Input) →
    next_record kept old.registers.consumed (text_of (global_in RS old.globals)) ≡ Ok (Some (record { text = text; count = count })) → Finds r (text_taken_of text old) count old new → ReadsText r points gone handed kept old new
texts_found reading.Taken text count old new points gone handed kept next finds = (
  text,
  text_found old points gone handed kept text count (Ok finds.0) next finds.1 ∙ ap (λ (m : Moving). Rattle.rawk_code.specs.Actions.Goes (Some text) (run_in m points gone handed)) (sym finds.2),
  ap (λ (m : Moving). m.operands) finds.2 ∙ (text_stands text old finds.0 finds.1).0,
)
texts_found reading.Missing text count old new points gone handed kept next finds = absurd finds
texts_found (reading.Faulted f) text count old new points gone handed kept next finds = (text_found old points gone handed kept text count (Err f) next finds.0, finds.1)

-- what stays where it was found
pub places_found : (r : Reading) (text : Bytes) (count : ℕ) (old new : Moving) → Finds r (text_taken_of text old) count old new → KeepsPlaces old new
places_found reading.Taken text count old new finds =
    let s = (text_stands text old finds.0 finds.1).1 in
    record { keys = ap (λ (m : Moving). m.keys) finds.2 ∙ s.keys; returns = ap (λ (m : Moving). m.returns) finds.2 ∙ s.returns }
places_found reading.Missing text count old new finds = absurd finds
places_found (reading.Faulted f) text count old new finds = record { keys = ap (λ (m : Moving). m.keys) finds.1; returns = ap (λ (m : Moving). m.returns) finds.1 }

-- a fault of the next record
pub reads_fault : (r : Reading) (f : Fault) (old : Moving) (points : List Point) (gone handed : Bytes) (kept : Input) → r ≡ reading.Faulted f → next_record kept old.registers.consumed (text_of (global_in RS old.globals)) ≡ Err f →
    ReadsTo r points gone handed kept old old
reads_fault r f old points gone handed kept is next = subst (λ (x : Reading). ReadsTo x points gone handed kept old old) (sym is) (read_fault old points gone handed kept f next, refl)

pub texts_fault : (r : Reading) (f : Fault) (old : Moving) (points : List Point) (gone handed : Bytes) (kept : Input) → r ≡ reading.Faulted f → next_record kept old.registers.consumed (text_of (global_in RS old.globals)) ≡ Err f →
    ReadsText r points gone handed kept old old
texts_fault r f old points gone handed kept is next = subst (λ (x : Reading). ReadsText x points gone handed kept old old) (sym is) (text_fault old points gone handed kept f next, refl)

pub reads_missing : (old : Moving) (points : List Point) (gone handed : Bytes) (kept : Input) → next_record kept old.registers.consumed (text_of (global_in RS old.globals)) ≡ Ok None → ReadsTo reading.Missing points gone handed kept old old
reads_missing old points gone handed kept next = (read_missing old points gone handed kept next, refl)

pub texts_missing : (old : Moving) (points : List Point) (gone handed : Bytes) (kept : Input) → next_record kept old.registers.consumed (text_of (global_in RS old.globals)) ≡ Ok None → ReadsText reading.Missing points gone handed kept old old
texts_missing old points gone handed kept next = (text_missing old points gone handed kept next, refl)

-- the next record, by the consumed bytes and the separator as they were handed on
pub next_by : (kept : Input) (consumed c : ℕ) (separator rs : Bytes) (r : Result (Option records.Found) Fault) → consumed ≡ c → separator ≡ rs → next_record kept consumed separator ≡ r → next_record kept c rs ≡ r
next_by kept consumed c separator rs r ec es e = ap (λ (n : ℕ). next_record kept n rs) (sym ec) ∙ ap (λ (x : Bytes). next_record kept consumed x) (sym es) ∙ e

-- what a reading is to a place in its input, whichever of the two it is
abbrev pub Readings : Type 1
Readings = Reading → List Point → Bytes → Bytes → Input → Moving → Moving → Type 0

-- what is found is quiet, and no fault of reading, where what it makes is calm
pub finds_quiet : (r : Reading) (made : Result Moving Fault) (count : ℕ) (old new : Moving) → ((f : Fault) → made ≡ Err f → IsCalm f) → Finds r made count old new → IsQuietReading r
finds_quiet reading.Taken made count old new calm finds = tt
finds_quiet reading.Missing made count old new calm finds = absurd finds
finds_quiet (reading.Faulted f) made count old new calm finds = calm_quiet f (calm f finds.0)

pub finds_calm : (r : Reading) (made : Result Moving Fault) (count : ℕ) (old new : Moving) → ((f : Fault) → made ≡ Err f → IsCalm f) → Finds r made count old new → r ≡ reading.Faulted fault.ReadFailed → ⊥
finds_calm r made count old new calm finds is =
    let f : Finds (reading.Faulted fault.ReadFailed) made count old new = subst (λ (x : Reading). Finds x made count old new) is finds in
    calm fault.ReadFailed f.0

-- the reading, where a record was found
pub found_did : {S E : Type 0} (reads : Readings) (take : Bytes → Moving → Result Moving Fault) (may_give : S → Input → Type 0) (t u : TapeState S) (result : Result Reading E) (o : Option Place) (place : Place) (old new : Moving) (consumed : ℕ) (separator : Bytes) →
    ((r : Reading) (text : Bytes) (count : ℕ) (points : List Point) (gone handed : Bytes) (kept : Input) → next_record kept old.registers.consumed (text_of (global_in RS old.globals)) ≡ Ok (Some (record { text = text; count = count })) → Finds r (take text old) count old new → reads r points gone handed kept old new) →
    o ≡ Some place → ((input : Input) → MayBe may_give t input → Answers (next_record input consumed separator) t.bytes (Ok o)) → u ≡ record t { consumed = u.consumed } →
    consumed ≡ old.registers.consumed → separator ≡ text_of (global_in RS old.globals) → IfOk result (λ r. Finds r (take (slice_range t.bytes place.start place.end) old) place.count old new) →
    IfOk result (λ r. (points : List Point) (gone handed : Bytes) (kept : Input) → MayBe may_give u kept → reads r points gone handed kept old new)
found_did {S} {E} reads take may_give t u result o place old new consumed separator by is next same ec es finds =
    if_ok (λ r. Finds r (take (slice_range t.bytes place.start place.end) old) place.count old new) (λ r. (points : List Point) (gone handed : Bytes) (kept : Input) → MayBe may_give u kept → reads r points gone handed kept old new) result finds
    (λ r f points gone handed kept may.
    let e = subst (λ (x : Option Place). Answers (next_record kept consumed separator) t.bytes (Ok x)) is (next kept (maybe_consumed may_give t u kept same may)) in
    by r (slice_range t.bytes place.start place.end) place.count points gone handed kept
    (next_by kept consumed old.registers.consumed separator (text_of (global_in RS old.globals)) (Ok (Some (text_at t.bytes place))) ec es e) f)

-- the reading at the end of the input
pub missing_did : {S : Type 0} (reads : Readings) (may_give : S → Input → Type 0) (t : TapeState S) (o : Option Place) (old : Moving) (consumed : ℕ) (separator : Bytes) →
    ((points : List Point) (gone handed : Bytes) (kept : Input) → next_record kept old.registers.consumed (text_of (global_in RS old.globals)) ≡ Ok None → reads reading.Missing points gone handed kept old old) →
    o ≡ None → ((input : Input) → MayBe may_give t input → Answers (next_record input consumed separator) t.bytes (Ok o)) →
    consumed ≡ old.registers.consumed → separator ≡ text_of (global_in RS old.globals) →
    (points : List Point) (gone handed : Bytes) (kept : Input) → MayBe may_give t kept → reads reading.Missing points gone handed kept old old
missing_did reads may_give t o old consumed separator by is next ec es points gone handed kept may =
    let e = subst (λ (x : Option Place). Answers (next_record kept consumed separator) t.bytes (Ok x)) is (next kept may) in
    by points gone handed kept (next_by kept consumed old.registers.consumed separator (text_of (global_in RS old.globals)) (Ok None) ec es e)

-- the reading, where the tape handed a fault
pub fault_did : {S E : Type 0} (reads : Readings) (may_give : S → Input → Type 0) (t : TapeState S) (result : Result Reading E) (f : Fault) (old : Moving) (consumed : ℕ) (separator : Bytes) →
    ((r : Reading) (points : List Point) (gone handed : Bytes) (kept : Input) → r ≡ reading.Faulted f → next_record kept old.registers.consumed (text_of (global_in RS old.globals)) ≡ Err f → reads r points gone handed kept old old) →
    ((input : Input) → MayBe may_give t input → Answers (next_record input consumed separator) t.bytes (Err f)) →
    consumed ≡ old.registers.consumed → separator ≡ text_of (global_in RS old.globals) → IfOk result (λ r. (r ≡ reading.Faulted f) × (f ≢ fault.OutOfMemory)) →
    IfOk result (λ r. (points : List Point) (gone handed : Bytes) (kept : Input) → MayBe may_give t kept → reads r points gone handed kept old old)
fault_did reads may_give t result f old consumed separator by next ec es is =
    if_ok (λ r. (r ≡ reading.Faulted f) × (f ≢ fault.OutOfMemory)) (λ r. (points : List Point) (gone handed : Bytes) (kept : Input) → MayBe may_give t kept → reads r points gone handed kept old old) result is
    (λ r h points gone handed kept may.
    by r points gone handed kept h.0 (next_by kept consumed old.registers.consumed separator (text_of (global_in RS old.globals)) (Err f) ec es (next kept may h.1)))

-- the tape's faults are quiet, since some input may come
pub fault_quiet : {S E : Type 0} (may_give : S → Input → Type 0) (t : TapeState S) (result : Result Reading E) (f : Fault) (consumed : ℕ) (separator : Bytes) → ((s : S) → (rest : Input) × may_give s rest) →
    ((input : Input) → MayBe may_give t input → Answers (next_record input consumed separator) t.bytes (Err f)) → IfOk result (λ r. (r ≡ reading.Faulted f) × (f ≢ fault.OutOfMemory)) → IfOk result IsQuietReading
fault_quiet may_give t result f consumed separator some next is =
    if_ok (λ r. (r ≡ reading.Faulted f) × (f ≢ fault.OutOfMemory)) IsQuietReading result is
    (λ r h.
    let input = before t.bytes (some t.source).0 in
    let may : MayBe may_give t input = record { rest = (some t.source).0; comes = (some t.source).1; whole = refl } in
    subst (λ (x : Reading). IsQuietReading x) (sym h.0) (quiet_next_record input consumed separator f (next input may h.1)))

pub found_quiet : {E : Type 0} (result : Result Reading E) (made : Result Moving Fault) (count : ℕ) (old new : Moving) → ((f : Fault) → made ≡ Err f → IsCalm f) → IfOk result (λ r. Finds r made count old new) → IfOk result IsQuietReading
found_quiet result made count old new calm finds = if_ok (λ r. Finds r made count old new) IsQuietReading result finds (λ r f. finds_quiet r made count old new calm f)

pub found_calm : {E : Type 0} (P : Type 0) (result : Result Reading E) (made : Result Moving Fault) (count : ℕ) (old new : Moving) → ((f : Fault) → made ≡ Err f → IsCalm f) → IfOk result (λ r. Finds r made count old new) →
    IfOk result (λ r. r ≡ reading.Faulted fault.ReadFailed → P)
found_calm P result made count old new calm finds =
    if_ok (λ r. Finds r made count old new) (λ r. r ≡ reading.Faulted fault.ReadFailed → P) result finds (λ r f is. absurd (finds_calm r made count old new calm f is))

pub found_places : {E : Type 0} (result : Result Reading E) (text : Bytes) (count : ℕ) (old new : Moving) → IfOk result (λ r. Finds r (text_taken_of text old) count old new) → IfOk result (λ r. KeepsPlaces old new)
found_places result text count old new finds = if_ok (λ r. Finds r (text_taken_of text old) count old new) (λ r. KeepsPlaces old new) result finds (λ r f. places_found r text count old new f)
