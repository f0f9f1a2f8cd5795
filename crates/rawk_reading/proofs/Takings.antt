-- The reading of a record, by what the next record is.
use Rattle.std.proofs.Common.{◌≡◌, ◌≢◌, ℕ, ◌+◌, ℤ, pos, ◌+ℤ◌, true, false, List, ◌∷◌, length, map, Option, None, Some, Result, Ok, Err, refl, sym, ap, ◌∙◌, subst, arith}
use Rattle.std.specs.Prelude.{IfOk, slice_set, slice_index_or}
use Rattle.std.proofs.lemmas.List.{get_or-set_other}
use Rattle.rawk_value.specs.declared.fault.Fault.{Fault}
use Rattle.rawk_value.specs.declared.value.Value.{Value}
use Rattle.rawk_value.specs.declared.value.Value.TheVariants.{Uninitialized, Number, Input}
use Rattle.rawk_value.specs.Values.{Bytes, next_ok, number_of, checked, text_of, is_empty}
use Rattle.rawk_devices.specs.Inputs as inputs
use Rattle.rawk_tape.specs.Records as records
use Rattle.rawk_devices.specs.Inputs.{before}
use Rattle.rawk_pieces.specs.Fields.{fields_of}
use Rattle.rawk_record.specs.Shown.{Shown}
use Rattle.rawk_store.specs.State.{State, NR, FNR, FS, RS, global_text, with_global, with_record}
use Rattle.rawk_code.specs.Actions.{Point, Goes, Breaks, Stops, Faulted, and_then, need, Reading, one_more, counted, kept, taken, read_record, text_taken, read_text}
use Rattle.rawk_operands.specs.Borrowed.{global_in}
use Rattle.rawk_operands.specs.Moving.{Moving, full}
use Rattle.rawk_reading.specs.Reading.{counter_up, shown_of, with_reading, taken_of, with_counted_text, text_taken_of, with_consumed, KeepsPlaces, run_in}
use Rattle.rawk_tape.specs.Laws.{moved, next_record-before}

next_next : {A B C : Type 0} (r : Result A Fault) (f : A → Result B Fault) (g : B → Result C Fault) → next_ok (next_ok r f) g ≡ next_ok r (λ x. next_ok (f x) g)
next_next (Ok x) f g = refl
next_next (Err e) f g = refl

next_same : {A B : Type 0} (r : Result A Fault) (f g : A → Result B Fault) → ((x : A) → f x ≡ g x) → next_ok r f ≡ next_ok r g
next_same (Ok x) f g h = h x
next_same (Err e) f g h = refl

-- a value that is made into another at once
next_made : {A B C : Type 0} (r : Result A Fault) (f : A → B) (g : B → Result C Fault) → next_ok (next_ok r (λ x. Ok (f x))) g ≡ next_ok r (λ x. g (f x))
next_made (Ok x) f g = refl
next_made (Err e) f g = refl

-- a counter, and what is made of it
next_counted : {B C : Type 0} (r : Result ℤ Fault) (f : ℤ → B) (g : B → Result C Fault) →
    next_ok (next_ok r (λ n. next_ok (checked (n +ℤ pos 1)) (λ k. Ok (f k)))) g ≡ next_ok (next_ok r (λ n. checked (n +ℤ pos 1))) (λ k. g (f k))
next_counted (Ok n) f g = next_made (checked (n +ℤ pos 1)) f g
next_counted (Err e) f g = refl

-- a state with a text as its record
abbrev pub state_of : ℕ → Bytes → Bytes → Moving → Option Reading
state_of count handed text m = Some (record { text = text; state = full m count handed })

-- with a record, behind both counters
shown_by : (m : Moving) (handed text : Bytes) (count : ℕ) (nr fnr : ℤ) →
    next_ok (with_record text (with_global FNR (Number fnr) (with_global NR (Number nr) (full m count handed)))) (λ s. Ok (Some (record { text = text; state = s })))
    ≡ next_ok (shown_of text m.globals) (λ shown. Ok (state_of count handed text (with_reading nr fnr shown m)))
shown_by m handed text count nr fnr =
    let u : State = with_global FNR (Number fnr) (with_global NR (Number nr) (full m count handed)) in
    let other : (x : ℕ) → x ≢ NR → x ≢ FNR → slice_index_or u.globals x Uninitialized ≡ global_in x m.globals =
    λ x a b. get_or-set_other (slice_set m.globals NR (Number nr)) FNR x (Number fnr) Uninitialized b ∙ get_or-set_other m.globals NR x (Number nr) Uninitialized a in
    let F : Bytes → Bytes → Result (List Bytes) Fault = λ fs rs. fields_of text fs (is_empty rs) in
    let put : List Bytes → State = λ texts. record u { whole = text; fields = map Input texts } in
    let make : List Bytes → Shown = λ texts. record { text = text; fields = map Input texts } in
    next_made (F (global_text FS u) (global_text RS u)) put (λ s. Ok (Some (record { text = text; state = s })))
    ∙ ap (λ (v : Value). next_ok (F (text_of v) (global_text RS u)) (λ texts. Ok (Some (record { text = text; state = put texts })))) (other FS (λ e. absurd (omega arith)) (λ e. absurd (omega arith)))
    ∙ ap (λ (v : Value). next_ok (F (text_of (global_in FS m.globals)) (text_of v)) (λ texts. Ok (Some (record { text = text; state = put texts })))) (other RS (λ e. absurd (omega arith)) (λ e. absurd (omega arith)))
    ∙ sym (next_made (F (text_of (global_in FS m.globals)) (text_of (global_in RS m.globals))) make (λ shown. Ok (state_of count handed text (with_reading nr fnr shown m))))

-- a text taken into a whole state
pub taken_whole : (m : Moving) (consumed count : ℕ) (handed text : Bytes) →
    next_ok (counted (full m consumed handed) (Some (record { text = text; count = count }))) kept ≡ next_ok (taken_of text m) (λ n. Ok (state_of count handed text n))
taken_whole m consumed count handed text =
    let s : State = full m count handed in
    let G : State → Result (Option Reading) Fault = λ t. next_ok (one_more FNR t) (λ u. Ok (Some (record { text = text; state = u }))) in
    let nr_in = number_of (global_in NR m.globals) in
    let fnr_in = number_of (global_in FNR m.globals) in
    let first : ℤ → State = λ k. with_global NR (Number k) s in
    let last = λ (nr fnr : ℤ). next_ok (shown_of text m.globals) (λ shown. Ok (with_reading nr fnr shown m)) in
    let done = λ (n : Moving). Ok (state_of count handed text n) in
    let second : (k : ℤ) → next_ok (G (first k)) kept ≡ next_ok (counter_up FNR m.globals) (λ j. next_ok (last k j) done) = λ k.
    let t : State = first k in
    let e : number_of (slice_index_or t.globals FNR Uninitialized) ≡ fnr_in =
    ap number_of (get_or-set_other m.globals NR FNR (Number k) Uninitialized (λ h. absurd (omega arith))) in
    next_made (one_more FNR t) (λ u. Some (record { text = text; state = u })) kept
    ∙ ap (λ (r : Result ℤ Fault). next_ok (next_ok r (λ n. next_ok (checked (n +ℤ pos 1)) (λ j. Ok (with_global FNR (Number j) t)))) (λ u. kept (Some (record { text = text; state = u })))) e
    ∙ next_counted fnr_in (λ j. with_global FNR (Number j) t) (λ u. kept (Some (record { text = text; state = u })))
    ∙ next_same (counter_up FNR m.globals) (λ j. kept (Some (record { text = text; state = with_global FNR (Number j) t }))) (λ j. next_ok (last k j) done)
    (λ j. shown_by m handed text count k j ∙ sym (next_made (shown_of text m.globals) (λ shown. with_reading k j shown m) done)) in
    next_next (one_more NR s) G kept
    ∙ next_counted nr_in first (λ t. next_ok (G t) kept)
    ∙ next_same (counter_up NR m.globals) (λ k. next_ok (G (first k)) kept) (λ k. next_ok (next_ok (counter_up FNR m.globals) (last k)) done)
    (λ k. second k ∙ sym (next_next (counter_up FNR m.globals) (last k) done))
    ∙ sym (next_next (counter_up NR m.globals) (λ k. next_ok (counter_up FNR m.globals) (last k)) done)

-- the reading, by what the next record of the kept input is
reading_by : (m : Moving) (points : List Point) (gone handed : Bytes) (input : inputs.Input) (r : Result (Option records.Found) Fault) → records.next_record input m.registers.consumed (text_of (global_in RS m.globals)) ≡ r →
    read_record (before gone input) (run_in m points gone handed)
    ≡ and_then (need (next_ok (next_ok (moved (length gone) r) (counted (full m (length gone + m.registers.consumed) handed))) kept) (run_in m points gone handed)) taken
reading_by m points gone handed input r e =
    let s : State = full m (length gone + m.registers.consumed) handed in
    ap (λ (x : Result (Option records.Found) Fault). and_then (need (next_ok (next_ok x (counted s)) kept) (run_in m points gone handed)) taken)
    (next_record-before gone input m.registers.consumed (text_of (global_in RS m.globals)) ∙ ap (moved (length gone)) e)

pub read_missing : (m : Moving) (points : List Point) (gone handed : Bytes) (input : inputs.Input) → records.next_record input m.registers.consumed (text_of (global_in RS m.globals)) ≡ Ok None →
    read_record (before gone input) (run_in m points gone handed) ≡ Goes false (run_in m points gone handed)
read_missing m points gone handed input e = reading_by m points gone handed input (Ok None) e

pub read_fault : (m : Moving) (points : List Point) (gone handed : Bytes) (input : inputs.Input) (f : Fault) → records.next_record input m.registers.consumed (text_of (global_in RS m.globals)) ≡ Err f →
    read_record (before gone input) (run_in m points gone handed) ≡ Breaks (Stops (Faulted f)) (run_in m points gone handed)
read_fault m points gone handed input f e = reading_by m points gone handed input (Err f) e

read_found : (m : Moving) (points : List Point) (gone handed : Bytes) (input : inputs.Input) (text : Bytes) (count : ℕ) → records.next_record input m.registers.consumed (text_of (global_in RS m.globals)) ≡ Ok (Some (record { text = text; count = count })) →
    read_record (before gone input) (run_in m points gone handed)
    ≡ and_then (need (next_ok (taken_of text m) (λ n. Ok (state_of (length gone + count) handed text n))) (run_in m points gone handed)) taken
read_found m points gone handed input text count e =
    reading_by m points gone handed input (Ok (Some (record { text = text; count = count }))) e
    ∙ ap (λ (x : Result (Option Reading) Fault). and_then (need x (run_in m points gone handed)) taken) (taken_whole m (length gone + m.registers.consumed) (length gone + count) handed text)

pub read_taken : (m n : Moving) (points : List Point) (gone handed : Bytes) (input : inputs.Input) (text : Bytes) (count : ℕ) → records.next_record input m.registers.consumed (text_of (global_in RS m.globals)) ≡ Ok (Some (record { text = text; count = count })) →
    taken_of text m ≡ Ok n → read_record (before gone input) (run_in m points gone handed) ≡ Goes true (run_in (with_consumed count n) points gone handed)
read_taken m n points gone handed input text count e t =
    read_found m points gone handed input text count e
    ∙ ap (λ (x : Result Moving Fault). and_then (need (next_ok x (λ k. Ok (state_of (length gone + count) handed text k))) (run_in m points gone handed)) taken) t

pub read_refused : (m : Moving) (points : List Point) (gone handed : Bytes) (input : inputs.Input) (text : Bytes) (count : ℕ) (f : Fault) →
    records.next_record input m.registers.consumed (text_of (global_in RS m.globals)) ≡ Ok (Some (record { text = text; count = count })) →
    taken_of text m ≡ Err f → read_record (before gone input) (run_in m points gone handed) ≡ Breaks (Stops (Faulted f)) (run_in m points gone handed)
read_refused m points gone handed input text count f e t =
    read_found m points gone handed input text count e
    ∙ ap (λ (x : Result Moving Fault). and_then (need (next_ok x (λ k. Ok (state_of (length gone + count) handed text k))) (run_in m points gone handed)) taken) t

-- the counters' parts of a whole state, with a text
counted_whole : (m : Moving) (consumed count : ℕ) (handed text : Bytes) →
    counted (full m consumed handed) (Some (record { text = text; count = count })) ≡ next_ok (text_taken_of text m) (λ n. Ok (state_of count handed text n))
counted_whole m consumed count handed text =
    let s : State = full m count handed in
    let fnr_in = number_of (global_in FNR m.globals) in
    let first : ℤ → State = λ k. with_global NR (Number k) s in
    let G : State → Result (Option Reading) Fault = λ t. next_ok (one_more FNR t) (λ u. Ok (Some (record { text = text; state = u }))) in
    let make = λ (nr fnr : ℤ). with_counted_text nr fnr text m in
    let done = λ (n : Moving). Ok (state_of count handed text n) in
    let second : (k : ℤ) → G (first k) ≡ next_ok (next_ok (counter_up FNR m.globals) (λ j. Ok (make k j))) done = λ k.
    let t : State = first k in
    let e : number_of (slice_index_or t.globals FNR Uninitialized) ≡ fnr_in =
    ap number_of (get_or-set_other m.globals NR FNR (Number k) Uninitialized (λ h. absurd (omega arith))) in
    ap (λ (r : Result ℤ Fault). next_ok (next_ok r (λ n. next_ok (checked (n +ℤ pos 1)) (λ j. Ok (with_global FNR (Number j) t)))) (λ u. Ok (Some (record { text = text; state = u })))) e
    ∙ next_counted fnr_in (λ j. with_global FNR (Number j) t) (λ u. Ok (Some (record { text = text; state = u })))
    ∙ sym (next_made (counter_up FNR m.globals) (make k) done) in
    next_counted (number_of (global_in NR m.globals)) first G
    ∙ next_same (counter_up NR m.globals) (λ k. G (first k)) (λ k. next_ok (next_ok (counter_up FNR m.globals) (λ j. Ok (make k j))) done) second
    ∙ sym (next_next (counter_up NR m.globals) (λ k. next_ok (counter_up FNR m.globals) (λ j. Ok (make k j))) done)

-- the reading of a text, by what the next record of the kept input is
text_by : (m : Moving) (points : List Point) (gone handed : Bytes) (input : inputs.Input) (r : Result (Option records.Found) Fault) → records.next_record input m.registers.consumed (text_of (global_in RS m.globals)) ≡ r →
    read_text (before gone input) (run_in m points gone handed)
    ≡ and_then (need (next_ok (moved (length gone) r) (counted (full m (length gone + m.registers.consumed) handed))) (run_in m points gone handed)) text_taken
text_by m points gone handed input r e =
    let s : State = full m (length gone + m.registers.consumed) handed in
    ap (λ (x : Result (Option records.Found) Fault). and_then (need (next_ok x (counted s)) (run_in m points gone handed)) text_taken)
    (next_record-before gone input m.registers.consumed (text_of (global_in RS m.globals)) ∙ ap (moved (length gone)) e)

pub text_missing : (m : Moving) (points : List Point) (gone handed : Bytes) (input : inputs.Input) → records.next_record input m.registers.consumed (text_of (global_in RS m.globals)) ≡ Ok None →
    read_text (before gone input) (run_in m points gone handed) ≡ Goes None (run_in m points gone handed)
text_missing m points gone handed input e = text_by m points gone handed input (Ok None) e

pub text_fault : (m : Moving) (points : List Point) (gone handed : Bytes) (input : inputs.Input) (f : Fault) → records.next_record input m.registers.consumed (text_of (global_in RS m.globals)) ≡ Err f →
    read_text (before gone input) (run_in m points gone handed) ≡ Breaks (Stops (Faulted f)) (run_in m points gone handed)
text_fault m points gone handed input f e = text_by m points gone handed input (Err f) e

-- where a text was found, by what its counters are
pub text_found : (m : Moving) (points : List Point) (gone handed : Bytes) (input : inputs.Input) (text : Bytes) (count : ℕ) (r : Result Moving Fault) →
    records.next_record input m.registers.consumed (text_of (global_in RS m.globals)) ≡ Ok (Some (record { text = text; count = count })) → text_taken_of text m ≡ r →
    read_text (before gone input) (run_in m points gone handed)
    ≡ and_then (need (next_ok r (λ n. Ok (state_of (length gone + count) handed text n))) (run_in m points gone handed)) text_taken
text_found m points gone handed input text count r e t =
    text_by m points gone handed input (Ok (Some (record { text = text; count = count }))) e
    ∙ ap (λ (x : Result (Option Reading) Fault). and_then (need x (run_in m points gone handed)) text_taken) (counted_whole m (length gone + m.registers.consumed) (length gone + count) handed text)
    ∙ ap (λ (x : Result Moving Fault). and_then (need (next_ok x (λ n. Ok (state_of (length gone + count) handed text n))) (run_in m points gone handed)) text_taken) t

-- the operands and what stays, where it was taken
abbrev pub TextStands : Bytes → Moving → Moving → Type 0
TextStands text old new = (new.operands ≡ Input text ∷ old.operands) × KeepsPlaces old new

if_next : {A B : Type 0} (P : B → Type 0) (r : Result A Fault) (f : A → Result B Fault) → ((x : A) → IfOk (f x) P) → IfOk (next_ok r f) P
if_next P (Ok x) f h = h x
if_next P (Err e) f h = tt

pub text_stands : (text : Bytes) (m n : Moving) → text_taken_of text m ≡ Ok n → TextStands text m n
text_stands text m n e =
    subst (λ (r : Result Moving Fault). IfOk r (TextStands text m)) e
    (if_next (TextStands text m) (counter_up NR m.globals) _ (λ nr. if_next (TextStands text m) (counter_up FNR m.globals) _ (λ fnr. (refl, record { keys = refl; returns = refl }))))
