-- The first newline among bytes, and the line before it.
use Rattle.std.proofs.Common.{◌≡◌, ◌≢◌, ◌≤◌, ◌<◌, ◌+◌, ℕ, true, false, [], ◌∷◌, None, Ok, Err, length, ◌++◌, take, drop, slice_index, arith, refl, sym, ◌∙◌, ap, nat_lt, not, eqb}
use Rattle.std.specs.List.{position_or_len}
use Rattle.std.proofs.lemmas.Bool.{eq-eqb, ne_eqb, false≢true, lt-ltb, le-ltb}
use Rattle.std.proofs.lemmas.List.{length-append, length-take-le, take-append-le, take-append-drop, get_or_append_left, append-nil, take_all}
use Rattle.std.proofs.lemmas.List.Folds.{prefix_len-append}
use Rattle.std.proofs.lemmas.List.Sums.{position_or_len_is, prefix_len-le-length, fails_before_first, passes_at_first}
use Rattle.memchr.proofs.lemmas.FindLemmas.{Nowhere-then}
use Rattle.memchr.specs.Find.{Nowhere, NoneBefore, Passes, is_byte}
use Rattle.rawk_value.specs.Values.{Bytes, is_empty}
use Rattle.rawk_value.specs.declared.fault.Fault.TheVariants.{ReadFailed}
use Rattle.rawk_devices.specs.Inputs.{Input, before, nothing}
use Rattle.rawk_tape.specs.Records.{found, is_newline, last_line, next_record}
use Rattle.rawk_tape.specs.Lines.{IsNextLine, NoNewline, newline}
use Rattle.rawk_devices.specs.declared.source.Ending.{Ending}
use Rattle.rawk_devices.specs.declared.source.Ending.TheVariants.{Ended, Failed}
use Rattle.rawk_tape.proofs.OneByte.{not_true}

-- bytes of which none of the first is a newline have none there
none_seen : (bytes : Bytes) (seen : ℕ) → seen ≤ length bytes → position_or_len is_newline (take seen bytes) ≡ seen → Nowhere (Passes (is_byte 10) bytes) 0 seen
none_seen bytes seen inside without k low high here =
    let n : length (take seen bytes) ≡ seen = length-take-le seen bytes inside in
    let same : slice_index bytes k ≡ slice_index (take seen bytes) k = ap (λ (b : Bytes). slice_index b k) (sym (take-append-drop seen bytes)) ∙ get_or_append_left (take seen bytes) (drop seen bytes) 0 k (omega (arith, n, high)) in
    let miss = fails_before_first is_newline (take seen bytes) k 0 (omega (arith, high, without)) in
    absurd (false≢true (sym miss ∙ (ap is_newline (sym same) ∙ here)))

-- the first newline, at a known place
pub first_at : (bytes : Bytes) (seen at : ℕ) → seen ≤ length bytes → position_or_len is_newline (take seen bytes) ≡ seen → NoneBefore (Passes (is_byte 10) bytes) seen (length bytes) at × Passes (is_byte 10) bytes at → position_or_len is_newline bytes ≡ at
first_at bytes seen at inside without h =
    let high : at < length bytes = h.0.high in
    let none : Nowhere (Passes (is_byte 10) bytes) 0 at = Nowhere-then (none_seen bytes seen inside without) h.0.before in
    position_or_len_is is_newline bytes at 0 (omega (arith, high)) (λ k low. not_true _ (none k (omega arith) low)) (λ _. h.1)

-- the end, where there is none
pub first_nowhere : (bytes : Bytes) (seen : ℕ) → seen ≤ length bytes → position_or_len is_newline (take seen bytes) ≡ seen → Nowhere (Passes (is_byte 10) bytes) seen (length bytes) → position_or_len is_newline bytes ≡ length bytes
first_nowhere bytes seen inside without more =
    let none : Nowhere (Passes (is_byte 10) bytes) 0 (length bytes) = Nowhere-then (none_seen bytes seen inside without) more in
    position_or_len_is is_newline bytes (length bytes) 0 (omega arith) (λ k low. not_true _ (none k (omega arith) low)) (λ h. absurd (omega (arith, h)))

-- no newline among bytes that have none from their start
pub none_held : (bytes : Bytes) → length bytes ≤ position_or_len is_newline bytes → NoNewline bytes 0
none_held bytes far k low high is =
    let miss = fails_before_first is_newline bytes k 0 (omega (arith, far, high)) in
    absurd (false≢true (sym miss ∙ eq-eqb _ _ is))

pub first_inside : (bytes : Bytes) → position_or_len is_newline bytes ≤ length bytes
first_inside bytes = prefix_len-le-length (λ b. not (is_newline b)) bytes

-- the first newline behind bytes that have none
pub first_behind : (front bytes : Bytes) → length front ≤ position_or_len is_newline front → position_or_len is_newline (front ++ bytes) ≡ length front + position_or_len is_newline bytes
first_behind front bytes far =
    let e : position_or_len is_newline front ≡ length front = omega (arith, far, first_inside front) in
    let t : eqb (position_or_len is_newline front) (length front) ≡ true = eq-eqb _ _ e in
    prefix_len-append (λ b. not (is_newline b)) front bytes ∙ rw t refl

-- all bytes that were held are seen
pub seen_all : (bytes chunk now : Bytes) (size : ℕ) → now ≡ bytes ++ chunk → size ≡ position_or_len is_newline bytes → length bytes ≤ position_or_len is_newline bytes → (size ≤ length now) × (position_or_len is_newline (take size now) ≡ size)
seen_all bytes chunk now size grown at far =
    let all : size ≡ length bytes = omega (arith, at, far, first_inside bytes) in
    let n : length now ≡ length bytes + length chunk = ap length grown ∙ length-append bytes chunk in
    let first : take size now ≡ bytes = ap (λ (b : Bytes). take size b) grown ∙ take-append-le size bytes chunk (omega (arith, all)) ∙ take_all size bytes (omega (arith, all)) in
    (omega (arith, all, n), ap (λ (b : Bytes). position_or_len is_newline b) first ∙ sym at)

-- the line that a newline ends
pub line_whole : (bytes : Bytes) (size : ℕ) (rest : Input) → size ≡ position_or_len is_newline bytes → size < length bytes → IsNextLine (before bytes rest) 0 (take size bytes) (size + 1)
line_whole bytes size rest is low =
    let whole : Bytes = bytes ++ rest.bytes in
    let n = length-append bytes rest.bytes in
    let inside : size < length whole = omega (arith, n, low) in
    let first : position_or_len is_newline whole ≡ size =
    position_or_len_is is_newline whole size 0 (omega (arith, inside))
    (λ k h. let l : k < length bytes = omega (arith, h, low) in ap is_newline (get_or_append_left bytes rest.bytes 0 k l) ∙ fails_before_first is_newline bytes k 0 (omega (arith, h, is)))
    (λ _. ap is_newline (get_or_append_left bytes rest.bytes 0 size low) ∙ (ap (λ k. is_newline (slice_index bytes k)) is ∙ passes_at_first is_newline bytes 0 (omega (arith, is, low)))) in
    let t : nat_lt size (length whole) ≡ true = lt-ltb _ _ inside in
    let cut : take size whole ≡ take size bytes = take-append-le size bytes rest.bytes (omega (arith, low)) in
    let e : 0 + size + 1 ≡ size + 1 = omega arith in
    rw (first, t) (ap (λ (b : Bytes). found b (0 + size + 1)) cut ∙ ap (found (take size bytes)) e)

-- without a newline the rest of what ends is the last line
pub line_left : (bytes : Bytes) (ending : Ending) (rest : Input) → length bytes ≤ position_or_len is_newline bytes → rest ≡ nothing ending → next_record (before bytes rest) 0 newline ≡ last_line rest.fails bytes 0
line_left bytes ending rest far none =
    let all : bytes ++ rest.bytes ≡ bytes = ap (λ (i : Input). bytes ++ i.bytes) none ∙ append-nil bytes in
    let t : nat_lt (position_or_len is_newline bytes) (length bytes) ≡ false = le-ltb _ _ far in
    ap (λ (b : Bytes). next_record (record { bytes = b; fails = rest.fails }) 0 newline) all ∙ rw t refl

last_empty : (bytes : Bytes) → length bytes ≡ 0 → last_line false bytes 0 ≡ Ok None
last_empty [] none = refl
last_empty (x ∷ bytes) none = absurd (omega (arith, none))

last_some : (bytes : Bytes) → length bytes ≢ 0 → last_line false bytes 0 ≡ found bytes (length bytes)
last_some [] some = absurd (some refl)
last_some (x ∷ bytes) some =
    let e : 0 + length (x ∷ bytes) ≡ length (x ∷ bytes) = omega arith in
    let full : is_empty (x ∷ bytes) ≡ false = ne_eqb _ _ some in
    rw full (ap (λ k. found (x ∷ bytes) k) e)

-- nothing is left
pub none_left : (bytes : Bytes) (rest : Input) → length bytes ≤ position_or_len is_newline bytes → rest ≡ nothing Ended → length bytes ≡ 0 → next_record (before bytes rest) 0 newline ≡ Ok None
none_left bytes rest far ends none = line_left bytes Ended rest far ends ∙ (ap (λ (i : Input). last_line i.fails bytes 0) ends ∙ last_empty bytes none)

-- what is left is the last line
pub last_left : (bytes : Bytes) (size : ℕ) (rest : Input) → length bytes ≤ position_or_len is_newline bytes → rest ≡ nothing Ended → size ≡ length bytes → size ≢ 0 → IsNextLine (before bytes rest) 0 (take size bytes) size
last_left bytes size rest far ends all some =
    let whole : take size bytes ≡ bytes = take_all size bytes (omega (arith, all)) in
    line_left bytes Ended rest far ends ∙ (ap (λ (i : Input). last_line i.fails bytes 0) ends ∙ (last_some bytes (λ e. some (all ∙ e)) ∙ (ap (λ k. found bytes k) (sym all) ∙ ap (λ (b : Bytes). found b size) (sym whole))))

-- a read failed before the line's end
pub fails_left : (bytes : Bytes) (rest : Input) → length bytes ≤ position_or_len is_newline bytes → rest ≡ nothing Failed → next_record (before bytes rest) 0 newline ≡ Err ReadFailed
fails_left bytes rest far ends = line_left bytes Failed rest far ends ∙ ap (λ (i : Input). last_line i.fails bytes 0) ends
