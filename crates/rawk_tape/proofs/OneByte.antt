-- The next record where one byte ends a record.
use Rattle.std.proofs.Common.{◌≡◌, ◌≤◌, ◌<◌, ◌+◌, ◌-◌, ℕ, Bool, true, false, List, [], ◌∷◌, Option, Result, length, ◌++◌, take, drop, slice_range, arith, subst, sym, ◌∙◌, ap, refl, nat_lt, nat_eq}
use Rattle.std.specs.List.{position_or_len}
use Rattle.std.proofs.lemmas.List.{length-drop, length-append, get_or-drop, get_or_append_left, drop-append-le, take-append-le, append-nil}
use Rattle.std.proofs.lemmas.List.Sums.{position_or_len_is}
use Rattle.std.proofs.lemmas.Bool.{lt-ltb, le-ltb}
use Rattle.memchr.proofs.lemmas.FindLemmas.{Nowhere-then}
use Rattle.memchr.specs.Find.{Nowhere, NoneBefore, Passes, is_byte}
use Rattle.rawk_value.specs.declared.fault.Fault.{Fault}
use Rattle.rawk_devices.specs.Inputs.{Input, before, nothing, is_failed}
use Rattle.rawk_tape.specs.Records.{Found, found, last_line, next_line, next_record}
use Rattle.rawk_tape.specs.Tapes.{TapeState, MayBe, Answers, IsUnsettled}
use Rattle.rawk_devices.specs.declared.source.Ending.{Ending}
use Rattle.rawk_tape.specs.declared.found.Found.{Found as Place}

-- what is not true is false
pub not_true : (b : Bool) → (b ≡ true → ⊥) → b ≡ false
not_true true h = absurd (h refl)
not_true false h = refl

-- the first place that passes, at a known place
first_place : (p : ℕ → Bool) (bytes rest : List ℕ) (start at : ℕ) → start ≤ at → at < length bytes → Nowhere (Passes p bytes) start at → Passes p bytes at → position_or_len p (drop start (bytes ++ rest)) ≡ at - start
first_place p bytes rest start at low high none here =
    let len : at - start ≤ length (drop start (bytes ++ rest)) = simp (length-drop, length-append) (omega arith) in
    position_or_len_is p (drop start (bytes ++ rest)) (at - start) 0 len
    (λ k h. let l : start + k < length bytes = omega arith in rw (get_or-drop, get_or_append_left) (not_true _ (none (start + k) (omega arith) (omega arith))))
    (λ _. let e : start + (at - start) ≡ at = omega arith in rw (get_or-drop, e, get_or_append_left) here)

-- the place past the end, where none passes
no_place : (p : ℕ → Bool) (bytes : List ℕ) (start : ℕ) → Nowhere (Passes p bytes) start (length bytes) → position_or_len p (drop start bytes) ≡ length (drop start bytes)
no_place p bytes start none =
    position_or_len_is p (drop start bytes) (length (drop start bytes)) 0 (omega arith)
    (λ k h. rw get_or-drop (not_true _ (none (start + k) (omega arith) (omega (arith, length-drop start bytes)))))
    (λ h. absurd (omega arith))

line_at : (separator : ℕ) (fails : Bool) (rest : List ℕ) (count size : ℕ) → position_or_len (λ x. nat_eq x separator) rest ≡ size → size < length rest → next_line separator fails rest count ≡ found (take size rest) (count + size + 1)
line_at separator fails rest count size e low =
    let t : nat_lt size (length rest) ≡ true = lt-ltb _ _ low in rw (e, t) refl

line_past : (separator : ℕ) (fails : Bool) (rest : List ℕ) (count size : ℕ) → position_or_len (λ x. nat_eq x separator) rest ≡ size → length rest ≤ size → next_line separator fails rest count ≡ last_line fails rest count
line_past separator fails rest count size e low =
    let t : nat_lt size (length rest) ≡ false = le-ltb _ _ low in rw (e, t) refl

-- the record that ends at the first separator
line_found : (separator : ℕ) (bytes : List ℕ) (rest : Input) (start at : ℕ) → start ≤ at → at < length bytes → Nowhere (Passes (is_byte separator) bytes) start at → Passes (is_byte separator) bytes at → next_record (before bytes rest) start (separator ∷ []) ≡ found (slice_range bytes start at) (at + 1)
line_found separator bytes rest start at low high none here =
    let all : List ℕ = bytes ++ rest.bytes in
    let place : position_or_len (is_byte separator) (drop start all) ≡ at - start = first_place (is_byte separator) bytes rest.bytes start at low high none here in
    let inside : at - start < length (drop start all) = simp (length-drop, length-append) (omega arith) in
    let e : start + (at - start) + 1 ≡ at + 1 = omega arith in
    let l : start ≤ length bytes = omega arith in
    let m : at - start ≤ length (drop start bytes) = omega (arith, length-drop start bytes) in
    let cut : take (at - start) (drop start all) ≡ take (at - start) (drop start bytes) = ap (take (at - start)) (drop-append-le start bytes rest.bytes l) ∙ take-append-le (at - start) (drop start bytes) rest.bytes m in
    line_at separator rest.fails (drop start all) start (at - start) place inside ∙ (ap (λ (x : List ℕ). found x (start + (at - start) + 1)) cut ∙ ap (found (slice_range bytes start at)) e)

-- no separator, and nothing more to come
line_last : (separator : ℕ) (bytes : List ℕ) (ending : Ending) (start : ℕ) → Nowhere (Passes (is_byte separator) bytes) start (length bytes) → next_record (before bytes (nothing ending)) start (separator ∷ []) ≡ last_line (is_failed ending) (drop start bytes) start
line_last separator bytes ending start none =
    let all : bytes ++ [] ≡ bytes = append-nil bytes in
    let place : position_or_len (is_byte separator) (drop start (bytes ++ [])) ≡ length (drop start (bytes ++ [])) = rw all (no_place (is_byte separator) bytes start none) in
    line_past separator (is_failed ending) (drop start (bytes ++ [])) start _ place (omega arith) ∙ ap (λ (x : List ℕ). last_line (is_failed ending) (drop start x) start) all

-- the answer where a separator was found among the bytes held
pub found_line : {S : Type 0} (may_give : S → Input → Type 0) (tape : TapeState S) (kept : List ℕ) (separator scanned at start consumed : ℕ) → kept ≡ tape.bytes → start ≡ tape.consumed → tape.consumed ≡ consumed → tape.consumed ≤ scanned → Nowhere (Passes (is_byte separator) tape.bytes) tape.consumed scanned → NoneBefore (Passes (is_byte separator) kept) scanned (length kept) at × Passes (is_byte separator) kept at → (input : Input) → MayBe may_give tape input → next_record input consumed (separator ∷ []) ≡ found (slice_range tape.bytes start at) (at + 1)
found_line may_give tape kept separator scanned at start consumed k s c low none here input may =
    let P : ℕ → Type 0 = Passes (is_byte separator) tape.bytes in
    let h : NoneBefore P scanned (length tape.bytes) at × P at = subst (λ (x : List ℕ). NoneBefore (Passes (is_byte separator) x) scanned (length x) at × Passes (is_byte separator) x at) k here in
    let first : Nowhere P tape.consumed at = Nowhere-then none h.0.before in
    let l : tape.consumed ≤ at = omega (arith, h.0.low) in
    let e : next_record input tape.consumed (separator ∷ []) ≡ found (slice_range tape.bytes tape.consumed at) (at + 1) = ap (λ (i : Input). next_record i tape.consumed (separator ∷ [])) may.whole ∙ line_found separator tape.bytes may.rest tape.consumed at l h.0.high first h.1 in
    ap (λ n. next_record input n (separator ∷ [])) (sym c) ∙ (e ∙ ap (λ n. found (slice_range tape.bytes n at) (at + 1)) (sym s))

-- the answer where there is none, and nothing more to come
pub no_line : {S : Type 0} (may_give : S → Input → Type 0) (tape : TapeState S) (kept lent : List ℕ) (separator scanned start consumed : ℕ) (ending : Ending) (answer : Result (Option Place) Fault) → ((rest : Input) → may_give tape.source rest → rest ≡ nothing ending) → kept ≡ tape.bytes → lent ≡ tape.bytes → start ≡ tape.consumed → tape.consumed ≡ consumed → Nowhere (Passes (is_byte separator) tape.bytes) tape.consumed scanned → Nowhere (Passes (is_byte separator) kept) scanned (length kept) → Answers (last_line (is_failed ending) (drop start lent) start) lent answer → (input : Input) → MayBe may_give tape input → Answers (next_record input consumed (separator ∷ [])) tape.bytes answer
no_line may_give tape kept lent separator scanned start consumed ending answer over k k' s c none more h input may =
    let P : ℕ → Type 0 = Passes (is_byte separator) tape.bytes in
    let more' : Nowhere P scanned (length tape.bytes) = subst (λ (x : List ℕ). Nowhere (Passes (is_byte separator) x) scanned (length x)) k more in
    let whole : input ≡ before tape.bytes (nothing ending) = may.whole ∙ ap (before tape.bytes) (over may.rest may.comes) in
    let e : next_record input tape.consumed (separator ∷ []) ≡ last_line (is_failed ending) (drop tape.consumed tape.bytes) tape.consumed = ap (λ (i : Input). next_record i tape.consumed (separator ∷ [])) whole ∙ line_last separator tape.bytes ending tape.consumed (Nowhere-then none more') in
    let h' : Answers (last_line (is_failed ending) (drop start tape.bytes) start) tape.bytes answer = subst (λ (x : List ℕ). Answers (last_line (is_failed ending) (drop start x) start) x answer) k' h in
    let h'' : Answers (last_line (is_failed ending) (drop tape.consumed tape.bytes) tape.consumed) tape.bytes answer = subst (λ n. Answers (last_line (is_failed ending) (drop n tape.bytes) n) tape.bytes answer) s h' in
    subst (λ (n : ℕ). Answers (next_record input n (separator ∷ [])) tape.bytes answer) c (subst (λ (x : Result (Option Found) Fault). Answers x tape.bytes answer) (sym e) h'')

-- no separator among the bytes held, which then grow
pub none_longer : (p : ℕ → Bool) (bytes kept chunk now : List ℕ) (start scanned size : ℕ) → kept ≡ bytes → size ≡ length bytes → now ≡ bytes ++ chunk → Nowhere (Passes p bytes) start scanned → Nowhere (Passes p kept) scanned (length kept) → Nowhere (Passes p now) start size
none_longer p bytes kept chunk now start scanned size k n grown none more place low high pass =
    let more' : Nowhere (Passes p bytes) scanned (length bytes) = subst (λ (x : List ℕ). Nowhere (Passes p x) scanned (length x)) k more in
    let inside : place < length bytes = omega arith in
    let pass' : Passes p (bytes ++ chunk) place = subst (λ (x : List ℕ). Passes p x place) grown pass in
    Nowhere-then none more' place low inside (rw get_or_append_left at pass')

-- no separator among the bytes held: they do not settle the record
pub line_open : (bytes kept : List ℕ) (separator scanned start consumed : ℕ) → kept ≡ bytes → start ≡ consumed → Nowhere (Passes (is_byte separator) bytes) start scanned → Nowhere (Passes (is_byte separator) kept) scanned (length kept) → IsUnsettled (separator ∷ []) bytes consumed
line_open bytes kept separator scanned start consumed k s none more =
    let P : ℕ → Type 0 = Passes (is_byte separator) bytes in
    let more' : Nowhere P scanned (length bytes) = subst (λ (x : List ℕ). Nowhere (Passes (is_byte separator) x) scanned (length x)) k more in
    let all : Nowhere P consumed (length bytes) = subst (λ n. Nowhere P n (length bytes)) s (Nowhere-then none more') in
    line_past separator true (drop consumed bytes) consumed _ (no_place (is_byte separator) bytes consumed all) (omega arith)
