-- The next record in paragraph mode, among the bytes held.
use Rattle.std.proofs.Common.{◌≡◌, ◌≢◌, ◌≤◌, ◌<◌, ◌+◌, ◌-◌, ℕ, List, [], Option, None, Some, Result, Ok, Err, length, ◌++◌, take, drop, slice_range, arith, subst, sym, ◌∙◌, ap, IfOk, IfSome}
use Rattle.std.proofs.lemmas.List.{length-append, get_or_append_left, take-append-le, drop-append-le, append-nil, length-drop}
use Rattle.rawk_value.specs.declared.fault.Fault.{Fault}
use Rattle.rawk_devices.specs.Inputs.{Input, before, nothing, is_failed}
use Rattle.rawk_tape.specs.Records.{Found, found, next_paragraph, next_record}
use Rattle.rawk_tape.specs.Tapes.{TapeState, MayBe, Answers, IsShortOf, text_at}
use Rattle.rawk_tape.specs.Paragraphs.{IsScanned, IsParagraph}
use Rattle.rawk_devices.specs.declared.source.Ending.{Ending}
use Rattle.rawk_tape.specs.declared.found.Found.{Found as Place}
use Rattle.rawk_tape.proofs.Breaks.{found_is}

-- what is known of a paragraph stays true in a longer text
pub scanned_longer : (bytes more : List ℕ) (start : ℕ) (place : Place) → IsScanned bytes start place → IsScanned (bytes ++ more) start place
scanned_longer bytes more start place s =
    let n : length (bytes ++ more) ≡ length bytes + length more = length-append bytes more in
    record {
      low = s.low;
      text = s.text;
      after = s.after;
      high = omega (arith, s.high);
      before = λ k l h. let i : k < length bytes = omega (arith, s.text, s.after, s.high) in rw get_or_append_left (s.before k l h);
      inside = λ k l h same.
          let i : k < length bytes = omega (arith, s.after, s.high) in
          let a = s.inside k l h (rw get_or_append_left at same) in
          let j : k + 1 < length bytes = a.0 in
          (omega arith, rw get_or_append_left a.1);
      behind = λ k l h. let i : k < length bytes = omega (arith, s.high) in rw get_or_append_left (s.behind k l h);
    }

-- and so does a paragraph that another byte follows
pub paragraph_longer : (bytes more : List ℕ) (start : ℕ) (place : Place) → IsParagraph bytes start place → place.count < length bytes → IsParagraph (bytes ++ more) start place
paragraph_longer bytes more start place p settled =
    let s = p.scanned in
    let n : length (bytes ++ more) ≡ length bytes + length more = length-append bytes more in
    let first : place.start < length bytes = omega (arith, s.text, s.after) in
    let end : place.end < length bytes = omega (arith, s.after) in
    let apart : place.end ≢ place.count = λ e. p.stops settled (rw e at (p.ends.here end)) in
    let next : place.end + 1 < length bytes = omega (arith, s.after) in
    record {
      scanned = scanned_longer bytes more start place s;
      begins = λ _. rw get_or_append_left (p.begins first);
      ends = record {
        here = λ _. rw get_or_append_left (p.ends.here end);
        behind = λ _. rw get_or_append_left (p.ends.behind next);
      };
      stops = λ _. rw get_or_append_left (p.stops settled);
    }

-- the answer where a paragraph is settled by the bytes held
pub found_paragraph : {S : Type 0} (may_give : S → Input → Type 0) (tape : TapeState S) (place : Place) (consumed : ℕ) → IsParagraph tape.bytes consumed place → place.count < length tape.bytes → (input : Input) → MayBe may_give tape input → next_record input consumed [] ≡ Ok (Some (text_at tape.bytes place))
found_paragraph may_give tape place consumed p settled input may =
    let s = p.scanned in
    let all : List ℕ = tape.bytes ++ may.rest.bytes in
    let q : IsParagraph all consumed place = paragraph_longer tape.bytes may.rest.bytes consumed place p settled in
    let n : length all ≡ length tape.bytes + length may.rest.bytes = length-append tape.bytes may.rest.bytes in
    let l : place.start ≤ length tape.bytes = omega (arith, s.text, s.after) in
    let m : place.end - place.start ≤ length (drop place.start tape.bytes) = omega (arith, length-drop place.start tape.bytes, s.text, s.after) in
    let cut : slice_range all place.start place.end ≡ slice_range tape.bytes place.start place.end = ap (take (place.end - place.start)) (drop-append-le place.start tape.bytes may.rest.bytes l) ∙ take-append-le (place.end - place.start) (drop place.start tape.bytes) may.rest.bytes m in
    ap (λ (i : Input). next_record i consumed []) may.whole
    ∙ (found_is all consumed place q may.rest.fails (λ _. omega arith) (omega (arith, s.text, s.after)) ∙ ap (λ (x : List ℕ). found x place.count) cut)

-- the answer where nothing more is to come
pub no_paragraph : {S : Type 0} (may_give : S → Input → Type 0) (tape : TapeState S) (kept : List ℕ) (consumed : ℕ) (ending : Ending) (answer : Result (Option Place) Fault) → ((rest : Input) → may_give tape.source rest → rest ≡ nothing ending) → kept ≡ tape.bytes → Answers (next_paragraph (is_failed ending) (drop consumed kept) consumed) kept answer → (input : Input) → MayBe may_give tape input → Answers (next_record input consumed []) tape.bytes answer
no_paragraph may_give tape kept consumed ending answer over k h input may =
    let whole : input ≡ before tape.bytes (nothing ending) = may.whole ∙ ap (before tape.bytes) (over may.rest may.comes) in
    let e : next_record input consumed [] ≡ next_paragraph (is_failed ending) (drop consumed tape.bytes) consumed =
    ap (λ (i : Input). next_record i consumed []) whole ∙ ap (λ (x : List ℕ). next_paragraph (is_failed ending) (drop consumed x) consumed) (append-nil tape.bytes) in
    let h' : Answers (next_paragraph (is_failed ending) (drop consumed tape.bytes) consumed) tape.bytes answer = subst (λ (x : List ℕ). Answers (next_paragraph (is_failed ending) (drop consumed x) consumed) x answer) k h in
    subst (λ (x : Result (Option Found) Fault). Answers x tape.bytes answer) (sym e) h'

-- a scan of the bytes held
pub scan_held : (kept bytes : List ℕ) (start : ℕ) (so_far place : Place) → kept ≡ bytes → ((n : ℕ) → IsScanned kept n so_far → IsParagraph kept n place) → IsScanned bytes start so_far → IsParagraph bytes start place
scan_held kept bytes start so_far place k scan s =
    subst (λ (x : List ℕ). IsParagraph x start place) k (scan start (subst (λ (x : List ℕ). IsScanned x start so_far) (sym k) s))

-- nothing stands behind the last paragraph
pub short_of_last : (old : List ℕ) (consumed : ℕ) (new : List ℕ) (found : Place) (answer : Result (Option Place) Fault) → IfOk answer (λ a. IfSome a (λ place. place ≡ found)) → found.count ≡ length new → IsShortOf old consumed new answer
short_of_last old consumed new found (Ok (Some place)) same whole =
    let e : place.count ≡ found.count = ap (λ (p : Place). p.count) same in omega arith
short_of_last old consumed new found (Ok None) same whole = tt
short_of_last old consumed new found (Err fault) same whole = tt
