-- What was read for the line that is due, read by read.
use Rattle.std.proofs.Common.{◌≡◌, ◌≢◌, ◌≤◌, ◌<◌, ◌+◌, ◌-◌, ◌^◌, ℕ, [], None, Some, Option, length, ◌++◌, take, drop, arith, refl, sym, ◌∙◌, ap, subst, append_assoc, ◌⊎◌, inl, inr}
use Rattle.std.specs.List.{position_or_len}
use Rattle.std.proofs.lemmas.List.{length-append, length-take-le, append-nil}
use Rattle.std.proofs.Math.Seq.{drop-append-add}
use Rattle.rawk_value.specs.Values.{Bytes}
use Rattle.rawk_devices.specs.Inputs.{Input, CountsUp, before, nothing}
use Rattle.rawk_tape.specs.Records.{is_newline}
use Rattle.rawk_tape.specs.Tapes.{ReadsOn}
use Rattle.rawk_tape.specs.Lines.{FindsNone, IsDue, IsEndless, LinesState, PassesOver, ReadsMore, failures_by}
use Rattle.rawk_tape.specs.Laws.{before-before}
use Rattle.rawk_tape.specs.declared.lines.NoLine.{NoLine}
use Rattle.rawk_tape.specs.declared.lines.NoLine.TheVariants.{TooMany, Unread}
use Rattle.rawk_devices.specs.declared.source.Ending.{Ending}
use Rattle.rawk_devices.specs.declared.source.Ending.TheVariants.{Ended, Failed}
use Rattle.rawk_tape.proofs.Newlines.{fails_left, first_behind, last_left, line_whole, none_held}

-- what has not failed counts no failure
pub no_failure : (over : Option Ending) → over ≢ Some Failed → failures_by over ≡ 0
no_failure None h = refl
no_failure (Some Ended) h = refl
no_failure (Some Failed) h = absurd (h refl)

-- a rise behind none
pub counted : (a b c m n : ℕ) → CountsUp a b 0 → CountsUp b c m → m ≡ n → CountsUp a c n
counted a b c m n first then same = omega (arith, first, then, same)

-- nothing is read
pub reads_none : {C : Type 0} (may_give : C → Input → Type 0) (handed : C → ℕ) (source : C) (held : Bytes) → ReadsMore may_give handed source held source held
reads_none may_give handed source held = record { chunk = []; grown = sym (append-nil held); comes = λ rest come. come; counted = omega arith; lazy = inl refl }

-- the bytes before the last read had no newline
due_now : {C : Type 0} (may_give : C → Input → Type 0) (over : C → Option Ending) (handed : C → ℕ) (old new : C) (held now : Bytes) → ReadsOn may_give over handed old held new now → length held ≤ position_or_len is_newline held → IsDue now 0
due_now may_give over handed old new held now b far = record { held = held; chunk = b.chunk; whole = b.grown; bounded = b.bounded; without = none_held held far }

-- reads, and then more of them
pub reads_then : {C : Type 0} (may_give : C → Input → Type 0) (handed : C → ℕ) (first old new : C) (begun held now : Bytes) → ReadsMore may_give handed first begun old held → ReadsMore may_give handed old held new now → ReadsMore may_give handed first begun new now
reads_then may_give handed first old new begun held now a b =
    let size = length-append a.chunk b.chunk in
    record {
      chunk = a.chunk ++ b.chunk;
      grown = b.grown ∙ (ap (λ (x : Bytes). x ++ b.chunk) a.grown ∙ append_assoc begun a.chunk b.chunk);
      comes = λ rest come. subst (may_give first) (before-before a.chunk b.chunk rest) (a.comes (before b.chunk rest) (b.comes rest come));
      counted = λ small. let f = a.counted (omega (arith, size, small)) in let s = b.counted (omega (arith, size, small, f)) in omega (arith, size, f, s);
      lazy = elim b.lazy [ inl same ↦ subst (λ (x : Bytes). (x ≡ begun) ⊎ IsDue x 0) (sym same) a.lazy | inr due ↦ inr due ];
    }

-- one read more, where no newline was held
pub reads_on : {C : Type 0} (may_give : C → Input → Type 0) (over : C → Option Ending) (handed : C → ℕ) (first old new : C) (begun held now : Bytes) → ReadsMore may_give handed first begun old held → ReadsOn may_give over handed old held new now → length held ≤ position_or_len is_newline held → ReadsMore may_give handed first begun new now
reads_on may_give over handed first old new begun held now a b far =
    reads_then may_give handed first old new begun held now a (record { chunk = b.chunk; grown = b.grown; comes = b.comes; counted = b.counted; lazy = inr (due_now may_give over handed old new held now b far) })

module _ {C : Type 0} (may_give : C → Input → Type 0) (handed : C → ℕ) (first old new : C) (begun held : LinesState) (reads : ReadsMore may_give handed first begun.bytes old held.bytes) (same : held.taken ≡ begun.taken) where
  -- a line that is passed over behind reads for it
  pub passes_then : (now : LinesState) → PassesOver may_give handed old held new now → PassesOver may_give handed first begun new now
  passes_then now p = record {
    all = p.all;
    line = p.line;
    count = p.count;
    reads = reads_then may_give handed first old new begun.bytes held.bytes p.all reads p.reads;
    next = p.next;
    long = p.long;
    within = p.within;
    left = p.left;
    taken = p.taken ∙ ap (λ k. k + 1) same;
  }

  -- no line behind reads for it
  pub none_then : (why : NoLine) → FindsNone may_give handed old held new why → FindsNone may_give handed first begun new why
  none_then why f = record {
    all = f.all;
    reads = reads_then may_give handed first old new begun.bytes held.bytes f.all reads f.reads;
    none = f.none;
    many = λ e. subst (λ k. IsEndless f.all 0 ⊎ (2 ^ 64 - 1 ≤ k)) same (f.many e);
  }

-- reads of a long line of which the bytes are not kept: all of them, with `count` reads behind those that were kept first
pub record Passing {C : Type 0} (may_give : C → Input → Type 0) (handed : C → ℕ) (old : C) (held : Bytes) (new : C) (count : ℕ) : Type 0 where
  pub all : Bytes
  pub reads : ReadsMore may_give handed old held new all
  pub without : length all ≤ position_or_len is_newline all
  pub many : count + 65536 ≤ length all

-- as many as are counted
pub endless : {C : Type 0} (may_give : C → Input → Type 0) (handed : C → ℕ) (old : C) (held : LinesState) (new : C) (count : ℕ) → Passing may_give handed old held.bytes new count → 2 ^ 64 - 1 ≤ count → FindsNone may_give handed old held new TooMany
endless may_give handed old held new count so all = record {
  all = so.all;
  reads = so.reads;
  none = λ rest come. tt;
  many = λ e. inl (record { many = omega (arith, so.many, all); without = none_held so.all so.without });
}

module _ {C : Type 0} (may_give : C → Input → Type 0) (over : C → Option Ending) (handed : C → ℕ) (old last new : C) (held : LinesState) (count : ℕ) (so : Passing may_give handed old held.bytes last count) (bytes : Bytes) (read : ReadsOn may_give over handed last [] new bytes) where
  abbrev whole : Bytes
  whole = so.all ++ bytes

  size_whole : length whole ≡ length so.all + length bytes
  size_whole = length-append so.all bytes

  first_whole : position_or_len is_newline whole ≡ length so.all + position_or_len is_newline bytes
  first_whole = first_behind so.all bytes so.without

  reads_whole : ReadsMore may_give handed old held.bytes new whole
  reads_whole =
      let behind : ReadsOn may_give over handed last so.all new whole = record { chunk = read.chunk; grown = ap (λ (b : Bytes). so.all ++ b) read.grown; bounded = read.bounded; progress = read.progress; comes = read.comes; counted = read.counted } in
      reads_on may_give over handed old last new held.bytes so.all whole so.reads behind so.without

  -- its newline was read
  pub passed_newline : (size : ℕ) (now : LinesState) → size ≡ position_or_len is_newline bytes → size < length bytes → now.bytes ≡ drop (size + 1) bytes → now.taken ≡ held.taken + 1 → PassesOver may_give handed old held new now
  passed_newline size now at inside left taken =
      let end : ℕ = length so.all + size in
      let is : end ≡ position_or_len is_newline whole = omega (arith, at, first_whole) in
      let e : end + 1 ≡ length so.all + (size + 1) = omega arith in
      record {
        all = whole;
        line = take end whole;
        count = end + 1;
        reads = reads_whole;
        next = λ rest come. line_whole whole end rest is (omega (arith, size_whole, inside));
        long = omega (arith, length-take-le end whole (omega (arith, size_whole, inside)), so.many);
        within = omega (arith, size_whole, inside);
        left = left ∙ sym (ap (λ k. drop k whole) e ∙ drop-append-add so.all bytes (size + 1));
        taken = taken;
      }

  -- the end of the commands was read
  pub passed_end : (size : ℕ) (now : LinesState) → size ≡ length bytes → length bytes ≤ position_or_len is_newline bytes → ((rest : Input) → may_give new rest → rest ≡ nothing Ended) → now.bytes ≡ drop size bytes → now.taken ≡ held.taken + 1 → PassesOver may_give handed old held new now
  passed_end size now all far ends left taken =
      let behind : length whole ≤ position_or_len is_newline whole = omega (arith, size_whole, first_whole, far) in
      let e : length whole ≡ length so.all + size = omega (arith, size_whole, all) in
      record {
        all = whole;
        line = take (length whole) whole;
        count = length whole;
        reads = reads_whole;
        next = λ rest come. last_left whole (length whole) rest behind (ends rest come) refl (λ none. omega (arith, none, size_whole, so.many));
        long = omega (arith, length-take-le (length whole) whole (omega arith), size_whole, so.many);
        within = omega arith;
        left = left ∙ sym (ap (λ k. drop k whole) e ∙ drop-append-add so.all bytes size);
        taken = taken;
      }

  -- the read failed
  pub passing_fails : length bytes ≤ position_or_len is_newline bytes → ((rest : Input) → may_give new rest → rest ≡ nothing Failed) → FindsNone may_give handed old held new Unread
  passing_fails far ends = record {
    all = whole;
    reads = reads_whole;
    none = λ rest come. fails_left whole rest (omega (arith, size_whole, first_whole, far)) (ends rest come);
    many = λ e. absurd (cc e);
  }

  -- its end is still to come
  pub passes_on : over new ≡ None → length bytes ≤ position_or_len is_newline bytes → Passing may_give handed old held.bytes new (count + 1)
  passes_on still far = record {
    all = whole;
    reads = reads_whole;
    without = omega (arith, size_whole, first_whole, far);
    many = omega (arith, size_whole, so.many, ap length read.grown, read.progress still);
  }
