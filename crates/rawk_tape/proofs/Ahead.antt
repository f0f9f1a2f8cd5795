-- What reading ahead leaves.
use Rattle.std.proofs.Common.{◌⊎◌, inl, inr, ◌≡◌, ◌≤◌, ◌+◌, ◌-◌, ℕ, List, Option, None, Some, length, ◌++◌, drop, arith, subst, sym, ◌∙◌, ap, refl}
use Rattle.std.proofs.lemmas.List.{length-append, append_assoc, drop-append-le}
use Rattle.rawk_devices.specs.Inputs.{Input, before, CountsUp}
use Rattle.rawk_devices.specs.declared.source.Ending.{Ending}
use Rattle.rawk_tape.specs.Tapes.{TapeState, MayBe, ReadsOn, ReadsAhead, LeadsBack, LastRead, IsUnsettled}
use Rattle.rawk_tape.specs.Laws.{MayBe-consumed}
use Rattle.rawk_devices.specs.Counts.{counts_more}

-- what may be after a read might have been before it
pub MayBe-back : {S : Type 0} (may_give : S → Input → Type 0) (old new : TapeState S) (chunk : List ℕ) → new.bytes ≡ old.bytes ++ chunk → ((rest : Input) → may_give new.source rest → may_give old.source (before chunk rest)) → (input : Input) → MayBe may_give new input → MayBe may_give old input
MayBe-back may_give old new chunk grown comes input may = record {
  rest = before chunk may.rest;
  comes = comes may.rest may.comes;
  whole = may.whole ∙ (ap (λ (x : List ℕ). before x may.rest) grown ∙ ap (λ (x : List ℕ). record { bytes = x; fails = may.rest.fails }) (append_assoc old.bytes chunk may.rest.bytes));
}

-- one read more
pub ahead_more : {S : Type 0} (may_give : S → Input → Type 0) (over : S → Option Ending) (handed : S → ℕ) (old now new : TapeState S) → ReadsAhead may_give over handed old now → over now.source ≡ None → ReadsOn may_give over handed now.source now.bytes new.source new.bytes → new.consumed ≡ now.consumed → ReadsAhead may_give over handed old new
ahead_more {S = S} may_give over handed old now new a still r same =
    let all : new.bytes ≡ old.bytes ++ (drop (length old.bytes) now.bytes ++ r.chunk) = r.grown ∙ (ap (λ (x : List ℕ). x ++ r.chunk) a.grown ∙ append_assoc old.bytes (drop (length old.bytes) now.bytes) r.chunk) in
    let longer : length now.bytes + length r.chunk ≡ length new.bytes = sym (ap length r.grown ∙ length-append now.bytes r.chunk) in
    let tail : drop (length old.bytes) new.bytes ≡ drop (length old.bytes) now.bytes ++ r.chunk = ap (drop (length old.bytes)) r.grown ∙ drop-append-le (length old.bytes) now.bytes r.chunk a.longer in
    let n : (length now.bytes - length old.bytes) + length r.chunk ≡ length new.bytes - length old.bytes = omega (arith, a.longer) in
    record {
      input = λ input may. a.input input (MayBe-back may_give now new r.chunk r.grown r.comes input may);
      consumed = same ∙ a.consumed;
      grown = all ∙ ap (λ (x : List ℕ). old.bytes ++ x) (sym tail);
      longer = omega (arith, a.longer);
      counted = subst (CountsUp (handed old.source) (handed new.source)) n (counts_more _ _ _ _ _ a.counted r.counted);
      closed = λ ending is. let e : over now.source ≡ Some ending = ap (λ (t : TapeState S). over t.source) (a.closed ending is) ∙ is in cc;
    }

-- one read more, behind bytes that did not settle the record
pub read_behind_unsettled : {A B : Type 0} (separator : List ℕ) (consumed : ℕ) (old bytes chunk new : List ℕ) → (A → bytes ≡ old) → A ⊎ LastRead separator consumed old bytes → bytes ≡ old ++ drop (length old) bytes → new ≡ bytes ++ chunk → length chunk ≤ 65536 → IsUnsettled separator bytes consumed → B ⊎ LastRead separator consumed old new
read_behind_unsettled separator consumed old bytes chunk new none earlier grown whole bounded unsettled =
    let first : IsUnsettled separator old consumed =
    elim earlier [
      | inl still ↦ subst (λ (x : List ℕ). IsUnsettled separator x consumed) (none still) unsettled
      | inr some ↦ some.first
    ] in
    inr (record { held = bytes; chunk = chunk; before = grown; whole = whole; bounded = bounded; first = first; last = unsettled })

-- the same of a tape
pub last_read : {S : Type 0} (may_give : S → Input → Type 0) (over : S → Option Ending) (handed : S → ℕ) (old now new : TapeState S) (separator : List ℕ) (consumed : ℕ) → ReadsAhead may_give over handed old now → (now ≡ old) ⊎ LastRead separator consumed old.bytes now.bytes → ReadsOn may_give over handed now.source now.bytes new.source new.bytes → IsUnsettled separator now.bytes consumed → (new ≡ old) ⊎ LastRead separator consumed old.bytes new.bytes
last_read {S = S} may_give over handed old now new separator consumed a earlier r unsettled =
    read_behind_unsettled {A = now ≡ old} {B = new ≡ old} separator consumed old.bytes now.bytes r.chunk new.bytes (λ same. ap (λ (t : TapeState S). t.bytes) same) earlier a.grown r.grown r.bounded unsettled

-- another count of consumed bytes is taken back, whatever is read ahead after it
pub count_back : {S : Type 0} (may_give : S → Input → Type 0) (over : S → Option Ending) (handed : S → ℕ) (old more : TapeState S) (count : ℕ) → old.consumed ≤ length old.bytes → ReadsAhead may_give over handed (record old { consumed = count }) more → LeadsBack may_give over handed more old.consumed old
count_back {S = S} may_give over handed old more count fits a = record {
  fits = omega (arith, fits, a.longer);
  ahead = record {
    input = λ input may. MayBe-consumed may_give old count input (a.input input (MayBe-consumed may_give more old.consumed input may));
    consumed = refl;
    grown = a.grown;
    longer = a.longer;
    counted = a.counted;
    closed = λ ending is. ap (λ (t : TapeState S). record t { consumed = old.consumed }) (a.closed ending is);
  };
}
