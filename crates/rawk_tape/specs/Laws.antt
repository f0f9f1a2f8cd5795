-- Laws of inputs and tapes, for the crates above: an input that may be, before and after bytes are let go, and records behind them.
use Rattle.std.specs.Prelude.{◌≡◌, ℕ, ◌+◌, List, Bool, true, false, cond, [], ◌∷◌, ◌++◌, length, take, drop, Option, None, Some, Result, Ok, Err}
use Rattle.std.proofs.Common.{refl, sym, ap, ◌∙◌, arith}
use Rattle.std.proofs.lemmas.List.{append_assoc, append-nil, drop_all}
use Rattle.std.proofs.Math.Seq.{drop-append-add}
use Rattle.rawk_value.specs.Values.{Bytes, is_empty}
use Rattle.rawk_value.specs.declared.fault.Fault.{Fault}
use Rattle.rawk_value.specs.declared.fault.Fault.TheVariants.{ReadFailed}
use Rattle.rawk_ere_tree.specs.Tree.{Tree}
use Rattle.rawk_search.specs.declared.span.Span.{Span}
use Rattle.rawk_search.specs.Expressions.{ere_of}
use Rattle.rawk_devices.specs.Inputs.{Input, before}
use Rattle.rawk_tape.specs.Records.{Found, found, next_line, next_paragraph, separator_in, ended_by, next_match, next_record}
use Rattle.rawk_tape.specs.Tapes.{TapeState, MayBe, ReadsAhead}
use Rattle.rawk_devices.specs.declared.source.Ending.{Ending}

-- what may be is the same with another count of consumed bytes
pub MayBe-consumed : {S : Type 0} (may_give : S → Input → Type 0) (tape : TapeState S) (count : ℕ) (input : Input) → MayBe may_give (record tape { consumed = count }) input → MayBe may_give tape input
MayBe-consumed may_give tape count input may = record { rest = may.rest; comes = may.comes; whole = may.whole }

-- nothing was read
pub ReadsAhead-refl : {S : Type 0} (may_give : S → Input → Type 0) (over : S → Option Ending) (handed : S → ℕ) (tape : TapeState S) → ReadsAhead may_give over handed tape tape
ReadsAhead-refl may_give over handed tape = record {
  input = λ input may. may;
  consumed = refl;
  grown = sym (ap (λ (x : List ℕ). tape.bytes ++ x) (drop_all (length tape.bytes) tape.bytes (omega arith)) ∙ append-nil tape.bytes);
  longer = omega arith;
  counted = λ small. omega arith;
  closed = λ ending is. refl;
}

pub before-before : (front back : Bytes) (input : Input) → before front (before back input) ≡ before (front ++ back) input
before-before front back input = ap (λ (x : Bytes). record { bytes = x; fails = input.fails }) (sym (append_assoc front back input.bytes))

-- the answer where n bytes more stand before the input
abbrev pub moved : ℕ → Result (Option Found) Fault → Result (Option Found) Fault
moved n (Ok (Some record_found)) = found record_found.text (n + record_found.count)
moved n (Ok None) = Ok None
moved n (Err fault) = Err fault

line_moved : (here fails empty : Bool) (text rest : Bytes) (n a b c d : ℕ) → c ≡ n + a → d ≡ n + b → cond here (found text c) (cond fails (Err ReadFailed) (cond empty (Ok None) (found rest d))) ≡ moved n (cond here (found text a) (cond fails (Err ReadFailed) (cond empty (Ok None) (found rest b))))
line_moved true fails empty text rest n a b c d e f = ap (found text) e
line_moved false true empty text rest n a b c d e f = refl
line_moved false false true text rest n a b c d e f = refl
line_moved false false false text rest n a b c d e f = ap (found rest) f

paragraph_moved : (fails empty : Bool) (text : Bytes) (n a c : ℕ) → c ≡ n + a → cond fails (Err ReadFailed) (cond empty (Ok None) (found text c)) ≡ moved n (cond fails (Err ReadFailed) (cond empty (Ok None) (found text a)))
paragraph_moved true empty text n a c e = refl
paragraph_moved false true text n a c e = refl
paragraph_moved false false text n a c e = ap (found text) e

ended_moved : (m : Option Span) (fails : Bool) (rest : Bytes) (n count : ℕ) → ended_by m fails rest (n + count) ≡ moved n (ended_by m fails rest count)
ended_moved (Some m) fails rest n count =
    let e : n + count + m.end ≡ n + (count + m.end) = omega arith in ap (found (take m.start rest)) e
ended_moved None fails rest n count = line_moved false fails (is_empty rest) rest rest n 0 (count + length rest) n (n + count + length rest) (omega arith) (omega arith)

match_moved : (e : Option Tree) (fails : Bool) (rest : Bytes) (n count : ℕ) → next_match e fails rest (n + count) ≡ moved n (next_match e fails rest count)
match_moved (Some e) fails rest n count = ended_moved (separator_in e fails rest) fails rest n count
match_moved None fails rest n count = refl

-- the next record behind bytes that stand before the input
pub next_record-before : (front : Bytes) (input : Input) (count : ℕ) (separator : Bytes) → next_record (before front input) (length front + count) separator ≡ moved (length front) (next_record input count separator)
next_record-before front input count [] =
    let rest : drop (length front + count) (front ++ input.bytes) ≡ drop count input.bytes = drop-append-add front input.bytes count in
    ap (λ (x : Bytes). next_paragraph input.fails x (length front + count)) rest ∙ paragraph_moved _ _ _ (length front) _ _ (omega arith)
next_record-before front input count (b ∷ []) =
    let rest : drop (length front + count) (front ++ input.bytes) ≡ drop count input.bytes = drop-append-add front input.bytes count in
    ap (λ (x : Bytes). next_line b input.fails x (length front + count)) rest ∙ line_moved _ _ _ _ _ (length front) _ _ _ _ (omega arith) (omega arith)
next_record-before front input count (b ∷ c ∷ more) =
    let rest : drop (length front + count) (front ++ input.bytes) ≡ drop count input.bytes = drop-append-add front input.bytes count in
    ap (λ (x : Bytes). next_match (ere_of (b ∷ c ∷ more)) input.fails x (length front + count)) rest ∙ match_moved (ere_of (b ∷ c ∷ more)) input.fails (drop count input.bytes) (length front) count
