-- A dialog by commands in memory, line by line.
use Rattle.std.proofs.Common.{◌≡◌, ℕ, ◌+◌, ◌<◌, inl, inr, true, false, [], length, take, drop, refl, sym, ap, ◌∙◌, subst, arith, Ok, Err, None, nat_lt}
use Rattle.std.specs.List.{position_or_len, before_first, after_first}
use Rattle.std.proofs.lemmas.Bool.{cases_lt, eq-eqb, false≢true, le-ltb, lt-ltb}
use Rattle.std.proofs.lemmas.Bool.Decides.{nat_tests}
use Rattle.std.proofs.lemmas.List.{drop_all, get_or-take, length-drop, length-take, length-take-le, nil_from_length, take-append-drop, take_all}
use Rattle.std.proofs.lemmas.List.Sums.{fails_before_first}
use Rattle.rawk_value.specs.Values.{Bytes, is_empty}
use Rattle.rawk_devices.specs.Inputs.{Input, before}
use Rattle.rawk_tape.specs.Records.{found, is_newline, next_record}
use Rattle.rawk_tape.specs.Lines.{IsDue, IsNextLine, LinesState, ReadsMore, newline}
use Rattle.rawk_tape.specs.declared.lines.NoLine.TheVariants as no_line
use Rattle.rawk_debug.specs.declared.transcript.Reply.{Reply}
use Rattle.rawk_debug.specs.Moves.{Stand}
use Rattle.rawk_debug.specs.Transcript.{Carries, Heard}
use Rattle.rawk.specs.declared.dialog.Over.{Over}
use Rattle.rawk.specs.declared.dialog.Over.TheVariants.{Ended}
use Rattle.rawk.specs.Dialogs.{IsDialog, Speaks, Told}
use Rattle.rawk.specs.Debugs.{asks_all}
use Rattle.rawk.proofs.DialogSoFar.{SoFar, Spoken, answered, begun, told_over, unread_is}

-- all of these bytes, as an input
abbrev all_of : Bytes → Input
all_of bytes = record { bytes = bytes; fails = false }

-- what is left of commands in memory, behind a number of bytes, is a source of one input
abbrev gives_left : Bytes × ℕ → Input → Type 0
gives_left left rest = rest ≡ all_of left.0

abbrev gone_of : Bytes × ℕ → ℕ
gone_of left = left.1

abbrev none_kept : ℕ → LinesState
none_kept taken = record { bytes = []; over = None; taken = taken }

-- the line that is due, with its newline
abbrev due_of : Bytes → Bytes
due_of left = take (position_or_len is_newline left + 1) left

all_due : (left : Bytes) → before (due_of left) (all_of (after_first is_newline left)) ≡ all_of left
all_due left = ap all_of (take-append-drop (position_or_len is_newline left + 1) left)

-- it is the next line
line_due : (left : Bytes) → is_empty left ≡ false → IsNextLine (all_of left) 0 (before_first is_newline left) (length (due_of left))
line_due left some =
    let size : ℕ = position_or_len is_newline left in
    elim (cases_lt size (length left)) [
      | inl inside ↦
          let t : nat_lt size (length left) ≡ true = lt-ltb _ _ inside in
          let count : 0 + size + 1 ≡ length (due_of left) = omega (arith, length-take-le (size + 1) left (omega (arith, inside))) in
          rw t (ap (found (take size left)) count)
      | inr outside ↦
          let t : nat_lt size (length left) ≡ false = le-ltb _ _ outside in
          let count : 0 + length left ≡ length (due_of left) = omega (arith, ap length (take_all (size + 1) left (omega (arith, outside)))) in
          rw (t, some) (ap (λ (b : Bytes). found b (0 + length left)) (sym (take_all size left outside)) ∙ ap (found (take size left)) count)
    ]

-- before its newline there is none
is_due : (left : Bytes) → IsDue (due_of left) 0
is_due left =
    let size : ℕ = position_or_len is_newline left in
    record {
      held = take size (due_of left);
      chunk = drop size (due_of left);
      whole = sym (take-append-drop size (due_of left));
      bounded = omega (arith, length-drop size (due_of left), length-take (size + 1) left);
      without = λ k low high is.
          let inside : k < size = omega (arith, high, length-take size (due_of left)) in
          let same = get_or-take size (due_of left) k 0 inside ∙ get_or-take (size + 1) left k 0 (omega (arith, inside)) in
          let miss = fails_before_first is_newline left k 0 inside in
          absurd (false≢true (sym miss ∙ eq-eqb _ _ (sym same ∙ is)));
    }

-- it is taken from the front
takes_line : (left : Bytes) (gone : ℕ) → ReadsMore gives_left gone_of (left, gone) [] (after_first is_newline left, gone + length (due_of left)) (due_of left)
takes_line left gone = record {
  chunk = due_of left;
  grown = refl;
  comes = λ rest is. ap (before (due_of left)) is ∙ all_due left;
  counted = λ small. refl;
  lazy = inr (is_due left);
}

takes_none : (left : Bytes) (gone : ℕ) → ReadsMore gives_left gone_of (left, gone) [] (left, gone) []
takes_none left gone = record {
  chunk = [];
  grown = refl;
  comes = λ rest is. is;
  counted = λ small. omega arith;
  lazy = inl refl;
}

-- what was spoken of commands in memory
speaks_all : {M V : Type 0} (may_be : M → Input → Type 0) (may_hold : V → Bytes → Type 0) (first last : Stand) (machine : M) (commands : Bytes) (left : Bytes × ℕ) (sink now : V) (over : Over)
    → Spoken ⊥ may_be gives_left gone_of may_hold first last machine (commands, 0) left sink now over → Speaks ⊥ may_be (asks_all commands) may_hold first last machine sink now over
speaks_all may_be may_hold first last machine commands left sink now over spoken =
    let whole : before spoken.read (all_of left.0) ≡ all_of commands = spoken.comes (all_of left.0) refl in
    record {
      read = spoken.read;
      gives = (all_of commands, (refl, (left.0, ap (λ (i : Input). i.bytes) (sym whole))));
      taken = λ held holds.
          let took = spoken.taken held holds in (
            took.0,
            took.1,
            λ input asked may asks. subst (λ (i : Input). IsDialog ⊥ input i spoken.read first last over took.0) (whole ∙ sym asks.0) (took.2 input (all_of left.0) may refl),
          );
    }

-- what is so of the lines in memory that were carried out, where these bytes are left
pub record Carried {M V : Type 0} (may_be : M → Input → Type 0) (may_hold : V → Bytes → Type 0) (first now : Stand) (start machine : M) (commands left : Bytes) (sink_first sink : V) : Type 0 where
  pub gone : ℕ
  pub taken : ℕ
  pub so : SoFar ⊥ may_be gives_left gone_of may_hold first now start machine (commands, 0) (left, gone) (none_kept taken) sink_first sink

pub begun_all : {M V : Type 0} (may_be : M → Input → Type 0) (may_hold : V → Bytes → Type 0) (first : Stand) (machine : M) (commands : Bytes) (sink : V) → Carried may_be may_hold first first machine machine commands commands sink sink
begun_all may_be may_hold first machine commands sink = record { gone = 0; taken = 0; so = begun ⊥ may_be gives_left gone_of may_hold first machine (commands, 0) (none_kept 0) sink refl }

module _ {M V : Type 0} (may_be : M → Input → Type 0) (may_hold : V → Bytes → Type 0) (first now : Stand) (start machine : M) (commands left : Bytes) (sink_first sink : V) (carried : Carried may_be may_hold first now start machine commands left sink_first sink) where
  -- no line is left
  pub ended_all : is_empty left ≡ true → Speaks ⊥ may_be (asks_all commands) may_hold first now machine sink_first sink Ended
  ended_all none =
      let size : length left ≡ 0 = grind (arith, nat_tests) in
      let over : (rest : Input) → gives_left (left, carried.gone) rest → next_record (before [] rest) 0 newline ≡ Ok None =
      λ rest is. subst (λ (i : Input). next_record i 0 newline ≡ Ok None) (sym (is ∙ ap all_of (nil_from_length left size))) refl in
      speaks_all may_be may_hold first now machine commands (left, carried.gone) sink_first sink Ended
      (unread_is ⊥ may_be gives_left gone_of may_hold first now start machine (commands, 0) (left, carried.gone) (left, carried.gone) (none_kept carried.taken) sink_first sink carried.so [] (takes_none left carried.gone) no_line.Ended (λ other. other refl) over (λ many. absurd (cc)))

  module _ (machine2 : M) (new : Stand) (sink2 : V) (line rest output : Bytes) (reply : Reply) (some : is_empty left ≡ false) (line_is : line ≡ before_first is_newline left) (rest_is : rest ≡ after_first is_newline left) (narrows : (input : Input) → may_be machine2 input → may_be machine input) (carries : (input : Input) → may_be machine2 input → Carries input (Heard line) now output reply new) where
    abbrev later : Bytes × ℕ
    later = (after_first is_newline left, carried.gone + length (due_of left))

    next : (rest : Input) → gives_left later rest → IsNextLine (before (due_of left) rest) 0 line (length (due_of left))
    next rest is = subst (λ (b : Bytes). IsNextLine (before (due_of left) rest) 0 b (length (due_of left))) (sym line_is) (subst (λ (i : Input). IsNextLine i 0 (before_first is_newline left) (length (due_of left))) (sym (ap (before (due_of left)) is ∙ all_due left)) (line_due left some))

    -- the dialog is over by the reply to the first line that was left
    pub told_all : (over : Over) → Told may_hold output reply sink sink2 (Err over) → Speaks ⊥ may_be (asks_all commands) may_hold first new machine2 sink_first sink2 over
    told_all over told =
        speaks_all may_be may_hold first new machine2 commands later sink_first sink2 over
        (told_over ⊥ may_be gives_left gone_of may_hold first now start machine (commands, 0) (left, carried.gone) later (none_kept carried.taken) sink_first sink carried.so (due_of left) (takes_line left carried.gone)
        machine2 new sink2 (Heard line) (length (due_of left)) output reply next narrows carries over told)

    -- its reply is written
    pub answered_all : Told may_hold output reply sink sink2 (Ok tt) → Carried may_be may_hold first new start machine2 commands rest sink_first sink2
    answered_all told =
        subst (λ (b : Bytes). Carried may_be may_hold first new start machine2 commands b sink_first sink2) (sym rest_is)
        (record {
          gone = carried.gone + length (due_of left);
          taken = carried.taken + 1;
          so = answered ⊥ may_be gives_left gone_of may_hold first now start machine (commands, 0) (left, carried.gone) later (none_kept carried.taken) sink_first sink carried.so (due_of left) (takes_line left carried.gone)
              machine2 new sink2 (Heard line) (length (due_of left)) output reply next narrows carries (none_kept (carried.taken + 1)) (omega arith) (sym (drop_all (length (due_of left)) (due_of left) (omega arith))) refl told;
        })
