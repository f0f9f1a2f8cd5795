-- A dialog, turn by turn.
use Rattle.std.proofs.Common.{◌≡◌, ◌≢◌, ℕ, ◌+◌, ◌-◌, ◌^◌, ◌<◌, ◌≤◌, ◌⊎◌, inl, inr, true, false, List, [], ◌∷◌, ◌++◌, length, take, drop, refl, sym, ap, ◌∙◌, subst, arith, append_assoc, Option, Some, None, Result, Ok, Err, OnErr}
use Rattle.std.proofs.lemmas.List.{append-nil, length-append, take-append-drop, length-take-le, get_or-append_right}
use Rattle.std.proofs.Math.Seq.{take-append-add}
use Rattle.rawk_value.specs.Values.{Bytes}
use Rattle.rawk_devices.specs.Inputs.{Input, CountsUp, before}
use Rattle.rawk_tape.specs.Records.{next_record}
use Rattle.rawk_tape.specs.Lines.{HasNoLine, IsDue, IsEndless, IsNextLine, LinesState, NoNewline, ReadsMore, failures_at, failures_by, newline}
use Rattle.rawk_tape.specs.declared.lines.NoLine.{NoLine}
use Rattle.rawk_tape.specs.declared.lines.NoLine.TheVariants as no_line
use Rattle.rawk_devices.specs.declared.source.Ending.{Ending}
use Rattle.rawk_devices.specs.declared.source.Ending.TheVariants.{Failed}
use Rattle.rawk_tape.specs.Laws.{before-before, moved, next_record-before}
use Rattle.rawk_debug.specs.declared.transcript.Reply.{Reply}
use Rattle.rawk_debug.specs.declared.transcript.Reply.TheVariants.{Text, Line, Nothing, Quits}
use Rattle.rawk_debug.specs.Moves.{Stand}
use Rattle.rawk_debug.specs.Transcript.{Transcript, Turn, Heard, Passed, Carries, IsReply, is_quit, reply_text, request}
use Rattle.rawk_debug.specs.Runs.{Leads, leads_nowhere, leads_on, leads_to_quit, leads_to_end}
use Rattle.rawk.specs.declared.dialog.Over.{Over}
use Rattle.rawk.specs.declared.dialog.Over.TheVariants.{Ended, Unread, Unwritten, TooMany}
use Rattle.rawk.specs.Reads.{WasRead}
use Rattle.rawk.specs.Reports.{read_failures, write_failures}
use Rattle.rawk.specs.Runs.{IsCut}
use Rattle.rawk.specs.Dialogs.{IsNextTurn, TurnsTo, NoneQuits, IsDialog, Speaks, Told, to_end, to_quit, unread, too_many, unwritten, over_by, quits_by, report_over}

-- the line that is due begins here, or later
due_on : (read : Bytes) (k m : ℕ) → k ≤ m → IsDue read k → IsDue read m
due_on read k m low due = record { held = due.held; chunk = due.chunk; whole = due.whole; bounded = due.bounded; without = λ j h. due.without j (omega (arith, low, h)) }

-- a place behind bytes that stand before it
none_behind : (front bytes : Bytes) → NoNewline bytes 0 → NoNewline (front ++ bytes) (length front)
none_behind front bytes none k low high is =
    let a = length-append front bytes in
    let inside : k - length front < length bytes = omega (arith, low, high, a) in
    none (k - length front) (omega arith) inside (sym (get_or-append_right front bytes (length front) k 0 refl low) ∙ is)

-- what was read of the line that is due, behind the lines before it
due_behind : (front read : Bytes) → IsDue read 0 → IsDue (front ++ read) (length front)
due_behind front read due = record {
  held = front ++ due.held;
  chunk = due.chunk;
  whole = ap (λ (b : Bytes). front ++ b) due.whole ∙ sym (append_assoc front due.held due.chunk);
  bounded = due.bounded;
  without = none_behind front due.held due.without;
}

endless_behind : (front read : Bytes) → IsEndless read 0 → IsEndless (front ++ read) (length front)
endless_behind front read long = record { many = omega (arith, length-append front read, long.many); without = none_behind front read long.without }

-- what was read for the line that is due
due_by : (front old new : Bytes) (k : ℕ) → k ≤ length front → IsDue (front ++ old) k → (new ≡ old) ⊎ IsDue new 0 → IsDue (front ++ new) (length front)
due_by front old new k low due (inl same) = subst (λ (b : Bytes). IsDue (front ++ b) (length front)) (sym same) (due_on (front ++ old) k (length front) low due)
due_by front old new k low due (inr now) = due_behind front new now

-- a source that is not over has not failed
pub not_failed : (over : Option Ending) → over ≡ None → over ≡ Some Failed → ⊥
not_failed over none failed = let h : 0 ≡ 1 = sym (ap failures_by none) ∙ ap failures_by failed in omega (arith, h)

-- nothing is read
none_due : (read : Bytes) (count : ℕ) → read ≡ [] → IsDue read count
none_due read count none = record { held = []; chunk = []; whole = none; bounded = omega arith; without = λ k low high. absurd (omega (arith, high)) }

-- the next record, behind the lines before it
record_behind : (front bytes : Bytes) (rest : Input) → next_record (before (front ++ bytes) rest) (length front) newline ≡ moved (length front) (next_record (before bytes rest) 0 newline)
record_behind front bytes rest =
    let e : length front + 0 ≡ length front = omega arith in
    ap (λ (i : Input). next_record i (length front) newline) (sym (before-before front bytes rest))
    ∙ ap (λ k. next_record (before front (before bytes rest)) k newline) (sym e)
    ∙ next_record-before front (before bytes rest) 0 newline

line_behind : (front bytes : Bytes) (rest : Input) (line : Bytes) (count : ℕ) → IsNextLine (before bytes rest) 0 line count → IsNextLine (before (front ++ bytes) rest) (length front) line (length front + count)
line_behind front bytes rest line count is = record_behind front bytes rest ∙ ap (moved (length front)) is

turn_behind : (is_read : Type 0) (front bytes : Bytes) (rest : Input) (turn : Turn) (count : ℕ) → IsNextTurn is_read (before bytes rest) 0 turn count → IsNextTurn is_read (before (front ++ bytes) rest) (length front) turn (length front + count)
turn_behind is_read front bytes rest (Heard line) count is = line_behind front bytes rest line count is
turn_behind is_read front bytes rest (Passed line) count (is, long, read) = (line_behind front bytes rest line count is, long, read)

none_there : (front bytes : Bytes) (rest : Input) (why : NoLine) → HasNoLine (before bytes rest) 0 why → HasNoLine (before (front ++ bytes) rest) (length front) why
none_there front bytes rest no_line.Ended is = record_behind front bytes rest ∙ ap (moved (length front)) is
none_there front bytes rest no_line.Unread is = record_behind front bytes rest ∙ ap (moved (length front)) is
none_there front bytes rest no_line.TooMany is = tt

-- a dialog that has no next line reports a failed read exactly where there was one, and no failed write
pub reads_reported : (why : NoLine) → failures_at why ≡ read_failures (report_over (over_by why)).cause
reads_reported no_line.Ended = refl
reads_reported no_line.Unread = refl
reads_reported no_line.TooMany = refl

pub writes_reported : (why : NoLine) → 0 ≡ write_failures (report_over (over_by why)).cause
writes_reported no_line.Ended = refl
writes_reported no_line.Unread = refl
writes_reported no_line.TooMany = refl

-- one turn more
pub turns_on : (is_read : Type 0) (asked : Input) (start : ℕ) (turns : List Turn) (count : ℕ) (turn : Turn) (next : ℕ) → TurnsTo is_read asked start turns count → IsNextTurn is_read asked count turn next → TurnsTo is_read asked start (turns ++ turn ∷ []) next
turns_on is_read asked start [] count turn next same is = (next, subst (λ k. IsNextTurn is_read asked k turn next) same is, refl)
turns_on is_read asked start (x ∷ turns) count turn next (m, first, rest) is = (m, first, turns_on is_read asked m turns count turn next rest is)

-- one more that does not quit
none_quits_on : (turns : List Turn) (turn : Turn) → NoneQuits turns → is_quit (request turn) ≡ false → NoneQuits (turns ++ turn ∷ [])
none_quits_on [] turn none stays = (stays, tt)
none_quits_on (x ∷ turns) turn (first, rest) stays = (first, none_quits_on turns turn rest stays)

-- a turn whose reply does not end the session does not quit
stays_by : (input : Input) (turn : Turn) (old : Stand) (output : Bytes) (reply : Reply) (new : Stand) → quits_by reply ≡ false → Carries input turn old output reply new → is_quit (request turn) ≡ false
stays_by input turn old output (Text from t) new h c = c.0
stays_by input turn old output (Line r) new h c = c.0
stays_by input turn old output Nothing new h c = c.0
stays_by input turn old output Quits new h c = absurd (cc h)

quits_is : (reply : Reply) → quits_by reply ≡ true → reply ≡ Quits
quits_is (Text from t) h = absurd (cc h)
quits_is (Line r) h = absurd (cc h)
quits_is Nothing h = absurd (cc h)
quits_is Quits h = refl

pub stays_is : (reply : Reply) → quits_by reply ≡ false → IsReply reply
stays_is (Text from t) h = tt
stays_is (Line r) h = tt
stays_is Nothing h = tt
stays_is Quits h = absurd (cc h)

-- behind what was written, a part is
pub part_behind : {V E : Type 0} (may_hold : V → Bytes → Type 0) (result : Result (Unit {0}) E) (old mid new : V) (front rest whole : Bytes) → whole ≡ front ++ rest → ((held : Bytes) → may_hold old held → may_hold mid (held ++ front))
    → OnErr result ((held : Bytes) → may_hold mid held → (size : ℕ) × (size < length rest) × may_hold new (held ++ take size rest))
    → OnErr result ((held : Bytes) → may_hold old held → (size : ℕ) × (size < length whole) × may_hold new (held ++ take size whole))
part_behind may_hold (Ok done) old mid new front rest whole is wrote cut = tt
part_behind may_hold (Err fault) old mid new front rest whole is wrote cut = λ held h.
    let part = cut (held ++ front) (wrote held h) in
    let less : length front + part.0 < length whole = omega (arith, ap length is, length-append front rest, part.1) in
    let first : take (length front + part.0) whole ≡ front ++ take part.0 rest = ap (λ (b : Bytes). take (length front + part.0) b) is ∙ take-append-add front rest part.0 in
    (length front + part.0, less, subst (λ (b : Bytes). may_hold new b) (append_assoc held front (take part.0 rest) ∙ ap (λ (b : Bytes). held ++ b) (sym first)) part.2)

-- a part of an answer is written
unwritten_part : (is_read : Type 0) (input asked : Input) (read : Bytes) (first mid new : Stand) (turns : List Turn) (turn : Turn) (count next : ℕ) (out text : Bytes) (size : ℕ) → TurnsTo is_read asked 0 turns count → IsNextTurn is_read asked count turn next → IsDue read count → NoneQuits (turns ++ turn ∷ [])
    → Transcript input turns first out mid → Transcript input (turns ++ turn ∷ []) first (out ++ text) new → size < length text → IsDialog is_read input asked read first new Unwritten (out ++ take size text)
unwritten_part is_read input asked read first mid new turns turn count next out text size to is due stays before all small =
    let whole : out ++ text ≡ (out ++ take size text) ++ drop size text = ap (λ (b : Bytes). out ++ b) (sym (take-append-drop size text)) ∙ sym (append_assoc out (take size text) (drop size text)) in
    let a = length-append out text in
    let b = length-append out (take size text) in
    let n = length-take-le size text (omega (arith, small)) in
    unwritten turns turn count next mid out (out ++ text) (out ++ take size text) to is due stays before all (take size text, refl) (drop size text, whole) (omega (arith, a, b, n, small))

-- what is so of the turns carried out: on each input that may be, and whatever the commands still give
pub record SoFar {M C V : Type 0} (is_read : Type 0) (may_be : M → Input → Type 0) (may_give : C → Input → Type 0) (handed : C → ℕ) (may_hold : V → Bytes → Type 0) (first now : Stand) (start machine : M) (commands_first commands : C) (state : LinesState) (sink_first sink : V) : Type 0 where
  pub turns : List Turn
  pub out : Bytes
  pub gone : Bytes
  pub leads : (input : Input) → may_be machine input → Leads input turns first out now
  pub stays : (input : Input) → may_be machine input → NoneQuits turns
  pub narrows : (input : Input) → may_be machine input → may_be start input
  pub comes : (rest : Input) → may_give commands rest → may_give commands_first (before (gone ++ state.bytes) rest)
  pub counted : CountsUp (handed commands_first) (handed commands) (length (gone ++ state.bytes))
  pub read : (rest : Input) → may_give commands rest → TurnsTo is_read (before (gone ++ state.bytes) rest) 0 turns (length gone)
  pub many : length turns ≡ state.taken
  pub taken : (held : Bytes) → may_hold sink_first held → may_hold sink (held ++ out)
  pub wanted : ℕ
  pub passed : wanted ≤ length gone
  pub due : IsDue (gone ++ state.bytes) wanted

-- nothing was read, and what may come still may
comes_none : {C : Type 0} (may_give : C → Input → Type 0) (commands : C) (bytes : Bytes) → bytes ≡ [] → (rest : Input) → may_give commands rest → may_give commands (before bytes rest)
comes_none may_give commands bytes none rest come = subst (λ (b : Bytes). may_give commands (before b rest)) (sym none) come

-- before the first turn
pub begun : {M C V : Type 0} (is_read : Type 0) (may_be : M → Input → Type 0) (may_give : C → Input → Type 0) (handed : C → ℕ) (may_hold : V → Bytes → Type 0) (first : Stand) (machine : M) (commands : C) (state : LinesState) (sink : V)
    → state ≡ record { bytes = []; over = None; taken = 0 } → SoFar is_read may_be may_give handed may_hold first first machine machine commands commands state sink sink
begun is_read may_be may_give handed may_hold first machine commands state sink fresh =
    let none : state.bytes ≡ [] = ap (λ (l : LinesState). l.bytes) fresh in
    let few : state.taken ≡ 0 = ap (λ (l : LinesState). l.taken) fresh in
    let size : length state.bytes ≡ 0 = ap length none in
    record {
      turns = [];
      out = [];
      gone = [];
      leads = λ input may. leads_nowhere input first;
      stays = λ input may. tt;
      narrows = λ input may. may;
      comes = comes_none may_give commands state.bytes none;
      counted = omega (arith, size);
      read = λ rest come. refl;
      many = sym few;
      taken = λ held holds. subst (λ (b : Bytes). may_hold sink b) (sym (append-nil held)) holds;
      wanted = 0;
      passed = omega arith;
      due = none_due state.bytes 0 none;
    }

-- two rises, one after the other
counts_on : (a b c m n k : ℕ) → k ≡ m + n → CountsUp a b m → CountsUp b c n → CountsUp a c k
counts_on a b c m n k e first second = λ small.
    let f : b ≡ a + m = first (omega (arith, e)) in
    let s : c ≡ b + n = second (omega (arith, e)) in
    omega (arith, e)

-- a dialog was held: this was read of the commands, and these may be left of them
pub record Spoken {M C V : Type 0} (is_read : Type 0) (may_be : M → Input → Type 0) (may_give : C → Input → Type 0) (handed : C → ℕ) (may_hold : V → Bytes → Type 0) (first last : Stand) (machine : M) (commands new : C) (sink now : V) (over : Over) : Type 0 where
  pub read : Bytes
  pub comes : (rest : Input) → may_give new rest → may_give commands (before read rest)
  pub counted : CountsUp (handed commands) (handed new) (length read)
  pub taken : (held : Bytes) → may_hold sink held → (taken : Bytes) × may_hold now (held ++ taken)
      × ((input rest : Input) → may_be machine input → may_give new rest → IsDialog is_read input (before read rest) read first last over taken)

-- with commands that are read from a source
pub speaks_read : {M C V : Type 0} (is_read : Type 0) (may_be : M → Input → Type 0) (may_give : C → Input → Type 0) (handed : C → ℕ) (may_hold : V → Bytes → Type 0) (first last : Stand) (machine : M) (commands new : C) (sink now : V) (over : Over)
    → ((c : C) → (rest : Input) × may_give c rest) → Spoken is_read may_be may_give handed may_hold first last machine commands new sink now over → Speaks is_read may_be (WasRead may_give handed commands new) may_hold first last machine sink now over
speaks_read is_read may_be may_give handed may_hold first last machine commands new sink now over gives_some spoken =
    let some = gives_some new in
    record {
      read = spoken.read;
      gives = (before spoken.read some.0, record { rest = some.0; whole = refl; given = spoken.comes some.0 some.1; left = some.1; counted = spoken.counted });
      taken = λ held holds.
          let took = spoken.taken held holds in (
            took.0,
            took.1,
            λ input asked may asks. subst (λ (i : Input). IsDialog is_read input i spoken.read first last over took.0) (sym asks.whole) (took.2 input asks.rest may asks.left),
          );
    }

module _ {M C V : Type 0} (is_read : Type 0) (may_be : M → Input → Type 0) (may_give : C → Input → Type 0) (handed : C → ℕ) (may_hold : V → Bytes → Type 0) (first now : Stand) (start machine : M) (commands_first commands commands2 : C) (state : LinesState) (sink_first sink : V) (so : SoFar is_read may_be may_give handed may_hold first now start machine commands_first commands state sink_first sink) (fresh : Bytes) (more : ReadsMore may_give handed commands state.bytes commands2 fresh) where
  abbrev all : Bytes
  all = so.gone ++ fresh

  grown : all ≡ (so.gone ++ state.bytes) ++ more.chunk
  grown = ap (λ (b : Bytes). so.gone ++ b) more.grown ∙ sym (append_assoc so.gone state.bytes more.chunk)

  same_input : (rest : Input) → before (so.gone ++ state.bytes) (before more.chunk rest) ≡ before all rest
  same_input rest = before-before (so.gone ++ state.bytes) more.chunk rest ∙ ap (λ (b : Bytes). before b rest) (sym grown)

  comes : (rest : Input) → may_give commands2 rest → may_give commands_first (before all rest)
  comes rest come = subst (may_give commands_first) (same_input rest) (so.comes (before more.chunk rest) (more.comes rest come))

  read : (rest : Input) → may_give commands2 rest → TurnsTo is_read (before all rest) 0 so.turns (length so.gone)
  read rest come = subst (λ (i : Input). TurnsTo is_read i 0 so.turns (length so.gone)) (same_input rest) (so.read (before more.chunk rest) (more.comes rest come))

  counted : CountsUp (handed commands_first) (handed commands2) (length all)
  counted = counts_on (handed commands_first) (handed commands) (handed commands2) (length (so.gone ++ state.bytes)) (length more.chunk) (length all) (ap length grown ∙ length-append (so.gone ++ state.bytes) more.chunk) so.counted more.counted

  is_due : IsDue all (length so.gone)
  is_due = due_by so.gone state.bytes fresh so.wanted so.passed so.due more.lazy

  -- there is no next line
  no_next : (why : NoLine) → (why ≢ no_line.Ended → is_read) → ((rest : Input) → may_give commands2 rest → HasNoLine (before fresh rest) 0 why) → (why ≡ no_line.TooMany → IsEndless fresh 0 ⊎ (2 ^ 64 - 1 ≤ state.taken))
      → (input rest : Input) → may_be machine input → may_give commands2 rest → IsDialog is_read input (before all rest) all first now (over_by why) so.out
  no_next no_line.Ended is none many input rest may come = to_end so.turns (length so.gone) so.out (read rest come) (so.stays input may) (none_there so.gone fresh rest no_line.Ended (none rest come)) is_due (leads_to_end input so.turns first so.out now (so.leads input may))
  no_next no_line.Unread is none many input rest may come = unread so.turns (length so.gone) so.out (is (λ e. cc)) (read rest come) (so.stays input may) (none_there so.gone fresh rest no_line.Unread (none rest come)) is_due (leads_to_end input so.turns first so.out now (so.leads input may))
  no_next no_line.TooMany is none many input rest may come =
      let behind : IsEndless all (length so.gone) ⊎ (2 ^ 64 - 1 ≤ length so.turns) =
      elim (many refl) [
        | inl here ↦ inl (endless_behind so.gone fresh here)
        | inr there ↦ inr (subst (λ k. 2 ^ 64 - 1 ≤ k) (sym so.many) there)
      ] in
      too_many so.turns (length so.gone) so.out (is (λ e. cc)) (read rest come) (so.stays input may) is_due behind (leads_to_end input so.turns first so.out now (so.leads input may))

  pub unread_is : (why : NoLine) → (why ≢ no_line.Ended → is_read) → ((rest : Input) → may_give commands2 rest → HasNoLine (before fresh rest) 0 why) → (why ≡ no_line.TooMany → IsEndless fresh 0 ⊎ (2 ^ 64 - 1 ≤ state.taken))
      → Spoken is_read may_be may_give handed may_hold first now machine commands_first commands2 sink_first sink (over_by why)
  unread_is why is none many = record {
    read = all;
    comes = comes;
    counted = counted;
    taken = λ held h. (so.out, so.taken held h, no_next why is none many);
  }

  module _ (machine2 : M) (new : Stand) (sink2 : V) (turn : Turn) (count : ℕ) (output : Bytes) (reply : Reply) (next : (rest : Input) → may_give commands2 rest → IsNextTurn is_read (before fresh rest) 0 turn count) (narrows : (input : Input) → may_be machine2 input → may_be machine input) (carries : (input : Input) → may_be machine2 input → Carries input turn now output reply new) where
    is_next : (rest : Input) → may_give commands2 rest → IsNextTurn is_read (before all rest) (length so.gone) turn (length so.gone + count)
    is_next rest come = turn_behind is_read so.gone fresh rest turn count (next rest come)

    reads : (rest : Input) → may_give commands2 rest → TurnsTo is_read (before all rest) 0 (so.turns ++ turn ∷ []) (length so.gone + count)
    reads rest come = turns_on is_read (before all rest) 0 so.turns (length so.gone) turn (length so.gone + count) (read rest come) (is_next rest come)

    -- the turn ends the session
    quitted : quits_by reply ≡ true → Spoken is_read may_be may_give handed may_hold first new machine2 commands_first commands2 sink_first sink Ended
    quitted is = record {
      read = all;
      comes = comes;
      counted = counted;
      taken = λ held h. (
        so.out,
        so.taken held h,
        λ input rest may come.
            let quit : Carries input turn now output Quits new = subst (λ (r : Reply). Carries input turn now output r new) (quits_is reply is) (carries input may) in
            to_quit so.turns turn (length so.gone) (length so.gone + count) so.out (read rest come) (is_next rest come) is_due (so.stays input (narrows input may)) quit.0 (leads_to_quit input so.turns first so.out now (so.leads input (narrows input may)) turn output new [] quit),
      );
    }

    leads_further : quits_by reply ≡ false → (input : Input) → may_be machine2 input → Leads input (so.turns ++ turn ∷ []) first (so.out ++ reply_text output reply) new
    leads_further is input may = leads_on input so.turns first so.out now (so.leads input (narrows input may)) turn output reply new (stays_is reply is) (carries input may)

    stays_further : quits_by reply ≡ false → (input : Input) → may_be machine2 input → NoneQuits (so.turns ++ turn ∷ [])
    stays_further is input may = none_quits_on so.turns turn (so.stays input (narrows input may)) (stays_by input turn now output reply new is (carries input may))

    -- its answer is written in part
    stopped : quits_by reply ≡ false → IsCut may_hold (reply_text output reply) sink sink2 → Spoken is_read may_be may_give handed may_hold first new machine2 commands_first commands2 sink_first sink2 Unwritten
    stopped is cut = record {
      read = all;
      comes = comes;
      counted = counted;
      taken = λ held h.
          let part = cut (held ++ so.out) (so.taken held h) in (
            so.out ++ take part.0 (reply_text output reply),
            subst (λ (b : Bytes). may_hold sink2 b) (append_assoc held so.out (take part.0 (reply_text output reply))) part.2,
            λ input rest may come. unwritten_part is_read input (before all rest) all first now new so.turns turn (length so.gone) (length so.gone + count) so.out (reply_text output reply) part.0 (read rest come) (is_next rest come) is_due (stays_further is input may)
                (leads_to_end input so.turns first so.out now (so.leads input (narrows input may))) (leads_to_end input (so.turns ++ turn ∷ []) first (so.out ++ reply_text output reply) new (leads_further is input may)) part.1,
          );
    }

    -- the dialog is over by its reply
    pub told_over : (over : Over) → Told may_hold output reply sink sink2 (Err over) → Spoken is_read may_be may_give handed may_hold first new machine2 commands_first commands2 sink_first sink2 over
    told_over Ended (is, same) = subst (λ (s : V). Spoken is_read may_be may_give handed may_hold first new machine2 commands_first commands2 sink_first s Ended) (sym same) (quitted is)
    told_over Unwritten (is, cut) = stopped is cut
    told_over Unread none = absurd none
    told_over TooMany none = absurd none

    -- its reply is written, and its line let go
    pub answered : (state3 : LinesState) → count ≤ length fresh → state3.bytes ≡ drop count fresh → state3.taken ≡ state.taken + 1 → Told may_hold output reply sink sink2 (Ok tt) → SoFar is_read may_be may_give handed may_hold first new start machine2 commands_first commands2 state3 sink_first sink2
    answered state3 low left taken (is, wrote) =
        let gone : Bytes = so.gone ++ take count fresh in
        let whole : gone ++ state3.bytes ≡ all = append_assoc so.gone (take count fresh) state3.bytes ∙ ap (λ (b : Bytes). so.gone ++ b) (ap (λ (b : Bytes). take count fresh ++ b) left ∙ take-append-drop count fresh) in
        let size : length gone ≡ length so.gone + count = length-append so.gone (take count fresh) ∙ ap (λ k. length so.gone + k) (length-take-le count fresh low) in
        record {
          turns = so.turns ++ turn ∷ [];
          out = so.out ++ reply_text output reply;
          gone = gone;
          leads = leads_further is;
          stays = stays_further is;
          narrows = λ input may. so.narrows input (narrows input may);
          comes = λ rest come. subst (λ (b : Bytes). may_give commands_first (before b rest)) (sym whole) (comes rest come);
          counted = subst (λ (b : Bytes). CountsUp (handed commands_first) (handed commands2) (length b)) (sym whole) counted;
          read = λ rest come. subst (λ k. TurnsTo is_read (before (gone ++ state3.bytes) rest) 0 (so.turns ++ turn ∷ []) k) (sym size) (subst (λ (b : Bytes). TurnsTo is_read (before b rest) 0 (so.turns ++ turn ∷ []) (length so.gone + count)) (sym whole) (reads rest come));
          many = length-append so.turns (turn ∷ []) ∙ (ap (λ k. k + 1) so.many ∙ sym taken);
          taken = λ held h. subst (λ (b : Bytes). may_hold sink2 b) (append_assoc held so.out (reply_text output reply)) (wrote (held ++ so.out) (so.taken held h));
          wanted = length so.gone;
          passed = omega (arith, size);
          due = subst (λ (b : Bytes). IsDue b (length so.gone)) (sym whole) is_due;
        }
