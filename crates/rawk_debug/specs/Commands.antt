-- Each command of a session: when it is refused, and what it does.
use Rattle.std.specs.Prelude.{◌≡◌, ℕ, ◌+◌, Bool, true, false, not, ◌&&◌, List, [], ◌∷◌, ◌++◌, length, filter, nat_le, nat_eq, if◌then◌else◌, Option, Some, None, is_some, is_none, Result, Ok, Err}
use Rattle.std.specs.List.{list_any}
use Rattle.std.specs.Bool.{MatchBool}
use Rattle.rawk_devices.specs.Inputs.{Input}
use Rattle.rawk_value.specs.Values.{Bytes}
use Rattle.rawk_commands.specs.declared.command.Way.TheVariants.{Forward, Back}
use Rattle.rawk_commands.specs.declared.command.Goal.{Goal}
use Rattle.rawk_commands.specs.declared.command.Goal.TheVariants.{Shallower, StopOnly}
use Rattle.rawk_commands.specs.declared.command.Constant.{Constant}
use Rattle.rawk_commands.specs.declared.command.Place.{Place}
use Rattle.rawk_commands.specs.declared.command.Command.{Command}
use Rattle.rawk_commands.specs.declared.command.Command.TheVariants.{Break, Watch, Delete, Unwatch, Move, Run, Print, Set, ReverseSet, Backtrace, Quit}
use Rattle.rawk_commands.specs.declared.command.C.{C}
use Rattle.rawk_commands.specs.declared.command.C.TheVariants.{BadArgument, NoSuchPlace, NoSuchNumber, ProgramEnded, NotInFunction, SetRefused, NoSetToTakeBack, OutOfMemory}
use Rattle.rawk_commands.specs.Reading.{names_something}
use Rattle.rawk_words.specs.declared.array.Array.{Array}
use Rattle.rawk_answers.specs.declared.stop.Watched.{Watched}
use Rattle.rawk_answers.specs.declared.stop.Lvalue.{Lvalue}
use Rattle.rawk_answers.specs.declared.stop.Stop.{Stop}
use Rattle.rawk_answers.specs.declared.stop.Stop.TheVariants as stop
use Rattle.rawk_answers.specs.declared.stop.Entry.{Entry}
use Rattle.rawk_debug.specs.declared.answer.Answer.{Answer}
use Rattle.rawk_debug.specs.declared.answer.Answer.TheVariants.{Advanced, Halted, Returned, Stayed, Shown, Listed, TakenBack, Made, BreakDeleted, WatchDeleted, BacktraceShown, Quits}
use Rattle.rawk_answers.specs.Positions.{Snapshot, here, back_at, with_set, has_set_at, IsTakenBack}
use Rattle.rawk_store.specs.Observed.{Observed}
use Rattle.rawk_answers.specs.Activations.{local_kinds, local_names}
use Rattle.rawk_answers.specs.Naming.{place_of, listed_of, lvalue_of, site_of, target_of, constant_value, is_refused}
use Rattle.rawk_debug.specs.Moves.{Stand, Goes, Halts, Returns, is_found, from_below, from_above, depth_of}

-- whether a move leaves a function where there is none
abbrev pub leaves_none : Goal → Snapshot → Bool
leaves_none Shallower h = nat_eq (depth_of h) 0
leaves_none other h = false

-- the greatest number of a breakpoint or watch
abbrev pub most : ℕ
most = 9_223_372_036_854_775_807

-- whether it is a breakpoint, or else whether it is a watch
abbrev pub is_kind : Bool → Stop → Bool
is_kind breaks (stop.Break site) = breaks
is_kind breaks (stop.Watch place) = not breaks

-- whether it is the breakpoint, or the watch, of this number
abbrev pub is_entry : Bool → ℕ → Entry → Bool
is_entry breaks n e = nat_eq e.number n && is_kind breaks e.stop

-- whether there is one of this number
abbrev pub has_entry : Bool → ℕ → List Entry → Bool
has_entry breaks n stops = list_any (is_entry breaks n) stops

-- the reason of a refused place
abbrev pub reason_of : {A : Type 0} → Result A C → Option C
reason_of (Ok place) = None
reason_of (Err reason) = Some reason

-- why a set of a place is refused
abbrev pub set_refusal : Result Lvalue C → Constant → Snapshot → Option C
set_refusal (Err reason) constant h = Some reason
set_refusal (Ok place) constant h =
    if is_some h.over then Some ProgramEnded
    else if is_refused (target_of place) (constant_value constant) h.state then Some SetRefused
    else None

-- the names of a session's program
abbrev pub names_of : Stand → List Bytes
names_of s = s.machine.program.names.items

-- a place that can be shown and set where a session stands, or why it is refused
abbrev pub lvalue_at : Stand → Snapshot → Place → Result Lvalue C
lvalue_at s h place = lvalue_of (local_names s.machine.program h.state.frames) (local_kinds s.machine.program h.state.frames) s.machine.program place

-- an array that can be shown with its elements there
abbrev pub listed_at : Stand → Snapshot → Place → Option Array
listed_at s h place = listed_of (local_names s.machine.program h.state.frames) (local_kinds s.machine.program h.state.frames) s.machine.program place

-- Why a command is refused: where several reasons hold, that of the least number.
abbrev pub refusal : Command → Stand → Snapshot → Option C
refusal (Break spot) s h = if nat_le most s.made then Some BadArgument else if is_none (site_of s.machine.program spot) then Some NoSuchPlace else None
refusal (Watch place) s h = if nat_le most s.made then Some BadArgument else reason_of (place_of s.machine.program place)
refusal (Delete n) s h = if has_entry true n s.stops then None else Some NoSuchNumber
refusal (Unwatch n) s h = if has_entry false n s.stops then None else Some NoSuchNumber
refusal (Move Forward goal) s h = if is_some h.over then Some ProgramEnded else if leaves_none goal h then Some NotInFunction else None
refusal (Move Back goal) s h = if leaves_none goal h then Some NotInFunction else None
refusal Run s h = None
refusal (Print place) s h = if is_some (listed_at s h place) then None else reason_of (lvalue_at s h place)
refusal (Set place constant) s h = set_refusal (lvalue_at s h place) constant h
refusal ReverseSet s h = if has_set_at s.machine.point s.machine.sets then None else Some NoSetToTakeBack
refusal Backtrace s h = None
refusal Quit s h = None

-- the length of the output
abbrev pub written : Snapshot → ℕ
written h = length h.state.output

-- a forward move has come to its end, or was refused memory on the way
abbrev pub Forwards : Input → Goal → Stand → Answer → Observed → Stand → Type 0
Forwards input goal old (Advanced from) came new = (from ≡ written (here input old.machine)) × Goes input goal old new × (came ≡ from_below input old new.machine.point)
Forwards input goal old (Halted from) came new = (from ≡ written (here input old.machine)) × Halts input goal old new
Forwards input goal old other came new = ⊥

-- a backward move
abbrev pub Backwards : Input → Goal → Stand → Answer → Observed → Stand → Type 0
Backwards input goal old answer came new =
    (answer ≡ Returned (is_found input goal old new.machine.point)) × Returns input goal old new
    × (is_found input goal old new.machine.point ≡ true → came ≡ from_above input old new.machine.point)

-- at the oldest point kept
abbrev pub rewound : Stand → Stand
rewound s = record s { machine = back_at s.machine.oldest s.machine }

-- one more breakpoint or watch, with the next number
abbrev pub Makes : Stop → Stand → Answer → Stand → Type 0
Makes stop old answer new =
    let entry : Entry = record { number = old.made + 1; stop = stop } in
    (answer ≡ Made) × (new ≡ record old { stops = old.stops ++ entry ∷ []; made = old.made + 1 })

abbrev pub deleted : Bool → ℕ → Answer
deleted true n = BreakDeleted n
deleted false n = WatchDeleted n

-- without the breakpoint, or the watch, of this number
abbrev pub Removes : Bool → ℕ → Stand → Answer → Stand → Type 0
Removes breaks n old answer new =
    (has_entry breaks n old.stops ≡ true) × (answer ≡ deleted breaks n) × (new ≡ record old { stops = filter (λ e. not (is_entry breaks n e)) old.stops })

-- an array is shown with its elements, and any other place with its value
abbrev pub Shows : Option Array → Result Lvalue C → Answer → Type 0
Shows (Some a) place answer = answer ≡ Listed a
Shows None place answer = (l : Lvalue) × (place ≡ Ok l) × (answer ≡ Shown l)

-- What a command that is not refused does.
abbrev pub Does : Input → Command → Stand → Answer → Observed → Stand → Type 0
Does input (Break spot) old answer came new = (site : ℕ) × (site_of old.machine.program spot ≡ Some site) × Makes (stop.Break site) old answer new
Does input (Watch place) old answer came new = (w : Watched) × (place_of old.machine.program place ≡ Ok w) × Makes (stop.Watch w) old answer new
Does input (Delete n) old answer came new = Removes true n old answer new
Does input (Unwatch n) old answer came new = Removes false n old answer new
Does input (Move Forward goal) old answer came new = Forwards input goal old answer came new
Does input (Move Back goal) old answer came new = Backwards input goal old answer came new
Does input Run old answer came new =
    MatchBool (is_some (here input (rewound old).machine).over) ((answer ≡ Stayed) × (new ≡ rewound old)) (Forwards input StopOnly (rewound old) answer came new)
Does input (Print place) old answer came new = Shows (listed_at old (here input old.machine) place) (lvalue_at old (here input old.machine) place) answer × (new ≡ old)
Does input (Set place constant) old answer came new =
    (l : Lvalue) × (lvalue_at old (here input old.machine) place ≡ Ok l)
    × (answer ≡ Shown l) × (new ≡ record old { machine = with_set (target_of l) (constant_value constant) old.machine })
Does input ReverseSet old answer came new = (answer ≡ TakenBack) × IsTakenBack old.machine new.machine × (new ≡ record old { machine = new.machine })
Does input Backtrace old answer came new = (answer ≡ BacktraceShown) × (new ≡ old)
Does input Quit old answer came new = (answer ≡ Quits) × (new ≡ old)

-- the commands that are read or executed with memory: the others cannot be refused it, but for a forward move's answer
abbrev pub needs_memory : Command → Bool
needs_memory command = names_something command

-- the commands that go forward: these alone read of the input
abbrev pub goes_forward : Command → Bool
goes_forward (Move Forward goal) = true
goes_forward Run = true
goes_forward other = false

-- A command has been executed, the state before its last step being as a watch saw it, or it was refused, which changes nothing.
abbrev pub Executes : Input → Command → Stand → Result Answer C → Observed → Stand → Type 0
Executes input command old (Ok answer) came new = (refusal command old (here input old.machine) ≡ None) × Does input command old answer came new
Executes input command old (Err OutOfMemory) came new = (needs_memory command ≡ true) × (new ≡ old)
Executes input command old (Err reason) came new = (refusal command old (here input old.machine) ≡ Some reason) × (new ≡ old)

-- what an answer's text needs: where it tells of stops, the machine has just moved
abbrev pub IsReady : Bool → Answer → Type 0
IsReady fresh (Advanced from) = fresh ≡ true
IsReady fresh (Returned found) = found ≡ true → fresh ≡ true
IsReady fresh other = Unit {0}
