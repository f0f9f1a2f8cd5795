-- What a session's commands are answered, as text. 10 is a newline.
use Rattle.std.specs.Prelude.{ℕ, List, [], ◌∷◌, ◌++◌, length, drop, flat_map, if◌then◌else◌, codes}
use Rattle.rawk_value.specs.Values.{Bytes, decimal}
use Rattle.rawk_commands.specs.declared.command.C.TheVariants.{OutOfMemory}
use Rattle.rawk_commands.specs.Refusals.{refusal_line}
use Rattle.rawk_answers.specs.declared.stop.Entry.{Entry}
use Rattle.rawk_debug.specs.declared.answer.Answer.{Answer}
use Rattle.rawk_debug.specs.declared.answer.Answer.TheVariants.{Advanced, Halted, Returned, Stayed, Shown, Listed, TakenBack, Made, BreakDeleted, WatchDeleted, BacktraceShown, Quits}
use Rattle.rawk_answers.specs.Positions.{Snapshot}
use Rattle.rawk_store.specs.Observed.{Observed}
use Rattle.rawk_debug.specs.Moves.{Stand, hits}
use Rattle.rawk_debug.specs.Commands.{names_of}
use Rattle.rawk_answers.specs.Texts.{stop_line, newest_line, last_of, place_line, as_lines, shown_line, array_text, backtrace}

-- a line for each breakpoint that stands there and each watch that differs
abbrev pub stop_lines : List Bytes → Observed → Snapshot → List Entry → Bytes
stop_lines names came h stops = flat_map (λ e. if hits came h e.stop then stop_line names e else []) stops

-- the output beyond its first bytes
abbrev pub added : ℕ → Snapshot → Bytes
added from h = as_lines (drop from h.state.output)

-- What a command is answered that left a session so, its machine having come from where a watch saw this.
abbrev pub text_of : Stand → Snapshot → Observed → Answer → Bytes
text_of s h came (Advanced from) = added from h ++ stop_lines (names_of s) came h s.stops ++ place_line s.machine h
text_of s h came (Halted from) = added from h ++ refusal_line OutOfMemory ++ place_line s.machine h
text_of s h came (Returned found) = (if found then stop_lines (names_of s) came h s.stops else codes "No more reverse-execution history.\n") ++ place_line s.machine h
text_of s h came Stayed = place_line s.machine h
text_of s h came (Shown place) = shown_line s.machine.program place h
text_of s h came (Listed a) = array_text s.machine.program a h
text_of s h came TakenBack = codes "set taken back\n"
text_of s h came Made = newest_line s.machine.program.lines.items (names_of s) (last_of s.stops)
text_of s h came (BreakDeleted n) = codes "Deleted breakpoint " ++ decimal n ++ 10 ∷ []
text_of s h came (WatchDeleted n) = codes "Deleted watchpoint " ++ decimal n ++ 10 ∷ []
text_of s h came BacktraceShown = backtrace s.machine.program h
text_of s h came Quits = []

-- what it shows of the output, which comes first
abbrev pub shown_of : Answer → Bytes → Bytes
shown_of (Advanced from) output = drop from output
shown_of (Halted from) output = drop from output
shown_of other output = []

-- its text behind that
abbrev pub behind_shown : Stand → Snapshot → Observed → Answer → Bytes
behind_shown s h came answer = drop (length (shown_of answer h.state.output)) (text_of s h came answer)
