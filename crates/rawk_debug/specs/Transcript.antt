-- The transcript of a session: what the lines of its commands are answered, one after another.
use Rattle.std.specs.Prelude.{◌≡◌, ◌⊎◌, Bool, true, false, List, [], ◌∷◌, ◌++◌, drop, Option, Some, None, Result, Ok, Err}
use Rattle.std.specs.Bool.{MatchBool}
use Rattle.rawk_devices.specs.Inputs.{Input}
use Rattle.rawk_value.specs.Values.{Bytes}
use Rattle.rawk_commands.specs.declared.command.Command.{Command}
use Rattle.rawk_commands.specs.declared.command.Command.TheVariants.{Quit}
use Rattle.rawk_commands.specs.declared.command.C.{C}
use Rattle.rawk_commands.specs.declared.command.C.TheVariants.{AnswerLost, OutOfMemory}
use Rattle.rawk_commands.specs.Reading.{reading}
use Rattle.rawk_commands.specs.Refusals.{refusal_line}
use Rattle.rawk_debug.specs.declared.answer.Answer.{Answer}
use Rattle.rawk_debug.specs.declared.answer.Answer.TheVariants.{Halted}
use Rattle.rawk_debug.specs.declared.transcript.Reply.{Reply}
use Rattle.rawk_debug.specs.declared.transcript.Reply.TheVariants.{Text, Line, Nothing, Quits}
use Rattle.rawk_answers.specs.Positions.{here}
use Rattle.rawk_store.specs.Observed.{Observed}
use Rattle.rawk_debug.specs.Moves.{Stand}
use Rattle.rawk_debug.specs.Commands.{Executes}
use Rattle.rawk_debug.specs.Answers.{text_of}

-- the line that stands for an answer whose text is refused memory: the answer is lost where the command was carried out, and where want of memory stopped it that is reported
abbrev pub lost : Answer → C
lost (Halted from) = OutOfMemory
lost other = AnswerLost

-- the text of an outcome that left the session so, or the line that stands for it
abbrev pub Says : Input → Stand → Observed → Result Answer C → Bytes → Type 0
Says input new came (Ok answer) text = (text ≡ text_of new (here input new.machine) came answer) ⊎ (text ≡ refusal_line (lost answer))
Says input new came (Err reason) text = text ≡ refusal_line reason

-- what became of a line of the commands: it was heard, or it was passed over, since memory was refused for its reading
pub data Turn : Type 0 where
  Heard : Bytes → Turn
  Passed : Bytes → Turn

-- what a turn asks for: a line that was passed over is refused for want of memory
abbrev pub request : Turn → Result (Option Command) C
request (Heard line) = reading line
request (Passed line) = Err OutOfMemory

-- a command is executed, or refused, and the outcome reported
abbrev pub Obeys : Input → Command → Stand → Bytes → Stand → Type 0
Obeys input command old text new = (outcome : Result Answer C) × (came : Observed) × Executes input command old outcome came new × Says input new came outcome text

-- what a line asks for is obeyed; a line that asks for nothing is not answered, and one that cannot be read is refused
abbrev pub Follows : Input → Result (Option Command) C → Stand → Bytes → Stand → Type 0
Follows input (Ok None) old text new = (text ≡ []) × (new ≡ old)
Follows input (Ok (Some command)) old text new = Obeys input command old text new
Follows input (Err reason) old text new = (text ≡ refusal_line reason) × (new ≡ old)

abbrev pub quits : Command → Bool
quits Quit = true
quits other = false

-- whether a line asks for the session's end
abbrev pub is_quit : Result (Option Command) C → Bool
is_quit (Ok None) = false
is_quit (Ok (Some command)) = quits command
is_quit (Err reason) = false

-- what a reply shows of the output
abbrev pub reply_shown : Bytes → Reply → Bytes
reply_shown output (Text from text) = drop from output
reply_shown output other = []

-- its bytes behind that
abbrev pub reply_rest : Reply → Bytes
reply_rest (Text from text) = text.items
reply_rest (Line reason) = refusal_line reason
reply_rest Nothing = []
reply_rest Quits = []

-- the bytes of a reply, with this output
abbrev pub reply_text : Bytes → Reply → Bytes
reply_text output reply = reply_shown output reply ++ reply_rest reply

-- a reply that does not end the session
abbrev pub IsReply : Reply → Type 0
IsReply Quits = ⊥
IsReply other = Unit {0}

-- A turn is taken and replied to, where this is the output then; `quit` ends the session.
abbrev pub Carries : Input → Turn → Stand → Bytes → Reply → Stand → Type 0
Carries input turn old output Quits new = (is_quit (request turn) ≡ true) × (new ≡ old)
Carries input turn old output reply new = (is_quit (request turn) ≡ false) × Follows input (request turn) old (reply_text output reply) new

-- The turns lead from old to new, and this is the transcript. `quit` ends it.
abbrev pub Transcript : Input → List Turn → Stand → Bytes → Stand → Type 0
Transcript input [] old text new = (text ≡ []) × (new ≡ old)
Transcript input (turn ∷ turns) old text new =
    MatchBool (is_quit (request turn)) ((text ≡ []) × (new ≡ old))
    ((mid : Stand) × (first : Bytes) × (rest : Bytes) × Follows input (request turn) old first mid × Transcript input turns mid rest new × (text ≡ first ++ rest))
