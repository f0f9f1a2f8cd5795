-- The number, the text and the line of each refusal.
use Rattle.std.specs.Prelude.{ℕ, [], ◌∷◌, ◌++◌, codes}
use Rattle.rawk_value.specs.Values.{Bytes, decimal}
use Rattle.rawk_commands.specs.declared.command.C.{C}
use Rattle.rawk_commands.specs.declared.command.C.TheVariants.{UnknownCommand, BadArgument, NoSuchVariable, NoSuchPlace, NoSuchNumber, ProgramEnded, NotInFunction, SetRefused, NoSetToTakeBack, OutOfMemory, AnswerLost}

-- a refusal's number, the n of its name Cn; none has 10
abbrev pub refusal_number : C → ℕ
refusal_number UnknownCommand = 1
refusal_number BadArgument = 2
refusal_number NoSuchVariable = 3
refusal_number NoSuchPlace = 4
refusal_number NoSuchNumber = 5
refusal_number ProgramEnded = 6
refusal_number NotInFunction = 7
refusal_number SetRefused = 8
refusal_number NoSetToTakeBack = 9
refusal_number OutOfMemory = 11
refusal_number AnswerLost = 12

-- what an answer says of a refusal
abbrev pub refusal_text : C → Bytes
refusal_text UnknownCommand = codes "unknown command"
refusal_text BadArgument = codes "bad argument"
refusal_text NoSuchVariable = codes "no such variable"
refusal_text NoSuchPlace = codes "no such place to stop"
refusal_text NoSuchNumber = codes "no such number"
refusal_text ProgramEnded = codes "program has ended"
refusal_text NotInFunction = codes "not in a function"
refusal_text SetRefused = codes "set refused"
refusal_text NoSetToTakeBack = codes "no set to take back"
refusal_text OutOfMemory = codes "out of memory"
refusal_text AnswerLost = codes "answer lost"

-- a refusal's line, up to and with its newline
abbrev pub refusal_line : C → Bytes
refusal_line reason = codes "C" ++ decimal (refusal_number reason) ++ codes ": " ++ refusal_text reason ++ 10 ∷ []
