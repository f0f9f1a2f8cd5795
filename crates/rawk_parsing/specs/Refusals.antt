-- The number and the text of each kind of refusal.
use Rattle.std.specs.Prelude.{ℕ, List, codes}
use Rattle.rawk_parsing.specs.declared.refusal.RefusalKind.{RefusalKind}
use Rattle.rawk_parsing.specs.declared.refusal.RefusalKind.TheVariants.{BadToken, Syntax, Unterminated, BadNumber, BadEre, LeftOut, NameMisused, Misplaced, TooDeep, OutOfMemory}

-- a refusal's number, the n of its name Pn
abbrev pub refusal_number : RefusalKind → ℕ
refusal_number BadToken = 1
refusal_number Syntax = 2
refusal_number Unterminated = 3
refusal_number BadNumber = 4
refusal_number BadEre = 5
refusal_number LeftOut = 6
refusal_number NameMisused = 7
refusal_number Misplaced = 8
refusal_number TooDeep = 9
refusal_number OutOfMemory = 10

-- what a report says of a refusal
abbrev pub refusal_text : RefusalKind → List ℕ
refusal_text BadToken = codes "bad token"
refusal_text Syntax = codes "syntax error"
refusal_text Unterminated = codes "unterminated text"
refusal_text BadNumber = codes "number not whole or too large"
refusal_text BadEre = codes "bad regular expression"
refusal_text LeftOut = codes "left out of this profile"
refusal_text NameMisused = codes "name misused"
refusal_text Misplaced = codes "statement misplaced"
refusal_text TooDeep = codes "too deep or too long"
refusal_text OutOfMemory = codes "out of memory"
