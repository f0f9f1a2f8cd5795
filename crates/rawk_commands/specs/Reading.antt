-- What a line of a session asks for. Bytes are written by their codes: 34 is a quote, 35 `#`, 36 `$`, 43 `+`, 45 `-`, 61 `=`,
-- 91 `[`, 93 `]`.
use Rattle.std.specs.Prelude.{◌≡◌, ℕ, ◌+◌, ◌^◌, ℤ, pos, neg_ℤ, ◌==◌, Bool, true, false, ◌&&◌, ◌||◌, if◌then◌else◌, nat_lt, IsTrue, ◌⊎◌, [], ◌∷◌, take, drop, Option, Some, None, Result, Ok, Err}
use Rattle.rawk_limits.specs.declared.TheConstants.{LAST_FIELD}
use Rattle.std.specs.Char.{is_ascii_digit}
use Rattle.std.specs.List.{list_all, prefix_len, position_or_len}
use Rattle.std.specs.Option.{option_map}
use Rattle.std.specs.Str.Parse.{digits_value}
use Rattle.rawk_value.specs.Values.{Bytes, int_text}
use Rattle.rawk_keywords.specs.declared.token.Kind.{Kind}
use Rattle.rawk_keywords.specs.declared.token.Kind.TheVariants as token
use Rattle.rawk_lexer.specs.Lex.{kind, spelling, next}
use Rattle.rawk_lexer.specs.Escape.{unescaped_of, unquoted}
use Rattle.rawk_commands.specs.declared.command.C.{C}
use Rattle.rawk_commands.specs.declared.command.C.TheVariants.{UnknownCommand, BadArgument, OutOfMemory}
use Rattle.rawk_commands.specs.declared.command.Command.{Command}
use Rattle.rawk_commands.specs.declared.command.Command.TheVariants as command
use Rattle.rawk_commands.specs.declared.command.Constant.{Constant}
use Rattle.rawk_commands.specs.declared.command.Constant.TheVariants.{Number, Text}
use Rattle.rawk_commands.specs.declared.command.Place.{Place}
use Rattle.rawk_commands.specs.declared.command.Place.TheVariants.{Name, Element, Field}
use Rattle.rawk_commands.specs.declared.command.Spot.{Spot}
use Rattle.rawk_commands.specs.declared.command.Spot.TheVariants.{Line, Function}
use Rattle.rawk_commands.specs.declared.verb.Verb.{Verb}
use Rattle.rawk_commands.specs.declared.verb.Verb.TheVariants as verb
use Rattle.rawk_keywords.specs.Name.{begins_name, has_name_form, is_in_name}
use Rattle.rawk_commands.specs.Words.{is_blank, without_front, trimmed, verb_of}

-- What is found at the front of a text, with the text after it.
abbrev pub Front : Type 0 → Type 0
Front A = Option (A × Bytes)

-- what a front is, if it is anything
abbrev pub with_rest : {A : Type 0} → Option A → Bytes → Front A
with_rest found rest = option_map (λ x. (x, rest)) found

-- what is found, if nothing comes after it
abbrev pub ended : {A : Type 0} → A → Bytes → Option A
ended x [] = Some x
ended x (b ∷ bs) = None

-- what a text is from its begin to its end
abbrev pub whole : {A : Type 0} → Front A → Option A
whole None = None
whole (Some found) = ended found.0 found.1

-- ---- numbers

-- the number of decimal digits, at least one and nothing else, below a limit
abbrev pub number_below : ℕ → Bytes → Option ℕ
number_below limit [] = None
number_below limit (b ∷ bs) =
    if list_all is_ascii_digit (b ∷ bs) && nat_lt (digits_value 10 (b ∷ bs)) limit then Some (digits_value 10 (b ∷ bs)) else None

-- LINE and N: digits, within 64 bits with a sign
abbrev pub count_of : Bytes → Option ℕ
count_of text = number_below (2 ^ 63) text

-- a number: an optional sign and digits, within 64 bits with a sign
abbrev pub number_of : Bytes → Option ℤ
number_of [] = None
number_of (b ∷ bs) =
    if b == 45 then option_map (λ n. neg_ℤ (pos n)) (number_below (2 ^ 63 + 1) bs)
    else (if b == 43 then option_map pos (number_below (2 ^ 63) bs) else option_map pos (number_below (2 ^ 63) (b ∷ bs)))

-- how many bytes are a sign or a digit, and the digits after it
abbrev pub number_size : Bytes → ℕ
number_size [] = 0
number_size (b ∷ bs) = if (b == 43 || b == 45) || is_ascii_digit b then 1 + prefix_len is_ascii_digit bs else 0

-- the number at the front
abbrev pub number_front : Bytes → Front ℤ
number_front text = with_rest (number_of (take (number_size text) text)) (drop (number_size text) text)

-- ---- constants

-- whether a token is a string
abbrev pub is_text : Kind → Bool
is_text token.Text = true
is_text other = false

-- the string at the front, as the program's language has it: what stands between its quotes
abbrev pub string_front : Bytes → Front Bytes
string_front text = if is_text (kind text) then Some (unquoted (spelling text), next text) else None

-- the constant at the front: a string, by its escapes, or a number
abbrev pub constant_front : Bytes → Front Constant
constant_front [] = None
constant_front (b ∷ bs) =
    if b == 34 then option_map (λ found. (Text (unescaped_of found.0), found.1)) (string_front (b ∷ bs))
    else option_map (λ found. (Number found.0, found.1)) (number_front (b ∷ bs))

-- the text of a constant as a key: of a number, its decimal text
abbrev pub key_of : Constant → Bytes
key_of (Number n) = int_text n
key_of (Text text) = text

-- CONSTANT
abbrev pub constant_of : Bytes → Option Constant
constant_of text = whole (constant_front text)

-- ---- places

-- the field whose number is at the front, 0 to 1,000,000
abbrev pub field_front : Bytes → Front Place
field_front text = let n = prefix_len is_ascii_digit text in with_rest (option_map Field (number_below (LAST_FIELD + 1) (take n text))) (drop n text)

-- the element of a key that a bracket closes
abbrev pub key_closed : Bytes → Constant → Bytes → Front Place
key_closed name key [] = None
key_closed name key (b ∷ bs) = if b == 93 then Some (Element name (key_of key), bs) else None

-- the element of a key at the front
abbrev pub keyed : Bytes → Front Constant → Front Place
keyed name None = None
keyed name (Some key) = key_closed name key.0 key.1

-- the place of a name: behind it, a key in brackets may stand
abbrev pub named : Bytes → Bytes → Front Place
named name [] = Some (Name name, [])
named name (b ∷ bs) = if b == 91 then keyed name (constant_front bs) else Some (Name name, b ∷ bs)

-- the place at the front: NAME, NAME["text"], NAME[number] or $number
abbrev pub place_front : Bytes → Front Place
place_front [] = None
place_front (b ∷ bs) =
    let n = prefix_len is_in_name (b ∷ bs) in
    if b == 36 then field_front bs else (if begins_name b then named (take n (b ∷ bs)) (drop n (b ∷ bs)) else None)

-- PLACE
abbrev pub place_of : Bytes → Option Place
place_of text = whole (place_front text)

-- LINE or FUNCTION
abbrev pub spot_of : Bytes → Option Spot
spot_of [] = None
spot_of (b ∷ bs) =
    if is_ascii_digit b then option_map Line (count_of (b ∷ bs))
    else (if has_name_form (b ∷ bs) then Some (Function (b ∷ bs)) else None)

-- ---- commands

-- what `set` makes of a place and the text after it: `=`, blanks perhaps, and a constant
abbrev pub assigned : Place → Bytes → Option Command
assigned place [] = None
assigned place (b ∷ bs) = if b == 61 then option_map (command.Set place) (constant_of (without_front bs)) else None

-- PLACE=CONSTANT, with blanks round the `=` or without
abbrev pub setting : Front Place → Option Command
setting None = None
setting (Some place) = assigned place.0 (without_front place.1)

-- a command that has no argument
abbrev pub alone : Command → Bytes → Option Command
alone asked [] = Some asked
alone asked (b ∷ bs) = None

-- the command that a word and its argument make, if the argument is not missing, extra or unreadable
abbrev pub command_of : Verb → Bytes → Option Command
command_of verb.Break argument = option_map command.Break (spot_of argument)
command_of verb.Watch argument = option_map command.Watch (place_of argument)
command_of verb.Delete argument = option_map command.Delete (count_of argument)
command_of verb.Unwatch argument = option_map command.Unwatch (count_of argument)
command_of (verb.Move way goal) argument = alone (command.Move way goal) argument
command_of verb.Run argument = alone command.Run argument
command_of verb.Print argument = option_map command.Print (place_of argument)
command_of verb.Set argument = setting (place_front argument)
command_of verb.ReverseSet argument = alone command.ReverseSet argument
command_of verb.Backtrace argument = alone command.Backtrace argument
command_of verb.Quit argument = alone command.Quit argument

-- no command is a bad argument
abbrev pub or_bad_argument : Option Command → Result (Option Command) C
or_bad_argument None = Err BadArgument
or_bad_argument (Some asked) = Ok (Some asked)

-- the reading of a word and an argument: a word that is no command is reported before its argument is looked at
abbrev pub asked_by : Option Verb → Bytes → Result (Option Command) C
asked_by None argument = Err UnknownCommand
asked_by (Some word) argument = or_bad_argument (command_of word argument)

-- the reading of a line without blanks at its ends: an empty one and one that begins with `#` ask for nothing; another is a word,
-- and an argument after blanks
abbrev pub asked_on : Bytes → Result (Option Command) C
asked_on [] = Ok None
asked_on (b ∷ bs) =
    let n = position_or_len is_blank (b ∷ bs) in
    if b == 35 then Ok None else asked_by (verb_of (take n (b ∷ bs))) (without_front (drop n (b ∷ bs)))

-- What a line asks for.
unfoldable pub reading : Bytes → Result (Option Command) C
reading line = asked_on (trimmed line)

-- ---- memory

-- whether a command names something that it keeps a copy of
abbrev pub names_something : Command → Bool
names_something (command.Break spot) = true
names_something (command.Watch place) = true
names_something (command.Print place) = true
names_something (command.Set place constant) = true
names_something other = false

-- whether a reading is such a command
abbrev pub takes_memory : Result (Option Command) C → Bool
takes_memory (Ok None) = false
takes_memory (Ok (Some asked)) = names_something asked
takes_memory (Err reason) = false

-- What the answer to a line may be: its reading, or, where that names something, that memory was refused.
abbrev pub Reads : Bytes → Result (Option Command) C → Type 0
Reads line answer = (answer ≡ reading line) ⊎ ((answer ≡ Err OutOfMemory) × IsTrue (takes_memory (reading line)))
