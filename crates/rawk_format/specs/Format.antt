-- What `printf` writes (POSIX awk, Output Statements and Formatted Output, over XBD 5, File Format Notation).
use Rattle.std.specs.Prelude.{◌≡◌, ◌≢◌, ℕ, zero, suc, ◌+◌, ◌-◌, ◌^◌, ◌≤◌, max, ℤ, pos, negsuc, int_lt, unsigned_abs, Bool, true, false, not, ◌&&◌, ◌||◌, ◌==◌, nat_lt, nat_le, if◌then◌else◌, List, [], ◌∷◌, ◌++◌, length, take, drop, map, replicate, Option, None, Some, Result, Ok, Err}
use Rattle.std.specs.List.{prefix_len, take_while, list_any}
use Rattle.std.specs.Option.{is_none, unwrap_or}
use Rattle.std.specs.Int.Digits.{digits_of}
use Rattle.std.specs.Str.Parse.{digits_value}
use Rattle.std.specs.Fmt.{digit_glyph}
use Rattle.rawk_value.specs.Values.{Bytes, begins, is_digit, is_zero, counts, number_of, text_of, next_ok}
use Rattle.rawk_value.specs.declared.value.Value.{Value}
use Rattle.rawk_value.specs.declared.fault.Fault.{Fault}
use Rattle.rawk_value.specs.declared.fault.Fault.TheVariants.{BadFormat, OutOfMemory}
use Rattle.rawk_format.specs.declared.specification.Flags.{Flags}
use Rattle.rawk_format.specs.declared.specification.Amount.{Amount}
use Rattle.rawk_format.specs.declared.specification.Amount.TheVariants.{Missing, Given, Argument}
use Rattle.rawk_format.specs.declared.specification.Conversion.{Conversion}
use Rattle.rawk_format.specs.declared.specification.Conversion.TheVariants.{Decimal, Octal, Unsigned, Hexadecimal, UpperHexadecimal, Fixed, Character, Text}
use Rattle.rawk_format.specs.declared.specification.Specification.{Specification}
use Rattle.rawk_format.specs.declared.specification.Directive.{Directive}
use Rattle.rawk_format.specs.declared.layout.Layout.{Layout}
use Rattle.rawk_format.specs.declared.layout.Head.{Head}
use Rattle.rawk_format.specs.declared.layout.Head.TheVariants.{Nothing, Minus, Plus, Space, Prefix, UpperPrefix}
use Rattle.rawk_format.specs.declared.layout.Figure.{Figure}
use Rattle.rawk_format.specs.declared.printf.Left.{Left}

-- ---- how a specification is written

-- `-`, `+`, space, `#`, `0`
abbrev pub is_flag : ℕ → Bool
is_flag b = b == 45 || b == 43 || b == 32 || b == 35 || b == 48

abbrev pub flags_of : Bytes → Flags
flags_of run = record {
  minus = list_any (λ b. b == 45) run;
  plus = list_any (λ b. b == 43) run;
  space = list_any (λ b. b == 32) run;
  alternate = list_any (λ b. b == 35) run;
  zero = list_any (λ b. b == 48) run;
}

abbrev pub is_star : ℕ → Bool
is_star b = b == 42

abbrev pub is_point : ℕ → Bool
is_point b = b == 46

-- a width and a precision are at most 1,000,000
abbrev pub limited : ℕ → Result ℕ Fault
limited n = if nat_le n 1000000 then Ok n else Err BadFormat

abbrev pub given : Bytes → Result Amount Fault
given digits = next_ok (limited (digits_value 10 digits)) (λ n. Ok (Given n))

-- a width is `*`, or digits, or missing
abbrev pub written_width : Bytes → Result Amount Fault
written_width text = if begins is_star text then Ok Argument else if begins is_digit text then given (take_while is_digit text) else Ok Missing

abbrev pub width_size : Bytes → ℕ
width_size text = if begins is_star text then 1 else prefix_len is_digit text

-- a precision is a point and `*` or digits, where none are 0, or missing
abbrev pub written_precision : Bytes → Result Amount Fault
written_precision text =
    if not (begins is_point text) then Ok Missing
    else if begins is_star (drop 1 text) then Ok Argument
    else given (take_while is_digit (drop 1 text))

abbrev pub precision_size : Bytes → ℕ
precision_size text = if begins is_point text then 1 + width_size (drop 1 text) else 0

-- the conversion that a byte names
abbrev pub conversion_named : ℕ → Result Conversion Fault
conversion_named b =
    if b == 100 || b == 105 then Ok Decimal
    else if b == 111 then Ok Octal
    else if b == 117 then Ok Unsigned
    else if b == 120 then Ok Hexadecimal
    else if b == 88 then Ok UpperHexadecimal
    else if b == 102 then Ok Fixed
    else if b == 99 then Ok Character
    else if b == 115 then Ok Text
    else Err BadFormat

abbrev pub conversion_of : Bytes → Result Conversion Fault
conversion_of [] = Err BadFormat
conversion_of (b ∷ text) = conversion_named b

-- a specification as it is read, and what follows it
pub record Reading : Type 0 where
  pub specification : Specification
  pub rest : Bytes

abbrev pub read_conversion : Flags → Amount → Amount → Bytes → Result Reading Fault
read_conversion flags width precision text =
    next_ok (conversion_of text) (λ conversion. Ok (record { specification = record { flags = flags; width = width; precision = precision; conversion = conversion }; rest = drop 1 text }))

abbrev pub read_precision : Flags → Amount → Bytes → Result Reading Fault
read_precision flags width text = next_ok (written_precision text) (λ precision. read_conversion flags width precision (drop (precision_size text) text))

abbrev pub read_width : Flags → Bytes → Result Reading Fault
read_width flags text = next_ok (written_width text) (λ width. read_precision flags width (drop (width_size text) text))

-- the specification after a percent sign: flags, width, precision, conversion
abbrev pub directive : Bytes → Result Reading Fault
directive text = read_width (flags_of (take_while is_flag text)) (drop (prefix_len is_flag text) text)

-- what the code gives as a reading
abbrev pub seen : Result Directive Fault → Result Reading Fault
seen (Ok d) = Ok (record { specification = d.specification; rest = d.rest.now })
seen (Err fault) = Err fault

-- ---- what a specification takes of the arguments

abbrev pub first_of : List Value → Result Value Fault
first_of [] = Err BadFormat
first_of (v ∷ values) = Ok v

-- the number that `*` takes
abbrev pub star : List Value → Result ℤ Fault
star values = next_ok (first_of values) number_of

abbrev pub star_count : Amount → ℕ
star_count Missing = 0
star_count (Given n) = 0
star_count Argument = 1

-- a width below 0 is a `-` flag and its size
abbrev pub asked_width : Amount → List Value → Result ℤ Fault
asked_width Missing values = Ok (pos 0)
asked_width (Given n) values = Ok (pos n)
asked_width Argument values = next_ok (star values) (λ z. next_ok (limited (unsigned_abs z)) (λ n. Ok z))

-- a precision below 0 is none
abbrev pub precision_from : ℤ → Result (Option ℕ) Fault
precision_from (pos n) = next_ok (limited n) (λ n. Ok (Some n))
precision_from (negsuc n) = Ok None

abbrev pub asked_precision : Amount → List Value → Result (Option ℕ) Fault
asked_precision Missing values = Ok None
asked_precision (Given n) values = Ok (Some n)
asked_precision Argument values = next_ok (star values) precision_from

abbrev pub settled : Specification → ℤ → Option ℕ → Layout
settled s width precision = record { flags = s.flags; left = s.flags.minus || int_lt width (pos 0); width = unsigned_abs width; precision = precision; conversion = s.conversion }

abbrev pub layout_of : Specification → List Value → Result Layout Fault
layout_of s values =
    next_ok (asked_width s.width values) (λ width.
    next_ok (asked_precision s.precision (drop (star_count s.width) values)) (λ precision. Ok (settled s width precision)))

-- ---- what a value is written as

-- a number as 64 bits without a sign: one below 0 is its two's complement
abbrev pub twos : ℤ → ℕ
twos (pos n) = n
twos (negsuc n) = 2 ^ 64 - (n + 1)

-- the digits of a number, and zeros before them up to the least number of digits
abbrev pub digits_text : ℕ → Bool → ℕ → ℕ → Bytes
digits_text base upper least n = replicate (least - length (digits_of base n)) 48 ++ map (digit_glyph upper) (digits_of base n)

abbrev pub head_text : Head → Bytes
head_text Nothing = []
head_text Minus = 45 ∷ []
head_text Plus = 43 ∷ []
head_text Space = 32 ∷ []
head_text Prefix = 48 ∷ 120 ∷ []
head_text UpperPrefix = 48 ∷ 88 ∷ []

abbrev pub sign_of : Flags → ℤ → Head
sign_of flags z = if int_lt z (pos 0) then Minus else if flags.plus then Plus else if flags.space then Space else Nothing

-- the precision of a whole conversion: 1 where none is given
abbrev pub least_of : Option ℕ → ℕ
least_of precision = unwrap_or precision 1

-- the precision of `f`: 6 where none is given
abbrev pub zeros_of : Option ℕ → ℕ
zeros_of precision = unwrap_or precision 6

-- zeros fill a whole conversion only where no precision is given
abbrev pub fills_whole : Layout → Bool
fills_whole l = l.flags.zero && not l.left && is_none l.precision

-- a whole number without a sign, in a base
abbrev pub unsigned_figure : Layout → Head → ℕ → Bool → ℕ → ℤ → Figure
unsigned_figure l head base upper least z =
    record { head = head; base = base; upper = upper; size = twos z; least = least; point = false; zeros = 0; filled = fills_whole l }

-- `#` gives an octal number a digit more, so that it begins with 0
abbrev pub octal_least : Layout → ℕ → ℕ
octal_least l n = if l.flags.alternate then max (least_of l.precision) (length (digits_of 8 n) + 1) else least_of l.precision

-- a number as its conversion writes it
abbrev pub figure_as : Conversion → Layout → ℤ → Figure
figure_as Decimal l z =
    record { head = sign_of l.flags z; base = 10; upper = false; size = unsigned_abs z; least = least_of l.precision; point = false; zeros = 0; filled = fills_whole l }
figure_as Fixed l z =
    record { head = sign_of l.flags z; base = 10; upper = false; size = unsigned_abs z; least = 1; point = nat_lt 0 (zeros_of l.precision) || l.flags.alternate; zeros = zeros_of l.precision; filled = l.flags.zero && not l.left }
figure_as Octal l z = unsigned_figure l Nothing 8 false (octal_least l (twos z)) z
figure_as Hexadecimal l z = unsigned_figure l (if l.flags.alternate && not (is_zero z) then Prefix else Nothing) 16 false (least_of l.precision) z
figure_as UpperHexadecimal l z = unsigned_figure l (if l.flags.alternate && not (is_zero z) then UpperPrefix else Nothing) 16 true (least_of l.precision) z
figure_as _ l z = unsigned_figure l Nothing 10 false (least_of l.precision) z

abbrev pub figure_body : Figure → Bytes
figure_body f = digits_text f.base f.upper f.least f.size ++ ((if f.point then 46 ∷ [] else []) ++ replicate f.zeros 48)

-- a head and a body, filled up to a width: by spaces on the left or on the right, or by zeros between them
abbrev pub padded : Bool → Bool → ℕ → Bytes → Bytes → Bytes
padded left filled width head body =
    let room = width - length head - length body in
    replicate (if left || filled then 0 else room) 32 ++ (head ++ (replicate (if filled then room else 0) 48 ++ (body ++ replicate (if left then room else 0) 32)))

abbrev pub number_text : Layout → ℤ → Bytes
number_text l z = let f = figure_as l.conversion l z in padded l.left f.filled l.width (head_text f.head) (figure_body f)

-- a text filled by spaces
abbrev pub plain_text : Layout → Bytes → Bytes
plain_text l text = padded l.left false l.width [] text

-- a text cut to the precision
abbrev pub cut : Option ℕ → Bytes → Bytes
cut None text = text
cut (Some n) text = take n text

-- the byte of a number from 0 to 255
abbrev pub byte_of : ℤ → Result Bytes Fault
byte_of (pos n) = if nat_lt n 256 then Ok (n ∷ []) else Err BadFormat
byte_of (negsuc n) = Err BadFormat

-- of a value that counts as a number the byte of that number, of another text its first byte
abbrev pub character_of : Value → Result Bytes Fault
character_of v = if counts v then next_ok (number_of v) byte_of else Ok (take 1 (text_of v))

-- what a value is written as under a layout; a number where its conversion asks for one
abbrev pub converted : Conversion → Layout → Value → Result Bytes Fault
converted Character l v = next_ok (character_of v) (λ text. Ok (plain_text l text))
converted Text l v = Ok (plain_text l (cut l.precision (text_of v)))
converted _ l v = next_ok (number_of v) (λ z. Ok (number_text l z))

-- ---- a format

-- what an item of a format writes, and what it leaves of the format and of the arguments
pub record Item : Type 0 where
  pub text : Bytes
  pub rest : Bytes
  pub values : List Value

-- a value under its layout: the first argument left
abbrev pub value_item : Layout → Bytes → List Value → Result Item Fault
value_item l rest values =
    next_ok (first_of values) (λ v. next_ok (converted l.conversion l v) (λ text. Ok (record { text = text; rest = rest; values = drop 1 values })))

-- a specification takes its width, its precision, then its value
abbrev pub specified : Specification → Bytes → List Value → Result Item Fault
specified s rest values =
    next_ok (layout_of s values) (λ l. value_item l rest (drop (star_count s.width + star_count s.precision) values))

abbrev pub is_percent : ℕ → Bool
is_percent b = b == 37

-- what follows a percent sign: another one, or a specification
abbrev pub percent_item : Bytes → List Value → Result Item Fault
percent_item text values =
    if begins is_percent text then Ok (record { text = 37 ∷ []; rest = drop 1 text; values = values })
    else next_ok (directive text) (λ r. specified r.specification r.rest values)

-- the item that begins with a byte: the byte itself, or what a percent sign begins
abbrev pub item : ℕ → Bytes → List Value → Result Item Fault
item b text values = if is_percent b then percent_item text values else Ok (record { text = b ∷ []; rest = text; values = values })

abbrev pub prefixed : Bytes → Result Bytes Fault → Result Bytes Fault
prefixed text (Ok more) = Ok (text ++ more)
prefixed text (Err fault) = Err fault

-- at most `turns` items of a format, from left to right
abbrev pub items_text : ℕ → Bytes → List Value → Result Bytes Fault
items_text zero text values = Ok []
items_text (suc turns) [] values = Ok []
items_text (suc turns) (b ∷ text) values = next_ok (item b text values) (λ i. prefixed i.text (items_text turns i.rest i.values))

-- what a format writes of its arguments: an item takes at least a byte of it
abbrev pub formatted : Bytes → List Value → Result Bytes Fault
formatted text values = items_text (length text) text values

-- an item whose text comes after others
abbrev pub item_after : Bytes → Result Item Fault → Result Item Fault
item_after before (Ok i) = Ok (record { text = before ++ i.text; rest = i.rest; values = i.values })
item_after before (Err fault) = Err fault

-- a text is added to those before, or its fault is answered; want of memory may be answered in their place
abbrev pub AddsText : Bytes → Bytes → Result (Unit {0}) Fault → Result Bytes Fault → Type 0
AddsText before after (Ok done) expected = Ok after ≡ prefixed before expected
AddsText before after (Err fault) expected = fault ≢ OutOfMemory → expected ≡ Err fault

-- the same of an item, with what it leaves
abbrev pub AddsItem : Bytes → Bytes → Result Left Fault → Result Item Fault → Type 0
AddsItem before after (Ok left) expected = Ok (record { text = after; rest = left.rest.now; values = left.values.now }) ≡ item_after before expected
AddsItem before after (Err fault) expected = fault ≢ OutOfMemory → expected ≡ Err fault

-- so far the bytes written are a beginning, and what is left of the format and the arguments gives the others
pub record IsSoFar (whole : Result Bytes Fault) (before : Bytes) (rest : Bytes) (values : List Value) : Type 0 where
  pub turns : ℕ
  pub enough : length rest ≤ turns
  pub more : whole ≡ prefixed before (items_text turns rest values)
