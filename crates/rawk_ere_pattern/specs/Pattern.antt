-- The tokens of a pattern (POSIX XBD 9.4; escapes also from awk's "Regular Expressions").
use Rattle.std.specs.Prelude.{◌≡◌, ℕ, zero, suc, ◌+◌, ◌-◌, ◌*◌, ◌%◌, ◌≤◌, ◌<◌, ◌⊎◌, Bool, true, false, not, ◌&&◌, ◌||◌, if◌then◌else◌, nat_eq, nat_le, Option, Some, None, List, [], ◌∷◌, ◌++◌, drop, codes}
use Rattle.std.specs.List.{starts_with}
use Rattle.rawk_ere_pattern.specs.declared.error.EreError.{EreError}
use Rattle.rawk_ere_pattern.specs.declared.error.EreError.TheVariants as error
use Rattle.rawk_ere_tree.specs.declared.node.Count.{Count}
use Rattle.rawk_ere_tree.specs.declared.node.Count.TheVariants.{Star, Plus, Maybe, AtLeast, Between}
use Rattle.rawk_ere_pattern.specs.declared.token.Token.{Token}
use Rattle.rawk_ere_pattern.specs.declared.token.Token.TheVariants as token
use Rattle.rawk_ere_pattern.specs.declared.bracket.Class.{Class}
use Rattle.rawk_ere_pattern.specs.declared.bracket.Class.TheVariants.{Alnum, Alpha, Blank, Cntrl, Digit, Graph, Lower, Print, Punct, Space, Upper, Xdigit}
use Rattle.rawk_ere_pattern.specs.declared.bracket.BracketPlace.{BracketPlace}
use Rattle.rawk_ere_pattern.specs.declared.bracket.BracketPlace.TheVariants.{First, AfterByte, AfterRange}
use Rattle.rawk_ere_pattern.specs.declared.bracket.Item.{Item}
use Rattle.rawk_ere_pattern.specs.declared.bracket.Item.TheVariants.{Range, Named}
use Rattle.rawk_ere_pattern.specs.declared.interval.Brace.{Brace}
use Rattle.rawk_ere_pattern.specs.declared.interval.Brace.TheVariants as brace
use Rattle.rawk_ere_pattern.specs.declared.byte_kind.ByteKind.{ByteKind}
use Rattle.rawk_ere_pattern.specs.declared.byte_kind.ByteKind.TheVariants as kind
use Rattle.rawk_ere_tree.specs.ByteSets.{IsSetOf, IsInRanges}

abbrev pub is_digit : ℕ → Bool
is_digit b = nat_le 48 b && nat_le b 57

abbrev pub is_octal : ℕ → Bool
is_octal b = nat_le 48 b && nat_le b 55

abbrev pub is_letter : ℕ → Bool
is_letter b = (nat_le 65 b && nat_le b 90) || (nat_le 97 b && nat_le b 122)

-- the text begins with the byte
abbrev pub begins : ℕ → List ℕ → Bool
begins b [] = false
begins b (c ∷ s) = nat_eq c b

-- the text begins with a digit
abbrev pub begins_digit : List ℕ → Bool
begins_digit [] = false
begins_digit (c ∷ s) = is_digit c

-- the number that the value and the digits here make, and the text after them
abbrev pub digits_from : ℕ → List ℕ → ℕ × List ℕ
digits_from v [] = (v, [])
digits_from v (b ∷ s) = if is_digit b then digits_from (v * 10 + (b - 48)) s else (v, b ∷ s)

-- the same with at most k octal digits
abbrev pub octal_from : ℕ → ℕ → List ℕ → ℕ × List ℕ
octal_from zero v s = (v, s)
octal_from (suc k) v [] = (v, [])
octal_from (suc k) v (b ∷ s) = if is_octal b then octal_from k (v * 8 + (b - 48)) s else (v, b ∷ s)

-- the byte that a backslash and this byte stand for, which is no octal digit: `\a \b \f \n \r \t \v`, or itself; no other letter, no digit and none of `<`, `>`, the apostrophe and the backquote
abbrev pub escaped_byte : ℕ → Option ℕ
escaped_byte b =
    if nat_eq b 97 then Some 7
    else if nat_eq b 98 then Some 8
    else if nat_eq b 102 then Some 12
    else if nat_eq b 110 then Some 10
    else if nat_eq b 114 then Some 13
    else if nat_eq b 116 then Some 9
    else if nat_eq b 118 then Some 11
    else if is_letter b || is_digit b || nat_eq b 60 || nat_eq b 62 || nat_eq b 39 || nat_eq b 96 then None
    else Some b

-- the text after the byte
abbrev pub with_rest : List ℕ → Option ℕ → Option (ℕ × List ℕ)
with_rest s None = None
with_rest s (Some b) = Some (b, s)

-- the low 8 bits of the number
abbrev pub as_byte : ℕ × List ℕ → Option (ℕ × List ℕ)
as_byte o = Some (o.0 % 256, o.1)

-- the byte that the text after a backslash stands for: one to three octal digits, or one byte
abbrev pub escape : List ℕ → Option (ℕ × List ℕ)
escape [] = None
escape (b ∷ s) = if is_octal b then as_byte (octal_from 2 (b - 48) s) else with_rest s (escaped_byte b)

-- the class whose name and closing `:]` begin the text
unfoldable pub class_at : List ℕ → Option Class
class_at s =
    if starts_with nat_eq s (codes "alnum:]") then Some Alnum
    else if starts_with nat_eq s (codes "alpha:]") then Some Alpha
    else if starts_with nat_eq s (codes "blank:]") then Some Blank
    else if starts_with nat_eq s (codes "cntrl:]") then Some Cntrl
    else if starts_with nat_eq s (codes "digit:]") then Some Digit
    else if starts_with nat_eq s (codes "graph:]") then Some Graph
    else if starts_with nat_eq s (codes "lower:]") then Some Lower
    else if starts_with nat_eq s (codes "print:]") then Some Print
    else if starts_with nat_eq s (codes "punct:]") then Some Punct
    else if starts_with nat_eq s (codes "space:]") then Some Space
    else if starts_with nat_eq s (codes "upper:]") then Some Upper
    else if starts_with nat_eq s (codes "xdigit:]") then Some Xdigit
    else None

-- how long the name and the closing `:]` are
abbrev pub name_length : Class → ℕ
name_length Xdigit = 8
name_length _ = 7

-- the bytes of a class, in C's locale
abbrev pub ranges_of : Class → List (ℕ × ℕ)
ranges_of Alnum = (48, 57) ∷ (65, 90) ∷ (97, 122) ∷ []
ranges_of Alpha = (65, 90) ∷ (97, 122) ∷ []
ranges_of Blank = (9, 9) ∷ (32, 32) ∷ []
ranges_of Cntrl = (0, 31) ∷ (127, 127) ∷ []
ranges_of Digit = (48, 57) ∷ []
ranges_of Graph = (33, 126) ∷ []
ranges_of Lower = (97, 122) ∷ []
ranges_of Print = (32, 126) ∷ []
ranges_of Punct = (33, 47) ∷ (58, 64) ∷ (91, 96) ∷ (123, 126) ∷ []
ranges_of Space = (9, 13) ∷ (32, 32) ∷ []
ranges_of Upper = (65, 90) ∷ []
ranges_of Xdigit = (48, 57) ∷ (65, 70) ∷ (97, 102) ∷ []

-- the bytes of an item of a bracket expression
abbrev pub ranges_in : Item → List (ℕ × ℕ)
ranges_in (Range low high) = (low, high) ∷ []
ranges_in (Named class) = ranges_of class

-- no range ends before it begins
abbrev pub IsOrdered : Item → Type 0
IsOrdered (Range low high) = low ≤ high
IsOrdered (Named class) = Unit {0}

-- one byte of a bracket expression, or an escape: an item, or an end of a range; no `[:`, `[.` and `[=`
abbrev pub endpoint : List ℕ → Option (ℕ × List ℕ)
endpoint [] = None
endpoint (b ∷ s) =
    if nat_eq b 92 then escape s
    else if nat_eq b 91 && (begins 58 s || begins 46 s || begins 61 s) then None
    else Some (b, s)

-- the range from the byte to this end, which may not be below it
abbrev pub ended_by : ℕ → Option (ℕ × List ℕ) → Option (Item × BracketPlace × List ℕ)
ended_by low None = None
ended_by low (Some e) = if nat_le low e.0 then Some (Range low e.0, AfterRange, e.1) else None

-- the item that begins with the byte: a range where a `-` follows that does not stand before the closing `]`, else the byte
abbrev pub begun_with : ℕ → List ℕ → Option (Item × BracketPlace × List ℕ)
begun_with low s = if begins 45 s && not (begins 93 (drop 1 s)) then ended_by low (endpoint (drop 1 s)) else Some (Range low low, AfterByte, s)

abbrev pub begun_by : Option (ℕ × List ℕ) → Option (Item × BracketPlace × List ℕ)
begun_by None = None
begun_by (Some e) = begun_with e.0 e.1

-- the class that is named here, after the `[:`
abbrev pub named : List ℕ → Option Class → Option (Item × BracketPlace × List ℕ)
named s None = None
named s (Some class) = Some (Named class, AfterRange, drop (name_length class) s)

-- A `-` is literal as the first item, where it may also begin a range, before the closing `]`, and directly after a range or a class, where it begins no range.
abbrev pub hyphen : BracketPlace → List ℕ → Option (Item × BracketPlace × List ℕ)
hyphen First s = begun_with 45 s
hyphen AfterByte s = if begins 93 s then Some (Range 45 45, AfterByte, s) else None
hyphen AfterRange s = Some (Range 45 45, AfterByte, s)

-- the item here, and where the text after it stands
unfoldable pub item_at : BracketPlace → List ℕ → Option (Item × BracketPlace × List ℕ)
item_at p s =
    if begins 45 s then hyphen p (drop 1 s)
    else if begins 91 s && begins 58 (drop 1 s) then named (drop 2 s) (class_at (drop 2 s))
    else begun_by (endpoint s)

-- a `]` closes the bracket expression, but not as its first item
abbrev pub closes : BracketPlace → List ℕ → Bool
closes First s = false
closes AfterByte s = begins 93 s
closes AfterRange s = begins 93 s

-- the text has items with these bytes and the closing `]`, and then the rest
pub data Items : BracketPlace → List ℕ → List (ℕ × ℕ) → List ℕ → Type 0 where
  closed : {p : BracketPlace} {s : List ℕ} → closes p s ≡ true → Items p s [] (drop 1 s)
  more : {p q : BracketPlace} {s mid rest : List ℕ} {item : Item} {ranges : List (ℕ × ℕ)} → closes p s ≡ false → item_at p s ≡ Some (item, q, mid) → Items q mid ranges rest → Items p s (ranges_in item ++ ranges) rest

-- the text after a `[` is a bracket expression of this set
abbrev pub IsBracket : List ℕ → List ℕ → List ℕ → Type 0
IsBracket s set rest =
    ((begins 94 s ≡ true) × ((ranges : List (ℕ × ℕ)) × Items First (drop 1 s) ranges rest × IsSetOf (λ b. IsInRanges b ranges → ⊥) set))
    ⊎ ((begins 94 s ≡ false) × ((ranges : List (ℕ × ℕ)) × Items First s ranges rest × IsSetOf (λ b. IsInRanges b ranges) set))

-- what a `{` begins: itself, nothing that is allowed, or an interval
pub data Braced : Type 0 where
  Itself : Braced
  Wrong : Braced
  Interval : Count → List ℕ → Braced

-- `{m}`
abbrev pub exactly : ℕ → List ℕ → Braced
exactly m s = if nat_le m 255 then Interval (Between m 0) s else Wrong

-- `{m,}`
abbrev pub at_least : ℕ → List ℕ → Braced
at_least m s = if nat_le m 255 then Interval (AtLeast m) s else Wrong

-- `{m,n}`
abbrev pub between : ℕ → ℕ × List ℕ → Braced
between m n =
    if begins 125 n.1 then (if nat_le m n.0 && nat_le n.0 255 then Interval (Between m (n.0 - m)) (drop 1 n.1) else Wrong)
    else Itself

abbrev pub after_comma : ℕ → List ℕ → Braced
after_comma m s =
    if begins 125 s then at_least m (drop 1 s)
    else if begins_digit s then between m (digits_from 0 s)
    else Itself

abbrev pub after_least : ℕ × List ℕ → Braced
after_least m =
    if begins 125 m.1 then exactly m.0 (drop 1 m.1)
    else if begins 44 m.1 then after_comma m.0 (drop 1 m.1)
    else Itself

-- `{,n}` is refused
abbrev pub without_least : List ℕ → Braced
without_least s = if begins 44 s && (begins_digit (drop 1 s) && begins 125 (digits_from 0 (drop 1 s)).1) then Wrong else Itself

abbrev pub braced : List ℕ → Braced
braced s = if begins_digit s then after_least (digits_from 0 s) else without_least s

-- what was found at a `{` is what it begins
abbrev pub IsBraceAt : List ℕ → Brace → Braced → Type 0
IsBraceAt p brace.Itself b = b ≡ Itself
IsBraceAt p brace.Wrong b = b ≡ Wrong
IsBraceAt p (brace.Interval count next) b = b ≡ Interval count (drop next p)

-- the place after it lies between these
abbrev pub IsBraceWithin : ℕ → ℕ → Brace → Type 0
IsBraceWithin at end brace.Itself = Unit {0}
IsBraceWithin at end brace.Wrong = Unit {0}
IsBraceWithin at end (brace.Interval count next) = (at < next) × (next ≤ end)

-- the kind of a byte outside bracket expressions
abbrev pub kind_of : ℕ → ByteKind
kind_of b =
    if nat_eq b 46 then kind.Any
    else if nat_eq b 94 then kind.Start
    else if nat_eq b 36 then kind.End
    else if nat_eq b 124 then kind.Bar
    else if nat_eq b 40 then kind.Open
    else if nat_eq b 41 then kind.Close
    else if nat_eq b 42 then kind.Star
    else if nat_eq b 43 then kind.Plus
    else if nat_eq b 63 then kind.Maybe
    else if nat_eq b 92 then kind.Backslash
    else if nat_eq b 91 then kind.Bracket
    else if nat_eq b 123 then kind.Brace
    else kind.Ordinary

-- the token is the set of the bytes with P
abbrev pub IsOneOf : (ℕ → Type 0) → Token → Type 0
IsOneOf P (token.OneOf set) = IsSetOf P set
IsOneOf P token.Start = ⊥
IsOneOf P token.End = ⊥
IsOneOf P token.Bar = ⊥
IsOneOf P token.Open = ⊥
IsOneOf P token.Close = ⊥
IsOneOf P (token.Times count) = ⊥

-- the token is the set of a bracket expression
abbrev pub IsBracketed : List ℕ → Token → List ℕ → Type 0
IsBracketed s (token.OneOf set) rest = IsBracket s set rest
IsBracketed s token.Start rest = ⊥
IsBracketed s token.End rest = ⊥
IsBracketed s token.Bar rest = ⊥
IsBracketed s token.Open rest = ⊥
IsBracketed s token.Close rest = ⊥
IsBracketed s (token.Times count) rest = ⊥

-- the token of what a `{` begins
abbrev pub IsBraced : Braced → List ℕ → Token → List ℕ → Type 0
IsBraced Itself s t rest = IsOneOf (λ b. b ≡ 123) t × (rest ≡ s)
IsBraced Wrong s t rest = ⊥
IsBraced (Interval count after) s t rest = (t ≡ token.Times count) × (rest ≡ after)

-- the token that a byte of the kind and the text after it begin with, and then the rest
abbrev pub IsFirstToken : ByteKind → ℕ → List ℕ → Token → List ℕ → Type 0
IsFirstToken kind.Ordinary b s t rest = IsOneOf (λ k. k ≡ b) t × (rest ≡ s)
IsFirstToken kind.Any b s t rest = IsOneOf (λ _. Unit {0}) t × (rest ≡ s)
IsFirstToken kind.Start b s t rest = (t ≡ token.Start) × (rest ≡ s)
IsFirstToken kind.End b s t rest = (t ≡ token.End) × (rest ≡ s)
IsFirstToken kind.Bar b s t rest = (t ≡ token.Bar) × (rest ≡ s)
IsFirstToken kind.Open b s t rest = (t ≡ token.Open) × (rest ≡ s)
IsFirstToken kind.Close b s t rest = (t ≡ token.Close) × (rest ≡ s)
IsFirstToken kind.Star b s t rest = (t ≡ token.Times Star) × (rest ≡ s)
IsFirstToken kind.Plus b s t rest = (t ≡ token.Times Plus) × (rest ≡ s)
IsFirstToken kind.Maybe b s t rest = (t ≡ token.Times Maybe) × (rest ≡ s)
IsFirstToken kind.Backslash b s t rest = (c : ℕ) × (escape s ≡ Some (c, rest)) × IsOneOf (λ k. k ≡ c) t
IsFirstToken kind.Bracket b s t rest = IsBracketed s t rest
IsFirstToken kind.Brace b s t rest = IsBraced (braced s) s t rest

abbrev pub IsToken : List ℕ → Token → List ℕ → Type 0
IsToken [] t rest = ⊥
IsToken (b ∷ s) t rest = IsFirstToken (kind_of b) b s t rest

-- the text is these tokens
abbrev pub AreTokens : List ℕ → List Token → Type 0
AreTokens s [] = s ≡ []
AreTokens s (t ∷ ts) = (mid : List ℕ) × IsToken s t mid × AreTokens mid ts

-- why a text has no tokens
abbrev pub IsScanRefused : EreError → List ℕ → Type 0
IsScanRefused error.Memory s = Unit {0}
IsScanRefused error.TooLarge s = ⊥
IsScanRefused error.Syntax s = (ts : List Token) → AreTokens s ts → ⊥
