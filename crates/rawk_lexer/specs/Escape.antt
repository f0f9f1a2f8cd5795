-- The bytes that a string stands for (POSIX awk, "Lexical Conventions").
use Rattle.std.specs.Prelude.{ℕ, zero, suc, ◌+◌, ◌-◌, ◌*◌, ◌%◌, Bool, not, ◌&&◌, if◌then◌else◌, ◌==◌, nat_le, List, [], ◌∷◌, ◌++◌, length, take, drop, slice_index, Option, Some, None}
use Rattle.std.specs.Option.{option_to_list}

-- 0 to 7
abbrev pub is_octal : ℕ → Bool
is_octal b = nat_le 48 b && nat_le b 55

-- the low 8 bits of the octal number that three bytes begin with, and how many digits it has
abbrev pub octal : ℕ → ℕ → ℕ → Option (ℕ × ℕ)
octal a b c =
    if not (is_octal a) then None
    else (if not (is_octal b) then Some (a - 48, 1)
    else (if not (is_octal c) then Some ((a - 48) * 8 + (b - 48), 2)
    else Some (((a - 48) * 64 + (b - 48) * 8 + (c - 48)) % 256, 3)))

-- \a \b \t \n \v \f \r; behind a backslash another byte is itself
abbrev pub named : ℕ → ℕ
named b =
    if b == 97 then 7 else (if b == 98 then 8 else (if b == 116 then 9 else (if b == 110 then 10
    else (if b == 118 then 11 else (if b == 102 then 12 else (if b == 114 then 13 else b))))))

-- an octal number is its byte, a newline is nothing
abbrev pub number_or_name : ℕ → Option (ℕ × ℕ) → Option ℕ × ℕ
number_or_name b (Some n) = (Some n.0, n.1)
number_or_name b None = if b == 10 then (None, 1) else (Some (named b), 1)

-- what the bytes behind a backslash stand for, and how many they are; a backslash that is the last byte stands for itself
abbrev pub escape : List ℕ → Option ℕ × ℕ
escape [] = (Some 92, 0)
escape (b ∷ z) = number_or_name b (octal b (slice_index z 0) (slice_index z 1))

-- What a text stands for, behind the n bytes that are left of an escape.
abbrev pub unescaped_from : ℕ → List ℕ → List ℕ
unescaped_from left [] = []
unescaped_from (suc left) (b ∷ z) = unescaped_from left z
unescaped_from zero (b ∷ z) = if b == 92 then option_to_list (escape z).0 ++ unescaped_from (escape z).1 z else b ∷ unescaped_from zero z

-- the bytes that the inside of a string stands for
abbrev pub unescaped_of : List ℕ → List ℕ
unescaped_of = unescaped_from 0

-- a token's bytes without the first and the last
abbrev pub unquoted : List ℕ → List ℕ
unquoted word = take (length word - 2) (drop 1 word)
