-- The functions on texts, after POSIX.1-2017, utility awk, section `String Functions`. Places in a text are counted from 1.
-- `length` is the length of the list. `int` is `int_of` of rawk_value.
use Rattle.std.specs.Prelude.{ℕ, ◌+◌, ◌-◌, ℤ, pos, ◌+ℤ◌, int_lt, Bool, not, ◌&&◌, nat_le, nat_eq, if◌then◌else◌, [], ◌∷◌, length, drop, Option, Some, None, unwrap_or}
use Rattle.std.specs.List.{find, starts_with, range_with_len}
use Rattle.rawk_value.specs.Values.{Bytes}

-- whether a part stands in a text from this place on
abbrev pub stands_at : Bytes → Bytes → ℕ → Bool
stands_at text part place = starts_with nat_eq (drop (place - 1) text) part

-- `index`: the first place where the part stands, or 0 where there is none. An empty part stands at each place, and also
-- behind the last one, so its place is 1 in every text (ours)
abbrev pub place_of : Bytes → Bytes → ℕ
place_of text part = unwrap_or (find (stands_at text part) (range_with_len 1 (length text + 1))) 0

-- the bytes whose places pass a test, where the first byte is at this place
abbrev pub bytes_at : (ℕ → Bool) → ℕ → Bytes → Bytes
bytes_at test place [] = []
bytes_at test place (b ∷ bs) = if test place then b ∷ bytes_at test (place + 1) bs else bytes_at test (place + 1) bs

-- whether a place is one of those from `m` on; with a count `n`, from `m` to `m + n - 1`. Numbers have any size here, so the sum is exact
abbrev pub is_asked : ℤ → Option ℤ → ℕ → Bool
is_asked m None place = not (int_lt (pos place) m)
is_asked m (Some n) place = not (int_lt (pos place) m) && int_lt (pos place) (m +ℤ n)

-- `substr`: the bytes at these places, as far as the text has them
abbrev pub substring : Bytes → ℤ → Option ℤ → Bytes
substring text m n = bytes_at (is_asked m n) 1 text

-- `tolower` of a byte: `A` to `Z` in the POSIX locale (XBD 7.3.1, LC_CTYPE, tolower)
abbrev pub lower : ℕ → ℕ
lower b = if nat_le 65 b && nat_le b 90 then b + 32 else b

-- `toupper` of a byte: `a` to `z` in the POSIX locale (XBD 7.3.1, LC_CTYPE, toupper)
abbrev pub upper : ℕ → ℕ
upper b = if nat_le 97 b && nat_le b 122 then b - 32 else b
