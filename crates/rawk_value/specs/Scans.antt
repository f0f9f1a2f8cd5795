-- What one pass over a text finds of its numeric front.
use Rattle.std.specs.Prelude.{◌≡◌, ℕ, ◌-◌, ◌^◌, min, not, ◌==◌, if◌then◌else◌, [], drop}
use Rattle.std.specs.List.{list_any, take_while}
use Rattle.std.specs.Str.Parse.{digits_value}
use Rattle.rawk_value.specs.Values.{Bytes, Front, has_digits, begins, is_digit}
use Rattle.rawk_value.specs.declared.scan.Scan.{Scan}

-- a size as 64 bits hold it: the greatest of them stands for all that are greater
abbrev pub held : ℕ → ℕ
held n = min n (2 ^ 64 - 1)

-- the scan says of the front all that its number and its kind depend on
pub record Summarizes (s : Scan) (f : Front) : Type 0 where
  pub negative : s.negative ≡ f.negative
  pub size : s.size ≡ held (digits_value 10 f.whole)
  pub has_digits : s.has_digits ≡ has_digits f
  pub has_part : s.has_part ≡ list_any (λ b. not (b == 48)) f.part
  pub has_exponent : s.has_exponent ≡ f.exponent
  pub rest : s.rest.now ≡ f.rest

-- how long the point is that a text begins with
abbrev pub point_size : Bytes → ℕ
point_size text = if begins (λ b. b == 46) text then 1 else 0

-- the digits after that point
abbrev pub part_of : Bytes → Bytes
part_of text = if point_size text == 0 then [] else take_while is_digit (drop 1 text)
