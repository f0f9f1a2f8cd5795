-- What is read of a pattern leaves a shorter text.
use Rattle.std.proofs.Common.{ℕ, zero, suc, ◌+◌, ◌-◌, ◌*◌, ◌<◌, ◌≤◌, Bool, true, false, not, ◌&&◌, ◌||◌, List, [], ◌∷◌, length, drop, Option, Some, None, arith, length-drop}
use Rattle.std.specs.Prelude.{if◌then◌else◌, nat_eq, nat_le}
use Rattle.rawk_ere_tree.specs.declared.node.Count.TheVariants.{AtLeast, Between}
use Rattle.rawk_ere_pattern.specs.declared.token.Token.{Token}
use Rattle.rawk_ere_pattern.specs.declared.bracket.Class.{Class}
use Rattle.rawk_ere_pattern.specs.declared.bracket.BracketPlace.{BracketPlace}
use Rattle.rawk_ere_pattern.specs.declared.bracket.BracketPlace.TheVariants.{First, AfterByte, AfterRange}
use Rattle.rawk_ere_pattern.specs.declared.bracket.Item.{Item}
use Rattle.rawk_ere_pattern.specs.declared.bracket.Item.TheVariants.{Range}
use Rattle.rawk_ere_pattern.specs.declared.byte_kind.ByteKind.{ByteKind}
use Rattle.rawk_ere_pattern.specs.declared.byte_kind.ByteKind.TheVariants as kind
use Rattle.rawk_ere_pattern.specs.Pattern.{is_digit, is_octal, begins, begins_digit, digits_from, octal_from, escaped_byte, with_rest, as_byte, escape, class_at, name_length, endpoint, ended_by, begun_with, begun_by, named, hyphen, item_at, closes, Braced, Itself, Wrong, Interval, exactly, at_least, between, after_comma, after_least, without_least, braced}
use Rattle.rawk_search.specs.Expressions.{with_item, items, bracketed, bracket, escaped, brace, first_token}

-- what is left of the text is shorter than n, if something was read
abbrev pub Under : {A : Type 0} → (A → List ℕ) → ℕ → Option A → Type 0
Under rest n None = Unit {0}
Under rest n (Some a) = length (rest a) < n

if_both : {A : Type 0} (P : A → Type 0) (b : Bool) (x y : A) → P x → P y → P (if b then x else y)
if_both P true x y hx hy = hx
if_both P false x y hx hy = hy

abbrev after_byte : ℕ × List ℕ → List ℕ
after_byte o = o.1

abbrev after_item : Item × BracketPlace × List ℕ → List ℕ
after_item o = o.2

abbrev after_ranges : List (ℕ × ℕ) × List ℕ → List ℕ
after_ranges o = o.1

abbrev pub after_token : Token × List ℕ → List ℕ
after_token o = o.1

drop_under : (k : ℕ) (s : List ℕ) (n : ℕ) → length s < n → length (drop k s) < n
drop_under k s n lt = omega (arith, length-drop k s)

digits_under : (s : List ℕ) (v n : ℕ) → length s < n → length (digits_from v s).1 < n
digits_under [] v n lt = lt
digits_under (b ∷ s) v n lt = if_both (λ o. length o.1 < n) (is_digit b) (digits_from (v * 10 + (b - 48)) s) (v, b ∷ s) (digits_under s (v * 10 + (b - 48)) n (omega arith)) lt

octal_under : (k : ℕ) (s : List ℕ) (v n : ℕ) → length s < n → length (octal_from k v s).1 < n
octal_under zero s v n lt = lt
octal_under (suc k) [] v n lt = lt
octal_under (suc k) (b ∷ s) v n lt = if_both (λ o. length o.1 < n) (is_octal b) (octal_from k (v * 8 + (b - 48)) s) (v, b ∷ s) (octal_under k s (v * 8 + (b - 48)) n (omega arith)) lt

rest_under : (s : List ℕ) (o : Option ℕ) (n : ℕ) → length s < n → Under after_byte n (with_rest s o)
rest_under s None n lt = tt
rest_under s (Some b) n lt = lt

pub escape_under : (s : List ℕ) (n : ℕ) → length s < n → Under after_byte n (escape s)
escape_under [] n lt = tt
escape_under (b ∷ s) n lt =
    if_both (Under after_byte n) (is_octal b) (as_byte (octal_from 2 (b - 48) s)) (with_rest s (escaped_byte b))
    (octal_under 2 s (b - 48) n (omega arith)) (rest_under s (escaped_byte b) n (omega arith))

endpoint_under : (s : List ℕ) (n : ℕ) → length s ≤ n → Under after_byte n (endpoint s)
endpoint_under [] n le = tt
endpoint_under (b ∷ s) n le =
    if_both (Under after_byte n) (nat_eq b 92) (escape s) (if nat_eq b 91 && (begins 58 s || begins 46 s || begins 61 s) then None else Some (b, s))
    (escape_under s n (omega arith))
    (if_both (Under after_byte n) (nat_eq b 91 && (begins 58 s || begins 46 s || begins 61 s)) None (Some (b, s)) tt (omega arith))

ended_under : (low : ℕ) (o : Option (ℕ × List ℕ)) (n : ℕ) → Under after_byte n o → Under after_item n (ended_by low o)
ended_under low None n h = tt
ended_under low (Some e) n h = if_both (Under after_item n) (nat_le low e.0) (Some (Range low e.0, AfterRange, e.1)) None h tt

begun_under : (low : ℕ) (s : List ℕ) (n : ℕ) → length s < n → Under after_item n (begun_with low s)
begun_under low s n lt =
    if_both (Under after_item n) (begins 45 s && not (begins 93 (drop 1 s))) (ended_by low (endpoint (drop 1 s))) (Some (Range low low, AfterByte, s))
    (ended_under low (endpoint (drop 1 s)) n (endpoint_under (drop 1 s) n (omega (arith, drop_under 1 s n lt)))) lt

begun_by_under : (o : Option (ℕ × List ℕ)) (n : ℕ) → Under after_byte n o → Under after_item n (begun_by o)
begun_by_under None n h = tt
begun_by_under (Some e) n h = begun_under e.0 e.1 n h

named_under : (s : List ℕ) (o : Option Class) (n : ℕ) → length s < n → Under after_item n (named s o)
named_under s None n lt = tt
named_under s (Some class) n lt = drop_under (name_length class) s n lt

hyphen_under : (p : BracketPlace) (s : List ℕ) (n : ℕ) → length s < n → Under after_item n (hyphen p s)
hyphen_under First s n lt = begun_under 45 s n lt
hyphen_under AfterByte s n lt = if_both (Under after_item n) (begins 93 s) (Some (Range 45 45, AfterByte, s)) None lt tt
hyphen_under AfterRange s n lt = lt

pub item_under : (p : BracketPlace) (s : List ℕ) (n : ℕ) → length s ≤ n → Under after_item n (item_at p s)
unfolding item_at
item_under p [] n le = tt
item_under p (b ∷ s) n le =
    let lt : length s < n = omega arith in
    if_both (Under after_item n) (begins 45 (b ∷ s)) (hyphen p s) (if begins 91 (b ∷ s) && begins 58 s then named (drop 1 s) (class_at (drop 1 s)) else begun_by (endpoint (b ∷ s)))
    (hyphen_under p s n lt)
    (if_both (Under after_item n) (begins 91 (b ∷ s) && begins 58 s) (named (drop 1 s) (class_at (drop 1 s))) (begun_by (endpoint (b ∷ s)))
    (named_under (drop 1 s) (class_at (drop 1 s)) n (drop_under 1 s n lt))
    (begun_by_under (endpoint (b ∷ s)) n (endpoint_under (b ∷ s) n le)))

with_under : (item : Item) (o : Option (List (ℕ × ℕ) × List ℕ)) (n : ℕ) → Under after_ranges n o → Under after_ranges n (with_item item o)
with_under item None n h = tt
with_under item (Some r) n h = h

-- the items from the one that was found on
abbrev pub items_on : ℕ → Option (Item × BracketPlace × List ℕ) → Option (List (ℕ × ℕ) × List ℕ)
items_on more o = elim o as (λ _. Option (List (ℕ × ℕ) × List ℕ)) [ None ↦ None | Some i ↦ with_item i.0 (items more i.1 i.2) ]

items_under : (more : ℕ) (p : BracketPlace) (s : List ℕ) (n : ℕ) → length s < n → Under after_ranges n (items more p s)
items_under zero p s n lt = tt
items_under (suc more) p s n lt =
    if_both (Under after_ranges n) (closes p s) (Some ([], drop 1 s)) (items_on more (item_at p s)) (drop_under 1 s n lt)
    (elim (item_at p s) as (λ o. Under after_item n o → Under after_ranges n (items_on more o)) [
      | None ↦ λ h. tt
      | Some i ↦ λ h. with_under i.0 (items more i.1 i.2) n (items_under more i.1 i.2 n h)
    ] (item_under p s n (omega arith)))

bracketed_under : (negated : Bool) (o : Option (List (ℕ × ℕ) × List ℕ)) (n : ℕ) → Under after_ranges n o → Under after_token n (bracketed negated o)
bracketed_under negated None n h = tt
bracketed_under negated (Some r) n h = h

bracket_under : (s : List ℕ) (n : ℕ) → length s < n → Under after_token n (bracket s)
bracket_under s n lt =
    if_both (Under after_token n) (begins 94 s) (bracketed true (items (length s + 1) First (drop 1 s))) (bracketed false (items (length s + 1) First s))
    (bracketed_under true (items (length s + 1) First (drop 1 s)) n (items_under (length s + 1) First (drop 1 s) n (drop_under 1 s n lt)))
    (bracketed_under false (items (length s + 1) First s) n (items_under (length s + 1) First s n lt))

escaped_under : (o : Option (ℕ × List ℕ)) (n : ℕ) → Under after_byte n o → Under after_token n (escaped o)
escaped_under None n h = tt
escaped_under (Some e) n h = h

-- an interval leaves a text that is shorter than n
abbrev BracedUnder : ℕ → Braced → Type 0
BracedUnder n Itself = Unit {0}
BracedUnder n Wrong = Unit {0}
BracedUnder n (Interval count after) = length after < n

between_under : (m : ℕ) (d : ℕ × List ℕ) (n : ℕ) → length d.1 < n → BracedUnder n (between m d)
between_under m d n lt =
    if_both (BracedUnder n) (begins 125 d.1) (if nat_le m d.0 && nat_le d.0 255 then Interval (Between m (d.0 - m)) (drop 1 d.1) else Wrong) Itself
    (if_both (BracedUnder n) (nat_le m d.0 && nat_le d.0 255) (Interval (Between m (d.0 - m)) (drop 1 d.1)) Wrong (drop_under 1 d.1 n lt) tt) tt

comma_under : (m : ℕ) (s : List ℕ) (n : ℕ) → length s < n → BracedUnder n (after_comma m s)
comma_under m s n lt =
    if_both (BracedUnder n) (begins 125 s) (at_least m (drop 1 s)) (if begins_digit s then between m (digits_from 0 s) else Itself)
    (if_both (BracedUnder n) (nat_le m 255) (Interval (AtLeast m) (drop 1 s)) Wrong (drop_under 1 s n lt) tt)
    (if_both (BracedUnder n) (begins_digit s) (between m (digits_from 0 s)) Itself (between_under m (digits_from 0 s) n (digits_under s 0 n lt)) tt)

least_under : (m : ℕ × List ℕ) (n : ℕ) → length m.1 < n → BracedUnder n (after_least m)
least_under m n lt =
    if_both (BracedUnder n) (begins 125 m.1) (exactly m.0 (drop 1 m.1)) (if begins 44 m.1 then after_comma m.0 (drop 1 m.1) else Itself)
    (if_both (BracedUnder n) (nat_le m.0 255) (Interval (Between m.0 0) (drop 1 m.1)) Wrong (drop_under 1 m.1 n lt) tt)
    (if_both (BracedUnder n) (begins 44 m.1) (after_comma m.0 (drop 1 m.1)) Itself (comma_under m.0 (drop 1 m.1) n (drop_under 1 m.1 n lt)) tt)

without_under : (s : List ℕ) (n : ℕ) → BracedUnder n (without_least s)
without_under s n = if_both (BracedUnder n) (begins 44 s && (begins_digit (drop 1 s) && begins 125 (digits_from 0 (drop 1 s)).1)) Wrong Itself tt tt

braced_under : (s : List ℕ) (n : ℕ) → length s < n → BracedUnder n (braced s)
braced_under s n lt = if_both (BracedUnder n) (begins_digit s) (after_least (digits_from 0 s)) (without_least s) (least_under (digits_from 0 s) n (digits_under s 0 n lt)) (without_under s n)

brace_under : (s : List ℕ) (b : Braced) (n : ℕ) → length s < n → BracedUnder n b → Under after_token n (brace s b)
brace_under s Itself n lt h = lt
brace_under s Wrong n lt h = tt
brace_under s (Interval count after) n lt h = h

pub first_under : (l : ByteKind) (b : ℕ) (s : List ℕ) (n : ℕ) → length s < n → Under after_token n (first_token l b s)
first_under kind.Ordinary b s n lt = lt
first_under kind.Any b s n lt = lt
first_under kind.Start b s n lt = lt
first_under kind.End b s n lt = lt
first_under kind.Bar b s n lt = lt
first_under kind.Open b s n lt = lt
first_under kind.Close b s n lt = lt
first_under kind.Star b s n lt = lt
first_under kind.Plus b s n lt = lt
first_under kind.Maybe b s n lt = lt
first_under kind.Backslash b s n lt = escaped_under (escape s) n (escape_under s n lt)
first_under kind.Bracket b s n lt = bracket_under s n lt
first_under kind.Brace b s n lt = brace_under s (braced s) n lt (braced_under s n lt)
