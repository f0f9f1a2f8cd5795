-- What an extended regular expression finds, as functions: the leftmost match, and of those that begin there the longest (POSIX XBD 9.1).
use Rattle.std.specs.Prelude.{ℕ, zero, suc, ◌+◌, ◌-◌, ◌/◌, ◌%◌, ◌^◌, max, Bool, true, false, ◌&&◌, ◌||◌, if◌then◌else◌, nat_eq, nat_lt, List, [], ◌∷◌, ◌++◌, length, slice_get, slice_index, Option, None, Some}
use Rattle.std.specs.List.{flat_map, list_any}
use Rattle.rawk_value.specs.Values.{Bytes}
use Rattle.rawk_ere_tree.specs.declared.node.Count.{Count}
use Rattle.rawk_ere_tree.specs.declared.node.Count.TheVariants.{Star, Plus, Maybe, AtLeast, Between}
use Rattle.rawk_ere_tree.specs.Tree.{Tree, Empty, OneOf, Start, End, Join, Either, Group, Repeat}
use Rattle.rawk_search.specs.declared.span.Span.{Span}

-- the byte is in the set, which is four words of 64 bits
abbrev pub is_member : List ℕ → ℕ → Bool
is_member set b = nat_eq (slice_index set (b / 64) / 2 ^ (b % 64) % 2) 1

-- a byte is there, and is in the set
abbrev pub is_member_there : List ℕ → Option ℕ → Bool
is_member_there set None = false
is_member_there set (Some b) = is_member set b

-- where k matches end that stand one after the other from i on
abbrev pub ends_of_times : (ℕ → List ℕ) → ℕ → ℕ → List ℕ
ends_of_times part zero i = i ∷ []
ends_of_times part (suc k) i = flat_map (ends_of_times part k) (part i)

-- the same for k and the numbers after it, `numbers` numbers in all
abbrev pub ends_of_counts : (ℕ → List ℕ) → ℕ → ℕ → ℕ → List ℕ
ends_of_counts part k zero i = []
ends_of_counts part k (suc numbers) i = ends_of_times part k i ++ ends_of_counts part (k + 1) numbers i

-- how often a part stands at least
abbrev pub least : Count → ℕ
least Star = 0
least Plus = 1
least Maybe = 0
least (AtLeast m) = m
least (Between m more) = m

-- How many numbers of matches, from the least on, are enough in a text of n bytes: of more matches than that some are empty and can be left out.
abbrev pub enough : Count → ℕ → ℕ
enough Star n = n + 1
enough Plus n = n + 1
enough Maybe n = 2
enough (AtLeast m) n = n + 1
enough (Between m more) n = more + 1

-- the same for the numbers of matches, from 0 on, after which one more may stand
abbrev pub enough_before : Count → ℕ → ℕ
enough_before Star n = n + 1
enough_before Plus n = n + 1
enough_before Maybe n = 1
enough_before (AtLeast m) n = n + 1
enough_before (Between m more) n = m + more

-- the places where a match ends that begins at i; if the text is closed, no byte follows it, so `$` holds at its end
unfoldable pub ends : Bool → Bytes → Tree → ℕ → List ℕ
ends closed s Empty i = i ∷ []
ends closed s (OneOf set) i = if is_member_there set (slice_get s i) then (i + 1) ∷ [] else []
ends closed s Start i = if nat_eq i 0 then i ∷ [] else []
ends closed s End i = if closed && nat_eq i (length s) then i ∷ [] else []
ends closed s (Join a b) i = flat_map (ends closed s b) (ends closed s a i)
ends closed s (Either a b) i = ends closed s a i ++ ends closed s b i
ends closed s (Group a) i = ends closed s a i
ends closed s (Repeat a count) i = ends_of_counts (ends closed s a) (least count) (enough count (length s)) i

-- reading the expression from i wants to know what follows the text s, of which it is not known whether it goes on
unfoldable pub needs : Bytes → Tree → ℕ → Bool
needs s Empty i = false
needs s (OneOf set) i = nat_eq i (length s)
needs s Start i = false
needs s End i = nat_eq i (length s)
needs s (Join a b) i = needs s a i || list_any (needs s b) (ends false s a i)
needs s (Either a b) i = needs s a i || needs s b i
needs s (Group a) i = needs s a i
needs s (Repeat a count) i = list_any (needs s a) (ends_of_counts (ends false s a) 0 (enough_before count (length s)) i)

-- the greater of a place and another, if there is one
abbrev pub greater : ℕ → Option ℕ → ℕ
greater j None = j
greater j (Some k) = max j k

-- the greatest place of a list
abbrev pub greatest : List ℕ → Option ℕ
greatest [] = None
greatest (j ∷ js) = Some (greater j (greatest js))

-- the match from i to its end, if it has one
abbrev pub span_to : ℕ → Option ℕ → Option Span
span_to i None = None
span_to i (Some j) = Some (record { start = i; end = j })

-- the same, if it is not empty
abbrev pub span_past : ℕ → Option ℕ → Option Span
span_past i None = None
span_past i (Some j) = if nat_lt i j then Some (record { start = i; end = j }) else None

-- the span, or else the other
abbrev pub or_span : Option Span → Option Span → Option Span
or_span None other = other
or_span (Some m) other = Some m

-- the first span that `at` gives, of `places` places from i on
abbrev pub first_span : (ℕ → Option Span) → ℕ → ℕ → Option Span
first_span at i zero = None
first_span at i (suc places) = or_span (at i) (first_span at (i + 1) places)

-- how many places there are from p to the end of a text
abbrev pub places_from : ℕ → Bytes → ℕ
places_from p s = length s + 1 - p

-- the leftmost match from p on, and the longest there
unfoldable pub first_match : Bytes → Tree → ℕ → Option Span
first_match s e p = first_span (λ i. span_to i (greatest (ends true s e i))) p (places_from p s)

-- the leftmost match from p on that is not empty, and the longest there
unfoldable pub first_nonempty : Bool → Bytes → Tree → ℕ → Option Span
first_nonempty closed s e p = first_span (λ i. span_past i (greatest (ends closed s e i))) p (places_from p s)

-- one of `places` places from i on passes the test
abbrev pub any_place : (ℕ → Bool) → ℕ → ℕ → Bool
any_place test i zero = false
any_place test i (suc places) = test i || any_place test (i + 1) places

-- the match, if no reading from a place between p and its begin wants to know what follows the text
abbrev pub if_settled : Bytes → Tree → ℕ → Option Span → Option Span
if_settled s e p None = None
if_settled s e p (Some m) = if any_place (needs s e) p (m.start + 1 - p) then None else Some m

-- the leftmost match from p on that is not empty, in a text that may go on, if what follows cannot change it
unfoldable pub open_match : Bytes → Tree → ℕ → Option Span
open_match s e p = if_settled s e p (first_nonempty false s e p)
