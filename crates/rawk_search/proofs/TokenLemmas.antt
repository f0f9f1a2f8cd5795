-- The tokens that are computed are those of the text.
use Rattle.std.proofs.Common.{◌≡◌, ℕ, zero, suc, ◌+◌, ◌<◌, inl, inr, Bool, true, false, not, ◌&&◌, true≢false, List, [], ◌∷◌, length, drop, Option, Some, None, refl, sym, ap, ◌∙◌, subst, arith, eqb-true, eq-eqb, leb-true, le-leb}
use Rattle.std.specs.Prelude.{◌↔◌, if◌then◌else◌, nat_eq, nat_le}
use Rattle.std.proofs.lemmas.Bool.{or_cases, and_parts, and_from}
use Rattle.rawk_ere_tree.specs.ByteSets.{IsInRanges}
use Rattle.rawk_ere_pattern.specs.declared.token.Token.{Token}
use Rattle.rawk_ere_pattern.specs.declared.token.Token.TheVariants as token
use Rattle.rawk_ere_pattern.specs.declared.bracket.BracketPlace.{BracketPlace}
use Rattle.rawk_ere_pattern.specs.declared.bracket.BracketPlace.TheVariants.{First}
use Rattle.rawk_ere_pattern.specs.declared.bracket.Item.{Item}
use Rattle.rawk_ere_pattern.specs.declared.byte_kind.ByteKind.{ByteKind}
use Rattle.rawk_ere_pattern.specs.declared.byte_kind.ByteKind.TheVariants as kind
use Rattle.rawk_ere_pattern.specs.Pattern.{begins, escape, item_at, closes, Items, closed, more, IsBracket, Braced, Itself, Wrong, Interval, braced, kind_of, IsOneOf, IsBracketed, IsBraced, IsFirstToken, AreTokens}
use Rattle.rawk_search.specs.Expressions.{set_of, one_of, in_ranges, with_item, items, bracketed, bracket, escaped, brace, first_token, with_token, tokens}
use Rattle.rawk_search.specs.Repeats.{or_left, or_right}
use Rattle.rawk_ere_pattern.specs.ByteSetLemmas.{set_same}
use Rattle.rawk_search.proofs.SetLemmas.{set_is}
use Rattle.rawk_search.proofs.ShortLemmas.{Under, after_token, item_under, items_on, first_under}

-- the test decides the fact
abbrev IsTestOf : (ℕ → Bool) → (ℕ → Type 0) → Type 0
IsTestOf test P = (b : ℕ) → (test b ≡ true) ↔ P b

test_byte : (c : ℕ) → IsTestOf (λ b. nat_eq b c) (λ b. b ≡ c)
test_byte c = λ b. (eqb-true b c, eq-eqb b c)

test_all : IsTestOf (λ _. true) (λ _. Unit {0})
test_all = λ b. (λ _. tt, λ _. refl)

test_ranges : (rs : List (ℕ × ℕ)) → IsTestOf (in_ranges rs) (λ b. IsInRanges b rs)
test_ranges [] = λ b. (λ h. absurd (true≢false (sym h)), λ h. absurd h)
test_ranges (r ∷ rs) = λ b. (
  λ h. elim (or_cases (nat_le r.0 b && nat_le b r.1) (in_ranges rs b) h) [
    | inl x ↦ (let y = and_parts (nat_le r.0 b) (nat_le b r.1) x in inl (leb-true r.0 b y.0, leb-true b r.1 y.1))
    | inr x ↦ inr ((test_ranges rs b).0 x)
  ],
  λ h. elim h [
    | inl x ↦ or_left (nat_le r.0 b && nat_le b r.1) (in_ranges rs b) (and_from (nat_le r.0 b) (nat_le b r.1) (le-leb r.0 b x.0) (le-leb b r.1 x.1))
    | inr x ↦ or_right (nat_le r.0 b && nat_le b r.1) (in_ranges rs b) ((test_ranges rs b).1 x)
  ],
)

not_both : (b : Bool) → not b ≡ true → b ≡ true → ⊥
not_both true n h = true≢false (sym n)
not_both false n h = true≢false (sym h)

not_from : (b : Bool) → (b ≡ true → ⊥) → not b ≡ true
not_from true n = absurd (n refl)
not_from false n = refl

test_others : (rs : List (ℕ × ℕ)) → IsTestOf (λ b. not (in_ranges rs b)) (λ b. IsInRanges b rs → ⊥)
test_others rs = λ b. (λ h x. not_both (in_ranges rs b) h ((test_ranges rs b).1 x), λ n. not_from (in_ranges rs b) (λ h. n ((test_ranges rs b).0 h)))

-- the token of a set by its test
one_is : (test : ℕ → Bool) (P : ℕ → Type 0) → IsTestOf test P → (t : Token) → IsOneOf P t → token.OneOf (set_of test) ≡ t
one_is test P d (token.OneOf set) h = ap token.OneOf (set_same P (set_of test) set (set_is test P d) h)
one_is test P d token.Start h = absurd h
one_is test P d token.End h = absurd h
one_is test P d token.Bar h = absurd h
one_is test P d token.Open h = absurd h
one_is test P d token.Close h = absurd h
one_is test P d (token.Times count) h = absurd h

abbrev found : Token → List ℕ → Option (Token × List ℕ)
found t rest = Some (t, rest)

one_all : (test : ℕ → Bool) (P : ℕ → Type 0) → IsTestOf test P → (s rest : List ℕ) (t : Token) → IsOneOf P t → rest ≡ s → one_of test s ≡ Some (t, rest)
one_all test P d s rest t h e = ap (λ u. found u s) (one_is test P d t h) ∙ ap (found t) (sym e)

-- what a token and the text after it are, if there are any
abbrev If : (Token → List ℕ → Type 0) → Option (Token × List ℕ) → Type 0
If P None = Unit {0}
If P (Some r) = P r.0 r.1

one_if : (test : ℕ → Bool) (P : ℕ → Type 0) → IsTestOf test P → (s : List ℕ) → If (λ t rest. IsOneOf P t × (rest ≡ s)) (one_of test s)
one_if test P d s = (set_is test P d, refl)

-- items
abbrev item_found : Item → BracketPlace → List ℕ → Option (Item × BracketPlace × List ℕ)
item_found item p m = Some (item, p, m)

items_all : {p : BracketPlace} {s rest : List ℕ} {ranges : List (ℕ × ℕ)} → Items p s ranges rest → (fuel : ℕ) → length s < fuel → items fuel p s ≡ Some (ranges, rest)
items_all (closed {p = p} {s = s} e) zero lt = absurd (omega arith)
items_all (closed {p = p} {s = s} e) (suc fuel) lt = ap (λ b. if b then Some ([], drop 1 s) else items_on fuel (item_at p s)) e
items_all (more n i d) zero lt = absurd (omega arith)
items_all (more {p = p} {q = q} {s = s} {mid = mid} {rest = rest} {item = item} {ranges = ranges} n i d) (suc fuel) lt =
    let left : length mid < length s = subst (Under (λ o. o.2) (length s)) i (item_under p s (length s) (omega arith)) in
    ap (λ b. if b then Some ([], drop 1 s) else items_on fuel (item_at p s)) n ∙ ap (items_on fuel) i ∙ ap (with_item item) (items_all d fuel (omega arith))

abbrev ItemsIf : BracketPlace → List ℕ → Option (List (ℕ × ℕ) × List ℕ) → Type 0
ItemsIf p s None = Unit {0}
ItemsIf p s (Some r) = Items p s r.0 r.1

items_more : (p q : BracketPlace) (s mid : List ℕ) (item : Item) (o : Option (List (ℕ × ℕ) × List ℕ)) → closes p s ≡ false → item_at p s ≡ item_found item q mid → ItemsIf q mid o → ItemsIf p s (with_item item o)
items_more p q s mid item None n i h = tt
items_more p q s mid item (Some r) n i h = more n i h

items_after : (fuel : ℕ) (p : BracketPlace) (s : List ℕ) → ((q : BracketPlace) (mid : List ℕ) → ItemsIf q mid (items fuel q mid)) → closes p s ≡ false → (o : Option (Item × BracketPlace × List ℕ)) → item_at p s ≡ o → ItemsIf p s (items_on fuel o)
items_after fuel p s h n None e = tt
items_after fuel p s h n (Some i) e = items_more p i.1 s i.2 i.0 (items fuel i.1 i.2) n e (h i.1 i.2)

items_by : (fuel : ℕ) (p : BracketPlace) (s : List ℕ) → ((q : BracketPlace) (mid : List ℕ) → ItemsIf q mid (items fuel q mid)) → (b : Bool) → closes p s ≡ b → ItemsIf p s (if b then Some ([], drop 1 s) else items_on fuel (item_at p s))
items_by fuel p s h true e = closed e
items_by fuel p s h false e = items_after fuel p s h e (item_at p s) refl

items_if : (fuel : ℕ) (p : BracketPlace) (s : List ℕ) → ItemsIf p s (items fuel p s)
items_if zero p s = tt
items_if (suc fuel) p s = items_by fuel p s (items_if fuel) (closes p s) refl

-- brackets
abbrev bracket_by : List ℕ → Bool → Option (Token × List ℕ)
bracket_by s b = if b then bracketed true (items (length s + 1) First (drop 1 s)) else bracketed false (items (length s + 1) First s)

shorter : (s : List ℕ) → length (drop 1 s) < length s + 1
shorter [] = omega arith
shorter (b ∷ s) = omega arith

set_all : (s rest set : List ℕ) → IsBracket s set rest → bracket s ≡ found (token.OneOf set) rest
set_all s rest set (inl x) =
    ap (bracket_by s) x.0 ∙ ap (bracketed true) (items_all x.1.1 (length s + 1) (shorter s))
    ∙ ap (λ w. found (token.OneOf w) rest) (set_same (λ b. IsInRanges b x.1.0 → ⊥) (set_of (λ b. not (in_ranges x.1.0 b))) set (set_is (λ b. not (in_ranges x.1.0 b)) (λ b. IsInRanges b x.1.0 → ⊥) (test_others x.1.0)) x.1.2)
set_all s rest set (inr x) =
    ap (bracket_by s) x.0 ∙ ap (bracketed false) (items_all x.1.1 (length s + 1) (omega arith))
    ∙ ap (λ w. found (token.OneOf w) rest) (set_same (λ b. IsInRanges b x.1.0) (set_of (in_ranges x.1.0)) set (set_is (in_ranges x.1.0) (λ b. IsInRanges b x.1.0) (test_ranges x.1.0)) x.1.2)

bracket_all : (s rest : List ℕ) (t : Token) → IsBracketed s t rest → bracket s ≡ Some (t, rest)
bracket_all s rest (token.OneOf set) h = set_all s rest set h
bracket_all s rest token.Start h = absurd h
bracket_all s rest token.End h = absurd h
bracket_all s rest token.Bar h = absurd h
bracket_all s rest token.Open h = absurd h
bracket_all s rest token.Close h = absurd h
bracket_all s rest (token.Times count) h = absurd h

negated_if : (s : List ℕ) → begins 94 s ≡ true → (o : Option (List (ℕ × ℕ) × List ℕ)) → ItemsIf First (drop 1 s) o → If (IsBracketed s) (bracketed true o)
negated_if s e None h = tt
negated_if s e (Some r) h = inl (e, (r.0, h, set_is (λ b. not (in_ranges r.0 b)) (λ b. IsInRanges b r.0 → ⊥) (test_others r.0)))

plain_if : (s : List ℕ) → begins 94 s ≡ false → (o : Option (List (ℕ × ℕ) × List ℕ)) → ItemsIf First s o → If (IsBracketed s) (bracketed false o)
plain_if s e None h = tt
plain_if s e (Some r) h = inr (e, (r.0, h, set_is (in_ranges r.0) (λ b. IsInRanges b r.0) (test_ranges r.0)))

bracket_if_by : (s : List ℕ) (b : Bool) → begins 94 s ≡ b → If (IsBracketed s) (bracket_by s b)
bracket_if_by s true e = negated_if s e (items (length s + 1) First (drop 1 s)) (items_if (length s + 1) First (drop 1 s))
bracket_if_by s false e = plain_if s e (items (length s + 1) First s) (items_if (length s + 1) First s)

-- what a byte of each kind begins
brace_all : (b : Braced) (s rest : List ℕ) (t : Token) → IsBraced b s t rest → brace s b ≡ Some (t, rest)
brace_all Itself s rest t h = one_all (λ b. nat_eq b 123) (λ b. b ≡ 123) (test_byte 123) s rest t h.0 h.1
brace_all Wrong s rest t h = absurd h
brace_all (Interval count after) s rest t h = ap (λ u. found u after) (sym h.0) ∙ ap (found t) (sym h.1)

brace_if : (b : Braced) (s : List ℕ) → If (IsBraced b s) (brace s b)
brace_if Itself s = one_if (λ b. nat_eq b 123) (λ b. b ≡ 123) (test_byte 123) s
brace_if Wrong s = tt
brace_if (Interval count after) s = (refl, refl)

same_all : (u t : Token) (s rest : List ℕ) → t ≡ u → rest ≡ s → found u s ≡ Some (t, rest)
same_all u t s rest e f = ap (λ x. found x s) (sym e) ∙ ap (found t) (sym f)

first_all : (l : ByteKind) (b : ℕ) (s rest : List ℕ) (t : Token) → IsFirstToken l b s t rest → first_token l b s ≡ Some (t, rest)
first_all kind.Ordinary b s rest t h = one_all (λ k. nat_eq k b) (λ k. k ≡ b) (test_byte b) s rest t h.0 h.1
first_all kind.Any b s rest t h = one_all (λ _. true) (λ _. Unit {0}) test_all s rest t h.0 h.1
first_all kind.Start b s rest t h = same_all _ t s rest h.0 h.1
first_all kind.End b s rest t h = same_all _ t s rest h.0 h.1
first_all kind.Bar b s rest t h = same_all _ t s rest h.0 h.1
first_all kind.Open b s rest t h = same_all _ t s rest h.0 h.1
first_all kind.Close b s rest t h = same_all _ t s rest h.0 h.1
first_all kind.Star b s rest t h = same_all _ t s rest h.0 h.1
first_all kind.Plus b s rest t h = same_all _ t s rest h.0 h.1
first_all kind.Maybe b s rest t h = same_all _ t s rest h.0 h.1
first_all kind.Backslash b s rest t h = ap escaped h.1 ∙ one_all (λ k. nat_eq k h.0) (λ k. k ≡ h.0) (test_byte h.0) rest rest t h.2 refl
first_all kind.Bracket b s rest t h = bracket_all s rest t h
first_all kind.Brace b s rest t h = brace_all (braced s) s rest t h

escaped_if : (s : List ℕ) (o : Option (ℕ × List ℕ)) → escape s ≡ o → If (λ t rest. (c : ℕ) × (escape s ≡ Some (c, rest)) × IsOneOf (λ k. k ≡ c) t) (escaped o)
escaped_if s None e = tt
escaped_if s (Some x) e = (x.0, e, set_is (λ k. nat_eq k x.0) (λ k. k ≡ x.0) (test_byte x.0))

first_if : (l : ByteKind) (b : ℕ) (s : List ℕ) → If (IsFirstToken l b s) (first_token l b s)
first_if kind.Ordinary b s = one_if (λ k. nat_eq k b) (λ k. k ≡ b) (test_byte b) s
first_if kind.Any b s = one_if (λ _. true) (λ _. Unit {0}) test_all s
first_if kind.Start b s = (refl, refl)
first_if kind.End b s = (refl, refl)
first_if kind.Bar b s = (refl, refl)
first_if kind.Open b s = (refl, refl)
first_if kind.Close b s = (refl, refl)
first_if kind.Star b s = (refl, refl)
first_if kind.Plus b s = (refl, refl)
first_if kind.Maybe b s = (refl, refl)
first_if kind.Backslash b s = escaped_if s (escape s) refl
first_if kind.Bracket b s = bracket_if_by s (begins 94 s) refl
first_if kind.Brace b s = brace_if (braced s) s

-- the tokens from the one that was found on
abbrev tokens_on : ℕ → Option (Token × List ℕ) → Option (List Token)
tokens_on fuel o = elim o as (λ _. Option (List Token)) [ None ↦ None | Some r ↦ with_token r.0 (tokens fuel r.1) ]

pub tokens_all : (ts : List Token) (s : List ℕ) (fuel : ℕ) → length s < fuel → AreTokens s ts → tokens fuel s ≡ Some ts
tokens_all ts s zero lt h = absurd (omega arith)
tokens_all [] s (suc fuel) lt h = ap (tokens (suc fuel)) h
tokens_all (t ∷ ts) [] (suc fuel) lt h = absurd h.1
tokens_all (t ∷ ts) (b ∷ s) (suc fuel) lt h =
    let is = first_all (kind_of b) b s h.0 t h.1 in
    let left : length h.0 < length s + 1 = subst (Under after_token (length s + 1)) is (first_under (kind_of b) b s (length s + 1) (omega arith)) in
    ap (tokens_on fuel) is ∙ ap (with_token t) (tokens_all ts h.0 fuel (omega arith) h.2)

abbrev TokensIf : List ℕ → Option (List Token) → Type 0
TokensIf s None = Unit {0}
TokensIf s (Some ts) = AreTokens s ts

tokens_more : (b : ℕ) (s rest : List ℕ) (t : Token) → IsFirstToken (kind_of b) b s t rest → (o : Option (List Token)) → TokensIf rest o → TokensIf (b ∷ s) (with_token t o)
tokens_more b s rest t is None h = tt
tokens_more b s rest t is (Some ts) h = (rest, is, h)

tokens_after : (fuel b : ℕ) (s : List ℕ) → ((rest : List ℕ) → TokensIf rest (tokens fuel rest)) → (o : Option (Token × List ℕ)) → If (IsFirstToken (kind_of b) b s) o → TokensIf (b ∷ s) (tokens_on fuel o)
tokens_after fuel b s h None is = tt
tokens_after fuel b s h (Some r) is = tokens_more b s r.1 r.0 is (tokens fuel r.1) (h r.1)

pub tokens_if : (fuel : ℕ) (s : List ℕ) → TokensIf s (tokens fuel s)
tokens_if zero s = tt
tokens_if (suc fuel) [] = refl
tokens_if (suc fuel) (b ∷ s) = tokens_after fuel b s (tokens_if fuel) (first_token (kind_of b) b s) (first_if (kind_of b) b s)

pub are_tokens : (fuel : ℕ) (s : List ℕ) (ts : List Token) → tokens fuel s ≡ Some ts → AreTokens s ts
are_tokens fuel s ts e = subst (TokensIf s) e (tokens_if fuel s)
