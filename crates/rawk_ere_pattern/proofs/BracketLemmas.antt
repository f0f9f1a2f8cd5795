-- How the items of a bracket expression are gathered.
use Rattle.std.proofs.Common.{◌≡◌, ℕ, ◌+◌, ◌⊎◌, inl, inr, Bool, true, false, true≢false, Option, Some, None, List, [], ◌∷◌, ◌++◌, drop, refl, sym, ap, ◌∙◌, subst, append_assoc}
use Rattle.std.proofs.lemmas.List.{append-nil, drop-drop}
use Rattle.rawk_ere_pattern.specs.declared.token.Token.{Token}
use Rattle.rawk_ere_pattern.specs.declared.token.Token.TheVariants as token
use Rattle.rawk_ere_pattern.specs.declared.bracket.BracketPlace.{BracketPlace}
use Rattle.rawk_ere_pattern.specs.declared.bracket.BracketPlace.TheVariants.{First, AfterByte, AfterRange}
use Rattle.rawk_ere_pattern.specs.declared.bracket.Item.{Item}
use Rattle.rawk_ere_tree.specs.ByteSets.{HasAlso, IsInRanges, IsSetOf, IsIn}
use Rattle.rawk_ere_pattern.specs.Pattern.{begins, item_at, ranges_in, closes, Items, closed, more, IsBracket, IsBracketed}
use Rattle.rawk_ere_pattern.specs.ByteSetLemmas.{also_both, set_with, set_where}

in_both : (b : ℕ) (xs ys : List (ℕ × ℕ)) → (IsInRanges b xs ⊎ IsInRanges b ys) → IsInRanges b (xs ++ ys)
in_both b [] ys h = elim h [ inl x ↦ absurd x | inr y ↦ y ]
in_both b (x ∷ xs) ys h = elim h [ inl l ↦ elim l [ inl is ↦ inl is | inr m ↦ inr (in_both b xs ys (inl m)) ] | inr y ↦ inr (in_both b xs ys (inr y)) ]

in_either : (b : ℕ) (xs ys : List (ℕ × ℕ)) → IsInRanges b (xs ++ ys) → IsInRanges b xs ⊎ IsInRanges b ys
in_either b [] ys h = inr h
in_either b (x ∷ xs) ys h = elim h [ inl is ↦ inl (inl is) | inr m ↦ elim (in_either b xs ys m) [ inl l ↦ inl (inr l) | inr r ↦ inr r ] ]

-- the items before here have been gathered
pub record Gathering (from : List ℕ) (place : BracketPlace) (here old new : List ℕ) : Type 0 where
  pub sofar : List (ℕ × ℕ)
  pub has : HasAlso old new (λ b. IsInRanges b sofar)
  pub forward : (ranges : List (ℕ × ℕ)) (rest : List ℕ) → Items place here ranges rest → Items First from (sofar ++ ranges) rest
  pub back : (ranges : List (ℕ × ℕ)) (rest : List ℕ) → Items First from ranges rest → (others : List (ℕ × ℕ)) × Items place here others rest

items_go : {p : BracketPlace} {s rest : List ℕ} {ranges : List (ℕ × ℕ)} → Items p s ranges rest → closes p s ≡ false
    → (item : Item) × (q : BracketPlace) × (mid : List ℕ) × (others : List (ℕ × ℕ)) × (item_at p s ≡ Some (item, q, mid)) × Items q mid others rest
items_go (closed e) n = absurd (true≢false (sym e ∙ n))
items_go (more {q = q} {mid = mid} {item = item} {ranges = others} n i d) _ = (item, q, mid, others, i, d)

abbrev the : Item × BracketPlace × List ℕ → Option (Item × BracketPlace × List ℕ) → Item × BracketPlace × List ℕ
the d None = d
the d (Some x) = x

abbrev found : Item → BracketPlace → List ℕ → Option (Item × BracketPlace × List ℕ)
found item p m = Some (item, p, m)

same_item : (a b : Item) (p q : BracketPlace) (m n : List ℕ) → found a p m ≡ found b q n → (p ≡ q) × (m ≡ n)
same_item a b p q m n e = (ap (λ o. (the (a, p, m) o).1) e, ap (λ o. (the (a, p, m) o).2) e)

abbrev is_item : Option (Item × BracketPlace × List ℕ) → Bool
is_item None = false
is_item (Some x) = true

pub gather_more : (from : List ℕ) (place q : BracketPlace) (here mid old new newer : List ℕ) (item : Item) → Gathering from place here old new → closes place here ≡ false → item_at place here ≡ Some (item, q, mid)
    → HasAlso new newer (λ b. IsInRanges b (ranges_in item)) → Gathering from q mid old newer
gather_more from place q here mid old new newer item g n i h = record {
  sofar = g.sofar ++ ranges_in item;
  has = also_both old new newer (λ b. IsInRanges b g.sofar) (λ b. IsInRanges b (ranges_in item)) (λ b. IsInRanges b (g.sofar ++ ranges_in item))
      (λ b. (in_both b g.sofar (ranges_in item), in_either b g.sofar (ranges_in item))) g.has h;
  forward = λ ranges rest d. subst (λ l. Items First from l rest) (sym (append_assoc g.sofar (ranges_in item) ranges)) (g.forward (ranges_in item ++ ranges) rest (more n i d));
  back = λ ranges rest d.
      let b = g.back ranges rest d in
      let go = items_go b.1 n in
      let same = same_item go.0 item go.1 q go.2 mid (sym go.4 ∙ i) in
      let same_place = same.0 in
      let same_mid = same.1 in
      (go.3, subst (λ x. Items x mid go.3 rest) same_place (subst (λ x. Items go.1 x go.3 rest) same_mid go.5));
}

pub gather_end : (from : List ℕ) (place : BracketPlace) (at : ℕ) (p old new : List ℕ) → Gathering from place (drop at p) old new → closes place (drop at p) ≡ true
    → (ranges : List (ℕ × ℕ)) × Items First from ranges (drop (at + 1) p) × HasAlso old new (λ b. IsInRanges b ranges)
gather_end from place at p old new g e =
    let d = g.forward [] (drop 1 (drop at p)) (closed e) in
    (g.sofar, subst (λ l. Items First from g.sofar l) (drop-drop 1 at p) (subst (λ l. Items First from l (drop 1 (drop at p))) (append-nil g.sofar) d), g.has)

pub gather_none : (from : List ℕ) (place : BracketPlace) (here old new : List ℕ) → Gathering from place here old new → closes place here ≡ false → item_at place here ≡ None
    → (ranges : List (ℕ × ℕ)) (rest : List ℕ) → Items First from ranges rest → ⊥
gather_none from place here old new g n i ranges rest d =
    let b = g.back ranges rest d in
    let go = items_go b.1 n in
    true≢false (sym (ap is_item go.4) ∙ ap is_item i)

not_closed : (place : BracketPlace) → closes place [] ≡ false
not_closed First = refl
not_closed AfterByte = refl
not_closed AfterRange = refl

no_item : (place : BracketPlace) → item_at place [] ≡ None
unfolding item_at
no_item place = refl

pub gather_open : (from : List ℕ) (place : BracketPlace) (here old new : List ℕ) → here ≡ [] → Gathering from place here old new → (ranges : List (ℕ × ℕ)) (rest : List ℕ) → Items First from ranges rest → ⊥
gather_open from place here old new z g =
    gather_none from place here old new g (ap (closes place) z ∙ not_closed place) (ap (item_at place) z ∙ no_item place)

-- a set made of what was gathered
pub gathered : (old new : List ℕ) (ranges : List (ℕ × ℕ)) → IsSetOf (λ _. ⊥) old → HasAlso old new (λ b. IsInRanges b ranges) → IsSetOf (λ b. IsInRanges b ranges) new
gathered old new ranges s h =
    set_where (λ b. ⊥ ⊎ IsInRanges b ranges) (λ b. IsInRanges b ranges) new (λ b lt. (λ x. elim x [ inl n ↦ absurd n | inr r ↦ r ], λ r. inr r)) (set_with (λ _. ⊥) (λ b. IsInRanges b ranges) old new s h)

pub gathered_others : (set others : List ℕ) (ranges : List (ℕ × ℕ)) → IsSetOf (λ b. IsInRanges b ranges) set → IsSetOf (λ b. IsIn b set → ⊥) others → IsSetOf (λ b. IsInRanges b ranges → ⊥) others
gathered_others set others ranges s o =
    set_where (λ b. IsIn b set → ⊥) (λ b. IsInRanges b ranges → ⊥) others (λ b lt. (λ n r. n ((s.by b lt).1 r), λ n r. n ((s.by b lt).0 r))) o

pub bracket_negated : (at next : ℕ) (p none set others : List ℕ) → begins 94 (drop at p) ≡ true → IsSetOf (λ _. ⊥) none
    → (ranges : List (ℕ × ℕ)) × Items First (drop (at + 1) p) ranges (drop next p) × HasAlso none set (λ b. IsInRanges b ranges)
    → IsSetOf (λ b. IsIn b set → ⊥) others → IsBracket (drop at p) others (drop next p)
bracket_negated at next p none set others n s h o =
    inl (n, (h.0, subst (λ l. Items First l h.0 (drop next p)) (sym (drop-drop 1 at p)) h.1, gathered_others set others h.0 (gathered none set h.0 s h.2) o))

pub bracket_none_negated : (at : ℕ) (p : List ℕ) → begins 94 (drop at p) ≡ true → ((ranges : List (ℕ × ℕ)) (rest : List ℕ) → Items First (drop (at + 1) p) ranges rest → ⊥) → (t : Token) (rest : List ℕ) → IsBracketed (drop at p) t rest → ⊥
bracket_none_negated at p n f (token.OneOf set) rest h =
    elim h [ inl x ↦ f x.1.0 rest (subst (λ l. Items First l x.1.0 rest) (drop-drop 1 at p) x.1.1) | inr x ↦ true≢false (sym n ∙ x.0) ]
bracket_none_negated at p n f token.Start rest h = h
bracket_none_negated at p n f token.End rest h = h
bracket_none_negated at p n f token.Bar rest h = h
bracket_none_negated at p n f token.Open rest h = h
bracket_none_negated at p n f token.Close rest h = h
bracket_none_negated at p n f (token.Times c) rest h = h
