-- A text has at most one list of tokens.
use Rattle.std.proofs.Common.{◌≡◌, ℕ, inl, inr, true≢false, Option, Some, None, List, [], ◌∷◌, ◌++◌, refl, sym, ap, ◌∙◌, subst, append_assoc}
use Rattle.std.proofs.lemmas.List.{append-nil}
use Rattle.rawk_ere_pattern.specs.declared.token.Token.{Token}
use Rattle.rawk_ere_pattern.specs.declared.token.Token.TheVariants as token
use Rattle.rawk_ere_pattern.specs.declared.byte_kind.ByteKind.{ByteKind}
use Rattle.rawk_ere_pattern.specs.declared.byte_kind.ByteKind.TheVariants as kind
use Rattle.rawk_ere_pattern.specs.declared.bracket.BracketPlace.{BracketPlace}
use Rattle.rawk_ere_pattern.specs.declared.bracket.Item.{Item}
use Rattle.rawk_ere_tree.specs.ByteSets.{IsSetOf, IsInRanges}
use Rattle.rawk_ere_pattern.specs.Pattern.{Items, closed, more, ranges_in, IsBracket, Braced, Itself, Wrong, Interval, braced, kind_of, IsOneOf, IsBracketed, IsBraced, IsFirstToken, IsToken, AreTokens}
use Rattle.rawk_ere_pattern.specs.ByteSetLemmas.{set_same}

same_set : (P : ℕ → Type 0) (t u : Token) → IsOneOf P t → IsOneOf P u → t ≡ u
same_set P (token.OneOf a) (token.OneOf b) x y = ap token.OneOf (set_same P a b x y)
same_set P (token.OneOf a) token.Start x y = absurd y
same_set P (token.OneOf a) token.End x y = absurd y
same_set P (token.OneOf a) token.Bar x y = absurd y
same_set P (token.OneOf a) token.Open x y = absurd y
same_set P (token.OneOf a) token.Close x y = absurd y
same_set P (token.OneOf a) (token.Times c) x y = absurd y
same_set P token.Start u x y = absurd x
same_set P token.End u x y = absurd x
same_set P token.Bar u x y = absurd x
same_set P token.Open u x y = absurd x
same_set P token.Close u x y = absurd x
same_set P (token.Times c) u x y = absurd x

abbrev the : Item × BracketPlace × List ℕ → Option (Item × BracketPlace × List ℕ) → Item × BracketPlace × List ℕ
the d None = d
the d (Some x) = x

abbrev found : Item → BracketPlace → List ℕ → Option (Item × BracketPlace × List ℕ)
found item p m = Some (item, p, m)

same_item : (a b : Item) (p q : BracketPlace) (m n : List ℕ) → found a p m ≡ found b q n → (a ≡ b) × (p ≡ q) × (m ≡ n)
same_item a b p q m n e = (ap (λ o. (the (a, p, m) o).0) e, ap (λ o. (the (a, p, m) o).1) e, ap (λ o. (the (a, p, m) o).2) e)

-- items in other words
items_from : {p q : BracketPlace} {s t rest : List ℕ} {ranges : List (ℕ × ℕ)} → p ≡ q → s ≡ t → Items p s ranges rest → Items q t ranges rest
items_from {p = p} {q = q} {s = s} {t = t} {rest = rest} {ranges = ranges} e f d = subst (λ x. Items q x ranges rest) f (subst (λ x. Items x s ranges rest) e d)

items_same : {p : BracketPlace} {s rest rest' : List ℕ} {ranges ranges' : List (ℕ × ℕ)} → Items p s ranges rest → Items p s ranges' rest' → (ranges ≡ ranges') × (rest ≡ rest')
items_same (closed e) (closed f) = (refl, refl)
items_same (closed e) (more n i d) = absurd (true≢false (sym e ∙ n))
items_same (more n i d) (closed e) = absurd (true≢false (sym e ∙ n))
items_same (more {item = a} {ranges = rs} n i d) (more {item = b} {ranges = qs} m j x) =
    let same = same_item a b _ _ _ _ (sym i ∙ j) in
    let r = items_same d (items_from (sym same.1) (sym same.2) x) in
    (ap (λ k. ranges_in k ++ rs) same.0 ∙ ap (λ l. ranges_in b ++ l) r.0, r.1)

bracket_same : (s a b rest rest' : List ℕ) → IsBracket s a rest → IsBracket s b rest' → (a ≡ b) × (rest ≡ rest')
bracket_same s a b rest rest' (inl x) (inl y) =
    let r = items_same x.1.1 y.1.1 in
    (set_same (λ k. IsInRanges k y.1.0 → ⊥) a b (subst (λ l. IsSetOf (λ k. IsInRanges k l → ⊥) a) r.0 x.1.2) y.1.2, r.1)
bracket_same s a b rest rest' (inl x) (inr y) = absurd (true≢false (sym x.0 ∙ y.0))
bracket_same s a b rest rest' (inr x) (inl y) = absurd (true≢false (sym y.0 ∙ x.0))
bracket_same s a b rest rest' (inr x) (inr y) =
    let r = items_same x.1.1 y.1.1 in
    (set_same (λ k. IsInRanges k y.1.0) a b (subst (λ l. IsSetOf (λ k. IsInRanges k l) a) r.0 x.1.2) y.1.2, r.1)

bracketed_same : (s rest rest' : List ℕ) (t u : Token) → IsBracketed s t rest → IsBracketed s u rest' → (t ≡ u) × (rest ≡ rest')
bracketed_same s rest rest' (token.OneOf a) (token.OneOf b) x y = let r = bracket_same s a b rest rest' x y in (ap token.OneOf r.0, r.1)
bracketed_same s rest rest' (token.OneOf a) token.Start x y = absurd y
bracketed_same s rest rest' (token.OneOf a) token.End x y = absurd y
bracketed_same s rest rest' (token.OneOf a) token.Bar x y = absurd y
bracketed_same s rest rest' (token.OneOf a) token.Open x y = absurd y
bracketed_same s rest rest' (token.OneOf a) token.Close x y = absurd y
bracketed_same s rest rest' (token.OneOf a) (token.Times c) x y = absurd y
bracketed_same s rest rest' token.Start u x y = absurd x
bracketed_same s rest rest' token.End u x y = absurd x
bracketed_same s rest rest' token.Bar u x y = absurd x
bracketed_same s rest rest' token.Open u x y = absurd x
bracketed_same s rest rest' token.Close u x y = absurd x
bracketed_same s rest rest' (token.Times c) u x y = absurd x

braced_same : (b : Braced) (s rest rest' : List ℕ) (t u : Token) → IsBraced b s t rest → IsBraced b s u rest' → (t ≡ u) × (rest ≡ rest')
braced_same Itself s rest rest' t u x y = (same_set (λ k. k ≡ 123) t u x.0 y.0, x.1 ∙ sym y.1)
braced_same Wrong s rest rest' t u x y = absurd x
braced_same (Interval c after) s rest rest' t u x y = (x.0 ∙ sym y.0, x.1 ∙ sym y.1)

abbrev byte_in : ℕ × List ℕ → Option (ℕ × List ℕ) → ℕ × List ℕ
byte_in d None = d
byte_in d (Some x) = x

abbrev read : ℕ → List ℕ → Option (ℕ × List ℕ)
read b s = Some (b, s)

same_byte : (b c : ℕ) (s r : List ℕ) → read b s ≡ read c r → (b ≡ c) × (s ≡ r)
same_byte b c s r e = (ap (λ o. (byte_in (b, s) o).0) e, ap (λ o. (byte_in (b, s) o).1) e)

first_same : (l : ByteKind) (b : ℕ) (s rest rest' : List ℕ) (t u : Token) → IsFirstToken l b s t rest → IsFirstToken l b s u rest' → (t ≡ u) × (rest ≡ rest')
first_same kind.Ordinary b s rest rest' t u x y = (same_set (λ k. k ≡ b) t u x.0 y.0, x.1 ∙ sym y.1)
first_same kind.Any b s rest rest' t u x y = (same_set (λ _. Unit {0}) t u x.0 y.0, x.1 ∙ sym y.1)
first_same kind.Start b s rest rest' t u x y = (x.0 ∙ sym y.0, x.1 ∙ sym y.1)
first_same kind.End b s rest rest' t u x y = (x.0 ∙ sym y.0, x.1 ∙ sym y.1)
first_same kind.Bar b s rest rest' t u x y = (x.0 ∙ sym y.0, x.1 ∙ sym y.1)
first_same kind.Open b s rest rest' t u x y = (x.0 ∙ sym y.0, x.1 ∙ sym y.1)
first_same kind.Close b s rest rest' t u x y = (x.0 ∙ sym y.0, x.1 ∙ sym y.1)
first_same kind.Star b s rest rest' t u x y = (x.0 ∙ sym y.0, x.1 ∙ sym y.1)
first_same kind.Plus b s rest rest' t u x y = (x.0 ∙ sym y.0, x.1 ∙ sym y.1)
first_same kind.Maybe b s rest rest' t u x y = (x.0 ∙ sym y.0, x.1 ∙ sym y.1)
first_same kind.Backslash b s rest rest' t u x y =
    let same = same_byte x.0 y.0 rest rest' (sym x.1 ∙ y.1) in
    (same_set (λ k. k ≡ y.0) t u (subst (λ c. IsOneOf (λ k. k ≡ c) t) same.0 x.2) y.2, same.1)
first_same kind.Bracket b s rest rest' t u x y = bracketed_same s rest rest' t u x y
first_same kind.Brace b s rest rest' t u x y = braced_same (braced s) s rest rest' t u x y

token_same : (s rest rest' : List ℕ) (t u : Token) → IsToken s t rest → IsToken s u rest' → (t ≡ u) × (rest ≡ rest')
token_same [] rest rest' t u x y = absurd x
token_same (b ∷ s) rest rest' t u x y = first_same (kind_of b) b s rest rest' t u x y

pub tokens_same : (s : List ℕ) (ts us : List Token) → AreTokens s ts → AreTokens s us → ts ≡ us
tokens_same s [] [] x y = refl
tokens_same s [] (u ∷ us) x y = absurd (subst (λ l. IsToken l u y.0) x y.1)
tokens_same s (t ∷ ts) [] x y = absurd (subst (λ l. IsToken l t x.0) y x.1)
tokens_same s (t ∷ ts) (u ∷ us) x y =
    let same = token_same s x.0 y.0 t u x.1 y.1 in
    ap (λ k. k ∷ ts) same.0 ∙ ap (λ l. u ∷ l) (tokens_same y.0 ts us (subst (λ l. AreTokens l ts) same.1 x.2) y.2)

-- the tokens before here have been read
pub record Scanning (all : List ℕ) (before : List Token) (here : List ℕ) : Type 0 where
  pub forward : (ts : List Token) → AreTokens here ts → AreTokens all (before ++ ts)
  pub back : (ts : List Token) → AreTokens all ts → (us : List Token) × AreTokens here us

back_more : (here mid : List ℕ) (t : Token) (us : List Token) → IsToken here t mid → AreTokens here us → (vs : List Token) × AreTokens mid vs
back_more here mid t [] k h = absurd (subst (λ l. IsToken l t mid) h k)
back_more here mid t (u ∷ us) k h = let same = token_same here h.0 mid u t h.1 k in (us, subst (λ l. AreTokens l us) same.1 h.2)

pub scan_more : (all here mid : List ℕ) (before after : List Token) (t : Token) → Scanning all before here → IsToken here t mid → after ≡ before ++ t ∷ [] → Scanning all after mid
scan_more all here mid before after t s k e = record {
  forward = λ ts h. subst (λ l. AreTokens all l) (sym (ap (λ l. l ++ ts) e ∙ append_assoc before (t ∷ []) ts)) (s.forward (t ∷ ts) (mid, k, h));
  back = λ ts h. let b = s.back ts h in back_more here mid t b.0 k b.1;
}

pub scan_end : (all here : List ℕ) (before : List Token) → Scanning all before here → here ≡ [] → AreTokens all before
scan_end all here before s z = subst (λ l. AreTokens all l) (append-nil before) (s.forward [] z)

none_of : (here : List ℕ) (b : ℕ) (rest : List ℕ) → here ≡ b ∷ rest → ((t : Token) (mid : List ℕ) → IsToken here t mid → ⊥) → (us : List Token) → AreTokens here us → ⊥
none_of here b rest e n [] h = let z : [] ≡ b ∷ rest = sym h ∙ e in cc
none_of here b rest e n (u ∷ us) h = n u h.0 h.1

pub scan_none : (all : List ℕ) (b : ℕ) (here rest : List ℕ) (before : List Token) → Scanning all before here → here ≡ b ∷ rest → ((t : Token) (mid : List ℕ) → IsToken here t mid → ⊥) → (ts : List Token) → AreTokens all ts → ⊥
scan_none all b here rest before s e n ts h = none_of here b rest e n (s.back ts h).0 (s.back ts h).1
