-- Rules that open a construct, operators and lists, as the parser finds them.
use Rattle.std.proofs.Common.{◌≡◌, ◌≢◌, ℕ, zero, suc, Bool, true, false, not, ◌&&◌, ◌||◌, cond, ◌==◌, ◌⊎◌, inl, inr, ⊎_elim, List, [], ◌∷◌, ◌++◌, Option, Some, None, Ok, refl, sym, ap, subst, ◌∙◌, append_assoc, append-nil, rules}
use denote.Enum.Bare.{true_same}
use Rattle.rawk_keywords.specs.contracts.token.Kind.{the_type}
use Rattle.rawk_keywords.specs.declared.token.Kind.{Kind}
use Rattle.rawk_keywords.specs.declared.token.Kind.TheVariants as k
use Rattle.rawk_lexer.specs.Lex.{kind, next, left}
use Rattle.rawk_expression.specs.declared.grammar.Wanted.{Wanted}
use Rattle.rawk_expression.specs.declared.grammar.Wanted.TheVariants as want
use Rattle.rawk_parsing.specs.declared.tree.Operator.{Operator}
use Rattle.rawk_parsing.specs.declared.tree.Operator.TheVariants as op
use Rattle.rawk_words.specs.declared.operator.Sign.{Sign}
use Rattle.rawk_parsing.specs.declared.tree.Change.{Change}
use Rattle.rawk_parsing.specs.declared.tree.Assignment.{Assignment}
use Rattle.rawk_parsing.specs.declared.tree.Name.{Name}
use Rattle.rawk_parsing.specs.declared.tree.Expr.{Expr}
use Rattle.rawk_parsing.specs.declared.tree.Expr.TheVariants as tree
use Rattle.rawk_parsing.specs.declared.tree.Place.{Place}
use Rattle.rawk_parsing.specs.declared.tree.Place.TheVariants as spot
use Rattle.rawk_parsing.specs.Parser.{Input, Parser, pure, sees, after, newlines, name_at, bare_name, not_redirected}
use Rattle.rawk_parsing.specs.Parser as parser
use Rattle.rawk_parsing.specs.Tables as table
use Rattle.rawk_expression.specs.Expression as x
use Rattle.rawk_parsing.specs.Tokens.{Spells, Newlines, Arrays, no_array, array}
use Rattle.rawk_expression.specs.Grammar.{Joins, symbol, beside, Phrase, Whole, Test, Member, Unary, Power, Postfix, Dollar, Primary, APlace, Arguments, Listed, PrintList, Derives, choice, assign, listed_in, signed, raised, changed_before, element, field, dollar_before, group, no_argument, some_arguments, one, several, print_group}
use Rattle.rawk_parsing.specs.Steps.{and_then_ok, cond_is, cond_ok, at_ok, not_ok, spells, eaten, keeps, bare_name_ok, newlines_are}

-- the same phrase, one construct deeper
abbrev pub Under : ℕ → Phrase → Input → Input → Type 0
Under zero f i j = ⊥
Under (suc d) f i j = Derives d f i j

-- what the parser finds one construct deeper
abbrev pub Found : ℕ → Wanted → Expr → Input → Input → Type 0
Found d want.Whole e i j = Under d (Whole false e) i j
Found d want.Printed e i j = Under d (Whole true e) i j
Found d want.Unary e i j = Under d (Unary e) i j
Found d want.Dollar e i j = Under d (Dollar e) i j
Found d (want.Before c) e i j = (y : Place) × (e ≡ tree.Before c y) × Under d (APlace y) i j

abbrev pub IsSound : ℕ → (Wanted → Parser Expr) → Type 0
IsSound d deeper = (w : Wanted) (i : Input) (r : Expr × Input) → deeper w i ≡ Ok r → Found d w r.0 i r.1

-- ---- the rules that open a construct

pub group_under : (d : ℕ) (e : Expr) (v w : List ℕ) (i j l m : Input) → Spells k.LeftParen v i j → Under d (Whole false e) j l → Spells k.RightParen w l m → Derives d (Primary (tree.Group e)) i m
group_under zero e v w i j l m a h b = absurd h
group_under (suc d) e v w i j l m a h b = group a h b

pub field_under : (d : ℕ) (e : Expr) (w : List ℕ) (i j l : Input) → Spells k.Dollar w i j → Under d (Dollar e) j l → Derives d (APlace (spot.Field e)) i l
field_under zero e w i j l a h = absurd h
field_under (suc d) e w i j l a h = field a h

pub element_under : (d : ℕ) (es : List Expr) (v w y : List ℕ) (i j l m n : Input) → Spells k.Name v i j → Spells k.LeftBracket w j l → Under d (Listed false es) l m → Spells k.RightBracket y m n → Derives d (APlace (spot.Element (name_at i) es)) i n
element_under zero es v w y i j l m n a b h c = absurd h
element_under (suc d) es v w y i j l m n a b h c = element a b h c

pub arguments_under : (d : ℕ) (es : List Expr) (v w : List ℕ) (i j l m : Input) → Spells k.LeftParen v i j → Under d (Listed false es) j l → Spells k.RightParen w l m → Derives d (Arguments es) i m
arguments_under zero es v w i j l m a h b = absurd h
arguments_under (suc d) es v w i j l m a h b = some_arguments a h b

pub no_argument_under : (d : ℕ) (v w : List ℕ) (i j l : Input) → (d == 0) ≡ false → Spells k.LeftParen v i j → Spells k.RightParen w j l → Derives d (Arguments []) i l
no_argument_under zero v w i j l h a b = cc
no_argument_under (suc d) v w i j l h a b = no_argument a b

pub one_under : (d : ℕ) (e : Expr) (i j : Input) → Under d (Whole false e) i j → Under d (Listed false (e ∷ [])) i j
one_under zero e i j h = h
one_under (suc d) e i j h = one h

pub several_under : (d : ℕ) (e : Expr) (es : List Expr) (w : List ℕ) (i j l m n : Input) → Under d (Whole false e) i j → Spells k.Comma w j l → Newlines l m → Under d (Listed false es) m n → Under d (Listed false (e ∷ es)) i n
several_under zero e es w i j l m n h a b g = h
several_under (suc d) e es w i j l m n h a b g = several h a b g

pub raised_under : (d : ℕ) (e f : Expr) (w : List ℕ) (i j l m : Input) → Derives d (Postfix e) i j → Spells k.Caret w j l → Under d (Unary f) l m → Derives d (Power (tree.Power e f)) i m
raised_under zero e f w i j l m a b h = absurd h
raised_under (suc d) e f w i j l m a b h = raised a b h

pub signed_under : (d : ℕ) (c : Kind) (w : List ℕ) (s : Sign) (e : Expr) (i j l : Input) → Spells c w i j → table.sign c ≡ Some s → Under d (Unary e) j l → Derives d (Unary (tree.Signed s e)) i l
signed_under zero c w s e i j l a b h = absurd h
signed_under (suc d) c w s e i j l a b h = signed a b h

pub before_under : (d : ℕ) (c : Kind) (w : List ℕ) (how : Change) (y : Place) (i j l : Input) → Spells c w i j → table.change c ≡ Some how → Under d (APlace y) j l → Derives d (Postfix (tree.Before how y)) i l
before_under zero c w how y i j l a b h = absurd h
before_under (suc d) c w how y i j l a b h = changed_before a b h

pub dollar_before_under : (d : ℕ) (c : Kind) (w : List ℕ) (how : Change) (y : Place) (i j l : Input) → Spells c w i j → table.change c ≡ Some how → Under d (APlace y) j l → Derives d (Dollar (tree.Before how y)) i l
dollar_before_under zero c w how y i j l a b h = absurd h
dollar_before_under (suc d) c w how y i j l a b h = dollar_before a b h

pub assign_under : (d : ℕ) (p : Bool) (c : Kind) (how : Assignment) (y : Place) (e : Expr) (w : List ℕ) (i j l m : Input)
    → Derives d (APlace y) i j → Spells c w j l → table.assignment c ≡ Some how → Under d (Whole p e) l m → Derives d (Test p true 0 (tree.Assign how y e)) i m
assign_under zero p c how y e w i j l m g a b h = absurd h
assign_under (suc d) p c how y e w i j l m g a b h = assign g a b h

pub choice_under : (d : ℕ) (p : Bool) (e f g : Expr) (v w : List ℕ) (i j l m n o : Input)
    → Derives d (Test p false 2 e) i j → Spells k.Question v j l → Under d (Whole p f) l m → Spells k.Colon w m n → Under d (Whole p g) n o → Derives d (Whole p (tree.Choice e f g)) i o
choice_under zero p e f g v w i j l m n o a b h c r = absurd h
choice_under (suc d) p e f g v w i j l m n o a b h c r = choice a b h c r

pub listed_in_under : (d : ℕ) (p : Bool) (e f : Expr) (es : List Expr) (u v w y : List ℕ) (i j l m n o : Input)
    → Spells k.LeftParen u i j → Under d (Listed false (e ∷ f ∷ es)) j l → Spells k.RightParen v l m → Spells k.In w m n → Spells k.Name y n o
    → Derives d (Member p (tree.ListIn (e ∷ f ∷ es) (name_at n))) i o
listed_in_under zero p e f es u v w y i j l m n o a h b c g = absurd h
listed_in_under (suc d) p e f es u v w y i j l m n o a h b c g = listed_in a h b c g

pub print_group_under : (d : ℕ) (e f : Expr) (es : List Expr) (v w : List ℕ) (i j l m : Input)
    → Spells k.LeftParen v i j → Under d (Listed false (e ∷ f ∷ es)) j l → Spells k.RightParen w l m → Derives d (PrintList (e ∷ f ∷ es)) i m
print_group_under zero e f es v w i j l m a h b = absurd h
print_group_under (suc d) e f es v w i j l m a h b = print_group a h b

-- ---- operators

pub eq_from : (m n : ℕ) → (m == n) ≡ true → m ≡ n
eq_from m n h = search (rules, h)

pub both : (a b : Bool) → (a && b) ≡ true → (a ≡ true) × (b ≡ true)
both true true h = (refl, refl)
both true false h = cc
both false b h = cc

pub neither : (a b : Bool) → (a || not b) ≡ false → (a ≡ false) × (b ≡ true)
neither true b h = cc
neither false true h = (refl, refl)
neither false false h = cc

pub no_concat : (c : Kind) → table.operator c ≡ Some op.Concat → ⊥
no_concat k.Star h = cc
no_concat k.Slash h = cc
no_concat k.Percent h = cc
no_concat k.Plus h = cc
no_concat k.Minus h = cc
no_concat k.Less h = cc
no_concat k.LessEqual h = cc
no_concat k.Equal h = cc
no_concat k.NotEqual h = cc
no_concat k.Greater h = cc
no_concat k.GreaterEqual h = cc
no_concat k.Tilde h = cc
no_concat k.NotMatch h = cc
no_concat _ h = cc

-- the text behind a symbol
pub past_symbol : (o : Operator) (i : Input) → (o ≡ op.Concat → ⊥) → x.past (table.is_concat o) i ≡ next i
past_symbol op.Concat i h = absurd (h refl)
past_symbol _ i h = refl

pub not_greater : (p : Bool) (o : Operator) → not (p && table.is_greater o) ≡ true → p ≡ true → table.is_greater o ≡ false
not_greater p o h e = go p (table.is_greater o) h e
  where
    go : (p b : Bool) → not (p && b) ≡ true → p ≡ true → b ≡ false
    go true true h e = cc
    go true false h e = refl
    go false b h e = cc

pub of_level_sound : (p : Bool) (l : ℕ) (i : Input) (o : Operator) (q : Option Operator) → table.operator (kind i) ≡ q → table.of_level p l q ≡ Some o → Joins p l o i (x.past (table.is_concat o) i)
of_level_sound p l i o None e h = cc
of_level_sound p l i o (Some a) e h = go (cond_is ((table.binds a == l) && not (p && table.is_greater a)) (Some a) None (Some o) h)
  where
    go : ((((table.binds a == l) && not (p && table.is_greater a)) ≡ true) × (Some a ≡ Some o)) ⊎ ((((table.binds a == l) && not (p && table.is_greater a)) ≡ false) × (None ≡ Some o)) → Joins p l o i (x.past (table.is_concat o) i)
    go (inl w) =
        let same : a ≡ o = cc in
        let t = both (table.binds a == l) (not (p && table.is_greater a)) w.0 in
        let here : table.operator (kind i) ≡ Some o = e ∙ ap Some same in
        let not_empty : o ≡ op.Concat → ⊥ = λ q. no_concat (kind i) (here ∙ ap Some q) in
        let calm : p ≡ true → table.is_greater o ≡ false = λ q. subst (λ b. table.is_greater b ≡ false) same (not_greater p a t.1 q) in
        let at : table.binds o ≡ l = ap table.binds (sym same) ∙ eq_from (table.binds a) l t.0 in
        subst (λ n. Joins p n o i (x.past (table.is_concat o) i)) at (symbol (record { is_kind = refl; is_word = refl; is_next = sym (past_symbol o i not_empty) }) here calm)
    go (inr w) = let no : None ≡ Some o = w.1 in cc

pub concat_sound : (p : Bool) (l : ℕ) (i : Input) (o : Operator) → l ≡ 3 → cond (table.begins_joined (kind i)) (Some op.Concat) None ≡ Some o → Joins p l o i (x.past (table.is_concat o) i)
concat_sound p l i o at h = go (cond_is (table.begins_joined (kind i)) (Some op.Concat) None (Some o) h)
  where
    go : ((table.begins_joined (kind i) ≡ true) × (Some op.Concat ≡ Some o)) ⊎ ((table.begins_joined (kind i) ≡ false) × (None ≡ Some o)) → Joins p l o i (x.past (table.is_concat o) i)
    go (inl w) =
        let same : op.Concat ≡ o = cc in
        let here : Joins p 3 op.Concat i i = beside (spells (kind i) i refl) w.0 in
        subst (λ a. Joins p l a i (x.past (table.is_concat a) i)) same (subst (λ n. Joins p n op.Concat i i) (sym at) here)
    go (inr w) = let no : None ≡ Some o = w.1 in cc

pub joins_sound : (p : Bool) (l : ℕ) (i : Input) (o : Operator) → table.joins p l (kind i) ≡ Some o → Joins p l o i (x.past (table.is_concat o) i)
unfolding table.joins
joins_sound p l i o h =
    ⊎_elim
    (λ w. concat_sound p l i o (eq_from l 3 w.0) w.1)
    (λ w. of_level_sound p l i o (table.operator (kind i)) refl w.1)
    (cond_is (l == 3) (cond (table.begins_joined (kind i)) (Some op.Concat) None) (table.of_level p l (table.operator (kind i))) (Some o) h)

pub not_seen : (c : Kind) (i : Input) → sees c i ≡ false → kind i ≢ c
unfolding sees parser.same_kind
not_seen c i h e = let s : sees c i ≡ true = true_same the_type (kind i) c e in cc

pub not_redirected_ok : (p : Bool) (i : Input) (r : Unit {0} × Input) → not_redirected p i ≡ Ok r → i ≡ r.1
unfolding not_redirected
not_redirected_ok p i r h =
    ⊎_elim
    (λ w. not_ok _ r w.1)
    (λ w. at_ok (λ _ j. i ≡ j) tt i r refl w.1)
    (cond_is (p && sees k.Greater i) _ (Ok (tt, i)) (Ok r) h)

-- ---- lists

abbrev pub ListedAs : (List Expr → Input → Input → Type 0) → List Expr → Input → List Expr → Input → Type 0
ListedAs Q found i all j = (e : Expr) × (es : List Expr) × (all ≡ found ++ e ∷ es) × Q (e ∷ es) i j

module _ (item : Parser Expr) (P : Expr → Input → Input → Type 0) (Q : List Expr → Input → Input → Type 0)
    (good : (i : Input) (r : Expr × Input) → item i ≡ Ok r → P r.0 i r.1)
    (alone : (e : Expr) (i j : Input) → P e i j → Q (e ∷ []) i j)
    (more : (e : Expr) (es : List Expr) (w : List ℕ) (i j l m n : Input) → P e i j → Spells k.Comma w j l → Newlines l m → Q es m n → Q (e ∷ es) i n) where
  pub list_from_sound : (n : ℕ) (found : List Expr) (i : Input) (r : List Expr × Input) → x.list_from item n found i ≡ Ok r → ListedAs Q found i r.0 r.1
  unfolding x.list_from
  list_from_sound zero found i r h = not_ok _ r h
  list_from_sound (suc n) found i r h =
      let a = and_then_ok (item i) _ r h in
      go a.0.0 a.0.1 (good i a.0 a.1) (list_from_sound n (found ++ a.0.0 ∷ []) (newlines (after k.Comma a.0.1)) r) (cond_ok (sees k.Comma a.0.1) (λ m. x.list_from item n (found ++ a.0.0 ∷ []) (newlines m)) (pure (found ++ a.0.0 ∷ [])) (after k.Comma a.0.1) (Ok r) a.2)
    where
      go : (e : Expr) (j : Input) → P e i j
          → (x.list_from item n (found ++ e ∷ []) (newlines (after k.Comma j)) ≡ Ok r → ListedAs Q (found ++ e ∷ []) (newlines (after k.Comma j)) r.0 r.1)
          → ((sees k.Comma j ≡ true) × (x.list_from item n (found ++ e ∷ []) (newlines (after k.Comma j)) ≡ Ok r)) ⊎ ((sees k.Comma j ≡ false) × (pure (found ++ e ∷ []) (after k.Comma j) ≡ Ok r))
          → ListedAs Q found i r.0 r.1
      go e j first rest (inl w) =
          let g = rest w.1 in
          (e, g.0 ∷ g.1, g.2 ∙ append_assoc found (e ∷ []) (g.0 ∷ g.1), more e (g.0 ∷ g.1) _ i j _ _ r.1 first (eaten k.Comma j w.0) (newlines_are (after k.Comma j)) g.3)
      go e j first rest (inr w) =
          at_ok (λ y m. ListedAs Q found i y m) _ _ r (e, [], refl, keeps (λ m. Q (e ∷ []) i m) k.Comma j w.0 (alone e i j first)) w.1

  pub list_sound : (found : List Expr) (i : Input) (r : List Expr × Input) → x.list item found i ≡ Ok r → ListedAs Q found i r.0 r.1
  unfolding x.list
  list_sound found i r h = list_from_sound (left i) found i r h

pub arrays_from_sound : (n : ℕ) (found : List Name) (i : Input) (r : List Name × Input) → x.arrays_from n found i ≡ Ok r → (ns : List Name) × (r.0 ≡ found ++ ns) × Arrays ns i r.1
unfolding x.arrays_from
arrays_from_sound zero found i r h = at_ok (λ y j. (ns : List Name) × (y ≡ found ++ ns) × Arrays ns i j) _ _ r ([], sym (append-nil found), no_array) h
arrays_from_sound (suc n) found i r h =
    ⊎_elim
    (λ w.
    let a = and_then_ok (bare_name (after k.In i)) _ r w.1 in
    let b = bare_name_ok (after k.In i) a.0 a.1 in
    let g = arrays_from_sound n (found ++ a.0.0 ∷ []) a.0.1 r a.2 in
    (name_at (after k.In i) ∷ g.0, g.1 ∙ append_assoc found (a.0.0 ∷ []) g.0 ∙ ap (λ m. found ++ m ∷ g.0) b.0, array (eaten k.In i w.0) b.1 g.2))
    (λ w. at_ok (λ y j. (ns : List Name) × (y ≡ found ++ ns) × Arrays ns i j) _ _ r ([], sym (append-nil found), keeps (λ j. Arrays [] i j) k.In i w.0 no_array) w.1)
    (cond_ok (sees k.In i) _ (pure found) (after k.In i) (Ok r) h)

pub arrays_sound : (i : Input) (r : List Name × Input) → x.arrays i ≡ Ok r → Arrays r.0 i r.1
unfolding x.arrays
arrays_sound i r h = let g = arrays_from_sound (left i) [] i r h in let same : g.0 ≡ r.0 = sym g.1 in subst (λ ns. Arrays ns i r.1) same g.2
