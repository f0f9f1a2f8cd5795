-- What the parser reads is derived by the grammar.
use Rattle.std.proofs.Common.{◌≡◌, ◌≢◌, ◌<◌, ℕ, zero, suc, Bool, true, false, not, ◌||◌, cond, ◌==◌, ◌⊎◌, inl, inr, ⊎_elim, List, [], ◌∷◌, ◌++◌, Option, Some, None, Ok, refl, sym, ap, subst, ◌∙◌, append_assoc, append-nil, arith}
use Rattle.rawk_keywords.specs.declared.builtin.Builtin.{Builtin}
use Rattle.rawk_keywords.specs.declared.builtin.Builtin.TheVariants as fun
use Rattle.rawk_keywords.specs.declared.token.Kind.{Kind}
use Rattle.rawk_keywords.specs.declared.token.Kind.TheVariants as k
use Rattle.rawk_keywords.specs.Builtins.{builtin_named}
use Rattle.rawk_lexer.specs.Lex.{kind, next, spelling, left}
use Rattle.rawk_lexer.specs.Moves.{some_left}
use Rattle.rawk_expression.specs.declared.grammar.Wanted.{Wanted}
use Rattle.rawk_expression.specs.declared.grammar.Wanted.TheVariants as want
use Rattle.rawk_expression.specs.declared.operands.Enclosed.{Enclosed}
use Rattle.rawk_expression.specs.declared.operands.Enclosed.TheVariants as inside
use Rattle.rawk_expression.specs.declared.operands.Start.{Start}
use Rattle.rawk_expression.specs.declared.operands.Start.TheVariants as start
use Rattle.rawk_expression.specs.declared.junctions.Operand.{Operand}
use Rattle.rawk_parsing.specs.declared.tree.Operator.{Operator}
use Rattle.rawk_words.specs.declared.operator.Sign.{Sign}
use Rattle.rawk_parsing.specs.declared.tree.Change.{Change}
use Rattle.rawk_parsing.specs.declared.tree.Change.TheVariants as changes
use Rattle.rawk_parsing.specs.declared.tree.Assignment.{Assignment}
use Rattle.rawk_parsing.specs.declared.tree.Expr.{Expr}
use Rattle.rawk_parsing.specs.declared.tree.Expr.TheVariants as tree
use Rattle.rawk_parsing.specs.declared.tree.Link.{Link}
use Rattle.rawk_parsing.specs.declared.tree.Place.{Place}
use Rattle.rawk_parsing.specs.declared.tree.Place.TheVariants as spot
use Rattle.rawk_parsing.specs.Parser.{Input, Parser, and_then, ◌>>=◌, ◌>>◌, pure, expect, sees, after, newlines, name_at, bare_name, not_redirected}
use Rattle.rawk_parsing.specs.Parser as parser
use Rattle.rawk_parsing.specs.Tables as table
use Rattle.rawk_expression.specs.Expression as x
use Rattle.rawk_parsing.specs.Tokens.{Spells}
use Rattle.rawk_expression.specs.Grammar.{Whole, Test, Further, Member, Level, Links, Unary, Power, Postfix, Dollar, Primary, APlace, Arguments, Listed, PrintList, Derives, test, lone, joint, last, further, contains, operated, chain, no_more, joined, tight, unsigned, base, unchanged, bare, changed_after, named, dollar, of_place, number, text, ere, call, builtin, bare_length, getline, getline_to, one, several, print_list}
use Rattle.rawk_parsing.specs.Steps.{and_then_ok, cond_is, cond_ok, done, at_ok, not_ok, sees_kind, spells, eaten, kept, keeps, expect_ok, bare_name_ok, ere_ok, function_ok, number_ok, newlines_are}
use Rattle.rawk_expression.specs.Under.{Found, IsSound, ListedAs, Under, arguments_under, arrays_sound, assign_under, before_under, choice_under, dollar_before_under, element_under, field_under, group_under, joins_sound, list_sound, listed_in_under, neither, no_argument_under, not_redirected_ok, not_seen, one_under, print_group_under, raised_under, several_under, signed_under}

-- ---- rules

-- what an operand that has begun is
abbrev pub Head : ℕ → Option Expr → Input → Input → Type 0
Head d None i j = i ≡ j
Head d (Some e) i j = Derives d (Postfix e) i j

-- a list of two or more in parentheses
pub record Parens (d : ℕ) (es : List Expr) (i j : Input) : Type 0 where
  pub first : Expr
  pub second : Expr
  pub others : List Expr
  pub are : es ≡ first ∷ second ∷ others
  pub open_word : List ℕ
  pub close_word : List ℕ
  pub from : Input
  pub to : Input
  pub opens : Spells k.LeftParen open_word i from
  pub list : Under d (Listed false (first ∷ second ∷ others)) from to
  pub closes : Spells k.RightParen close_word to j

abbrev pub Inside : ℕ → Enclosed → Input → Input → Type 0
Inside d (inside.One e) i j = Derives d (Primary (tree.Group e)) i j
Inside d (inside.Several es) i j = Parens d es i j

abbrev pub Begins : ℕ → Start → Input → Input → Type 0
Begins d start.Nothing i j = i ≡ j
Begins d (start.Base e) i j = Derives d (Postfix e) i j
Begins d (start.Member e) i j = (p : Bool) → Derives d (Member p e) i j
Begins d (start.Assigns how y) i j = (m : Input) × (c : Kind) × (w : List ℕ) × Derives d (APlace y) i m × Spells c w m j × (table.assignment c ≡ Some how)

whole_found : (d : ℕ) (p : Bool) (e : Expr) (i j : Input) → Found d (x.whole_of p) e i j → Under d (Whole p e) i j
whole_found d true e i j h = h
whole_found d false e i j h = h

module _ (d : ℕ) (deeper : Wanted → Parser Expr) (sound : IsSound d deeper) where
  deeper_list_sound : (found : List Expr) (i : Input) (r : List Expr × Input) → x.list (deeper want.Whole) found i ≡ Ok r → ListedAs (λ es a b. Under d (Listed false es) a b) found i r.0 r.1
  deeper_list_sound = list_sound (deeper want.Whole) (λ e a b. Under d (Whole false e) a b) (λ es a b. Under d (Listed false es) a b) (sound want.Whole) (one_under d) (several_under d)

  whole_list_sound : (i : Input) (r : List Expr × Input) → x.list (deeper want.Whole) [] i ≡ Ok r → Under d (Listed false r.0) i r.1
  whole_list_sound i r h =
      let g = deeper_list_sound [] i r h in
      let same : g.0 ∷ g.1 ≡ r.0 = sym g.2 in
      subst (λ es. Under d (Listed false es) i r.1) same g.3

  named_sound : (i : Input) (r : Place × Input) → kind i ≡ k.Name → x.named_place d deeper i ≡ Ok r → Derives d (APlace r.0) i r.1
  unfolding x.named_place parser.name
  named_sound i r at h = go (sees k.LeftBracket (next i)) refl h
    where
      go : (b : Bool) → sees k.LeftBracket (next i) ≡ b → x.named d deeper b (name_at i) (after k.LeftBracket (next i)) ≡ Ok r → Derives d (APlace r.0) i r.1
      go true s h =
          let a = and_then_ok (x.list (deeper want.Whole) [] (after k.LeftBracket (next i))) _ r h in
          let b = and_then_ok (expect k.RightBracket a.0.1) _ r a.2 in
          at_ok (λ y j. Derives d (APlace y) i j) _ _ r (element_under d a.0.0 _ _ _ i _ _ _ _ (spells k.Name i at) (eaten k.LeftBracket (next i) s) (whole_list_sound _ a.0 a.1) (expect_ok k.RightBracket _ b.0 b.1)) b.2
      go false s h = at_ok (λ y j. Derives d (APlace y) i j) _ _ r (keeps (λ j. Derives d (APlace (spot.Name (name_at i))) i j) k.LeftBracket (next i) s (named (spells k.Name i at))) h

  place_by_sound : (i : Input) (r : Place × Input) (c : Kind) → kind i ≡ c → x.place_by d deeper c i ≡ Ok r → Derives d (APlace r.0) i r.1
  place_by_sound i r k.Name e h = named_sound i r e h
  place_by_sound i r k.Dollar e h =
      let a = and_then_ok (deeper want.Dollar (next i)) _ r h in
      at_ok (λ y j. Derives d (APlace y) i j) _ _ r (field_under d a.0.0 _ i _ _ (spells k.Dollar i e) (sound want.Dollar _ a.0 a.1)) a.2
  place_by_sound i r _ e h = not_ok _ r h

  pub place_sound : (i : Input) (r : Place × Input) → x.place d deeper i ≡ Ok r → Derives d (APlace r.0) i r.1
  unfolding x.place
  place_sound i r h = place_by_sound i r (kind i) refl h

  filled_sound : (v : List ℕ) (i j : Input) (r : List Expr × Input) → (d == 0) ≡ false → Spells k.LeftParen v i j → x.filled d deeper j ≡ Ok r → Derives d (Arguments r.0) i r.1
  unfolding x.filled
  filled_sound v i j r some s h =
      ⊎_elim
      (λ w. at_ok (λ y m. Derives d (Arguments y) i m) _ _ r (no_argument_under d v _ i j _ some s (eaten k.RightParen j w.0)) w.1)
      (λ w.
      let a = and_then_ok (x.list (deeper want.Whole) [] (after k.RightParen j)) _ r w.1 in
      let b = and_then_ok (expect k.RightParen a.0.1) _ r a.2 in
      let g = kept (λ m. Under d (Listed false a.0.0) m a.0.1) k.RightParen j w.0 (whole_list_sound _ a.0 a.1) in
      at_ok (λ y m. Derives d (Arguments y) i m) _ _ r (arguments_under d a.0.0 v _ i j _ _ s g (expect_ok k.RightParen _ b.0 b.1)) b.2)
      (cond_ok (sees k.RightParen j) _ _ (after k.RightParen j) (Ok r) h)

  arguments_sound : (i : Input) (r : List Expr × Input) → x.arguments d deeper i ≡ Ok r → Derives d (Arguments r.0) i r.1
  unfolding x.arguments
  arguments_sound i r h =
      let a = and_then_ok (expect k.LeftParen i) _ r h in
      ⊎_elim
      (λ w. not_ok _ r w.1)
      (λ w. filled_sound _ i a.0.1 r w.0 (expect_ok k.LeftParen i a.0 a.1) w.1)
      (cond_ok (d == 0) _ (x.filled d deeper) a.0.1 (Ok r) a.2)

  called_sound : (i : Input) (r : Expr × Input) → kind i ≡ k.FunctionName → x.called d deeper i ≡ Ok r → Derives d (Primary r.0) i r.1
  unfolding x.called parser.name
  called_sound i r at h =
      let a = and_then_ok (x.arguments d deeper (next i)) _ r h in
      at_ok (λ y j. Derives d (Primary y) i j) _ _ r (call (spells k.FunctionName i at) (arguments_sound _ a.0 a.1)) a.2

  -- the arguments of a function, or none behind a `length`
  abbrev pub Given : Builtin → List Expr → Input → Input → Type 0
  Given f es j l = Derives d (Arguments es) j l ⊎ ((f ≡ fun.Length) × (es ≡ []) × (j ≡ l) × (kind j ≢ k.LeftParen))

  arguments_of_sound : (f : Builtin) (i : Input) (r : List Expr × Input) → x.arguments_of d deeper f i ≡ Ok r → Given f r.0 i r.1
  arguments_of_sound fun.Length i r h =
      ⊎_elim
      (λ w. inl (arguments_sound i r w.1))
      (λ w. inr (at_ok (λ es j. (fun.Length ≡ fun.Length) × (es ≡ []) × (i ≡ j) × (kind i ≢ k.LeftParen)) [] i r (refl, refl, refl, not_seen k.LeftParen i w.0) w.1))
      (cond_is (sees k.LeftParen i) (x.arguments d deeper i) (Ok ([], i)) (Ok r) h)
  arguments_of_sound _ i r h = inl (arguments_sound i r h)

  given_builtin : (f : Builtin) (es : List Expr) (i l : Input) → kind i ≡ k.Builtin → builtin_named (spelling i) ≡ Some f → table.fits f es ≡ true → Given f es (next i) l → Derives d (Primary (tree.Builtin f es)) i l
  given_builtin f es i l at e t (inl h) = builtin (spells k.Builtin i at) e h t
  given_builtin f es i l at e t (inr h) =
      let here : Derives d (Primary (tree.Builtin fun.Length [])) i (next i) = bare_length (spells k.Builtin i at) (e ∙ ap Some h.0) h.3 in
      let there : Derives d (Primary (tree.Builtin fun.Length [])) i l = subst (λ m. Derives d (Primary (tree.Builtin fun.Length [])) i m) h.2 here in
      let listed : Derives d (Primary (tree.Builtin fun.Length es)) i l = subst (λ y. Derives d (Primary (tree.Builtin fun.Length y)) i l) (sym h.1) there in
      subst (λ g. Derives d (Primary (tree.Builtin g es)) i l) (sym h.0) listed

  builtin_sound : (i : Input) (r : Expr × Input) → kind i ≡ k.Builtin → x.builtin d deeper i ≡ Ok r → Derives d (Primary r.0) i r.1
  unfolding x.builtin
  builtin_sound i r at h =
      let f = and_then_ok (parser.function i) _ r h in
      let found = function_ok i f.0 f.1 in
      let a = and_then_ok (x.arguments_of d deeper f.0.0 f.0.1) _ r f.2 in
      let given = subst (λ m. Given f.0.0 a.0.0 m a.0.1) (sym found.1) (arguments_of_sound f.0.0 f.0.1 a.0 a.1) in
      ⊎_elim
      (λ w. at_ok (λ y j. Derives d (Primary y) i j) _ _ r (given_builtin f.0.0 a.0.0 i a.0.1 at found.0 w.0 given) w.1)
      (λ w. not_ok _ r w.1)
      (cond_ok (table.fits f.0.0 a.0.0) (pure (tree.Builtin f.0.0 a.0.0)) _ a.0.1 (Ok r) a.2)

  behind_getline : (c : Kind) (i : Input) (r : Unit {0} × Input) → kind i ≡ c → x.behind_getline_by c i ≡ Ok r → (table.change (kind i) ≡ None) × (kind i ≢ k.Less) × (i ≡ r.1)
  behind_getline k.Less i r e h = not_ok _ r h
  behind_getline k.Increment i r e h = not_ok _ r h
  behind_getline k.Decrement i r e h = not_ok _ r h
  behind_getline _ i r e h = at_ok (λ _ j. (table.change (kind i) ≡ None) × (kind i ≢ k.Less) × (i ≡ j)) tt i r (ap table.change e, (λ q. (let no = sym e ∙ q in cc)), refl) h

  getline_to_sound : (i j : Input) (r : Expr × Input) → Spells k.Getline (spelling i) i j → x.getline_to d deeper j ≡ Ok r → Derives d (Primary r.0) i r.1
  unfolding x.getline_to
  getline_to_sound i j r s h =
      let a = and_then_ok (x.place d deeper j) _ r h in
      let b = and_then_ok (x.behind_getline_by (kind a.0.1) a.0.1) _ r a.2 in
      let g = behind_getline (kind a.0.1) a.0.1 b.0 refl b.1 in
      at_ok (λ y m. Derives d (Primary y) i m) _ _ r (subst (λ m. Derives d (Primary (tree.GetlineTo a.0.0)) i m) g.2 (getline_to s (place_sound j a.0 a.1) g.0 g.1)) b.2

  getline_by_sound : (i : Input) (r : Expr × Input) (c : Kind) → kind i ≡ k.Getline → kind (next i) ≡ c → x.getline_by d deeper c (next i) ≡ Ok r → Derives d (Primary r.0) i r.1
  getline_by_sound i r k.Name at e h = getline_to_sound i (next i) r (spells k.Getline i at) h
  getline_by_sound i r k.Dollar at e h = getline_to_sound i (next i) r (spells k.Getline i at) h
  getline_by_sound i r k.Less at e h = not_ok _ r h
  getline_by_sound i r _ at e h =
      at_ok (λ y j. Derives d (Primary y) i j) _ _ r (getline (spells k.Getline i at) (ap table.begins_place e) (λ q. (let no = sym e ∙ q in cc))) h

  getline_sound : (i : Input) (r : Expr × Input) → kind i ≡ k.Getline → x.getline d deeper i ≡ Ok r → Derives d (Primary r.0) i r.1
  unfolding x.getline
  getline_sound i r at h = getline_by_sound i r (kind (next i)) at refl h

  ere_sound : (i : Input) (r : Expr × Input) → (kind i ≡ k.Slash) ⊎ (kind i ≡ k.SlashAssign) → x.ere_constant i ≡ Ok r → Derives d (Primary r.0) i r.1
  unfolding x.ere_constant
  ere_sound i r at h =
      let a = and_then_ok (parser.ere i) _ r h in
      at_ok (λ y j. Derives d (Primary y) i j) _ _ r (ere (ere_ok i a.0 at a.1)) a.2

  group_sound : (i : Input) (r : Expr × Input) → kind i ≡ k.LeftParen → x.group d deeper i ≡ Ok r → Derives d (Primary r.0) i r.1
  unfolding x.group
  group_sound i r at h =
      let a = and_then_ok (deeper want.Whole (next i)) _ r h in
      let b = and_then_ok (expect k.RightParen a.0.1) _ r a.2 in
      at_ok (λ y j. Derives d (Primary y) i j) _ _ r (group_under d a.0.0 _ _ i _ _ _ (spells k.LeftParen i at) (sound want.Whole _ a.0 a.1) (expect_ok k.RightParen _ b.0 b.1)) b.2

  of_place_sound : (i : Input) (r : Expr × Input) → (x.place d deeper >>= (λ p. pure (tree.Of p))) i ≡ Ok r → Derives d (Primary r.0) i r.1
  of_place_sound i r h =
      let a = and_then_ok (x.place d deeper i) _ r h in
      at_ok (λ y j. Derives d (Primary y) i j) _ _ r (of_place (place_sound i a.0 a.1)) a.2

  primary_by_sound : (i : Input) (r : Expr × Input) (c : Kind) → kind i ≡ c → x.primary_by d deeper c i ≡ Ok r → Derives d (Primary r.0) i r.1
  unfolding parser.text
  primary_by_sound i r k.Number e h =
      let a = and_then_ok (parser.number i) _ r h in
      let b = number_ok i a.0 a.1 in
      at_ok (λ y j. Derives d (Primary y) i j) _ _ r (subst (λ m. Derives d (Primary (tree.Number a.0.0)) i m) b.1 (number (spells k.Number i e) b.0)) a.2
  primary_by_sound i r k.Text e h = at_ok (λ y j. Derives d (Primary y) i j) _ _ r (text (spells k.Text i e)) h
  primary_by_sound i r k.Slash e h = ere_sound i r (inl e) h
  primary_by_sound i r k.SlashAssign e h = ere_sound i r (inr e) h
  primary_by_sound i r k.LeftParen e h = group_sound i r e h
  primary_by_sound i r k.FunctionName e h = called_sound i r e h
  primary_by_sound i r k.Getline e h = getline_sound i r e h
  primary_by_sound i r k.Builtin e h = builtin_sound i r e h
  primary_by_sound i r _ e h = of_place_sound i r h

  primary_sound : (i : Input) (r : Expr × Input) → x.primary d deeper i ≡ Ok r → Derives d (Primary r.0) i r.1
  unfolding x.primary
  primary_sound i r h = primary_by_sound i r (kind i) refl h

  dollar_by_sound : (i : Input) (r : Expr × Input) (c : Kind) → kind i ≡ c → x.dollar_by d deeper c i ≡ Ok r → Derives d (Dollar r.0) i r.1
  dollar_by_sound i r k.Increment e h =
      let g = sound (want.Before changes.Increment) (next i) r h in
      subst (λ y. Derives d (Dollar y) i r.1) (sym g.1) (dollar_before_under d k.Increment _ changes.Increment g.0 i _ _ (spells k.Increment i e) refl g.2)
  dollar_by_sound i r k.Decrement e h =
      let g = sound (want.Before changes.Decrement) (next i) r h in
      subst (λ y. Derives d (Dollar y) i r.1) (sym g.1) (dollar_before_under d k.Decrement _ changes.Decrement g.0 i _ _ (spells k.Decrement i e) refl g.2)
  dollar_by_sound i r k.Getline e h = not_ok _ r h
  dollar_by_sound i r _ e h = dollar (λ q. (let no = sym e ∙ q in cc)) (primary_sound i r h)

  dollar_sound : (i : Input) (r : Expr × Input) → x.dollar d deeper i ≡ Ok r → Derives d (Dollar r.0) i r.1
  unfolding x.dollar
  dollar_sound i r h = dollar_by_sound i r (kind i) refl h

  changed_sound : (y : Place) (i j : Input) (r : Expr × Input) → Derives d (APlace y) i j → x.changed y j ≡ Ok r → Derives d (Postfix r.0) i r.1
  unfolding x.changed
  changed_sound y i j r g h = go (table.change (kind j)) refl h
    where
      go : (o : Option Change) → table.change (kind j) ≡ o → x.changed_by y o j ≡ Ok r → Derives d (Postfix r.0) i r.1
      go None e h = at_ok (λ z m. Derives d (Postfix z) i m) _ _ r (bare g e) h
      go (Some c) e h = at_ok (λ z m. Derives d (Postfix z) i m) _ _ r (changed_after g (spells (kind j) j refl) e) h

  postfix_by_sound : (i : Input) (r : Expr × Input) (c : Kind) → kind i ≡ c → x.postfix_by d deeper c i ≡ Ok r → Derives d (Postfix r.0) i r.1
  postfix_by_sound i r k.Increment e h =
      let g = sound (want.Before changes.Increment) (next i) r h in
      subst (λ y. Derives d (Postfix y) i r.1) (sym g.1) (before_under d k.Increment _ changes.Increment g.0 i _ _ (spells k.Increment i e) refl g.2)
  postfix_by_sound i r k.Decrement e h =
      let g = sound (want.Before changes.Decrement) (next i) r h in
      subst (λ y. Derives d (Postfix y) i r.1) (sym g.1) (before_under d k.Decrement _ changes.Decrement g.0 i _ _ (spells k.Decrement i e) refl g.2)
  postfix_by_sound i r k.Name e h = let a = and_then_ok (x.place d deeper i) _ r h in changed_sound a.0.0 i a.0.1 r (place_sound i a.0 a.1) a.2
  postfix_by_sound i r k.Dollar e h = let a = and_then_ok (x.place d deeper i) _ r h in changed_sound a.0.0 i a.0.1 r (place_sound i a.0 a.1) a.2
  postfix_by_sound i r _ e h = unchanged (ap table.begins_place e) (primary_sound i r h)

  postfix_sound : (i : Input) (r : Expr × Input) → x.postfix d deeper i ≡ Ok r → Derives d (Postfix r.0) i r.1
  unfolding x.postfix
  postfix_sound i r h = postfix_by_sound i r (kind i) refl h

  raised_sound : (e : Expr) (i j : Input) (r : Expr × Input) → Derives d (Postfix e) i j → x.raised d deeper e j ≡ Ok r → Derives d (Power r.0) i r.1
  unfolding x.raised
  raised_sound e i j r g h =
      ⊎_elim
      (λ w.
      let b = and_then_ok (deeper want.Unary (after k.Caret j)) _ r w.1 in
      at_ok (λ y m. Derives d (Power y) i m) _ _ r (raised_under d e b.0.0 _ i _ _ _ g (eaten k.Caret j w.0) (sound want.Unary _ b.0 b.1)) b.2)
      (λ w. at_ok (λ y m. Derives d (Power y) i m) _ _ r (keeps (λ m. Derives d (Power e) i m) k.Caret j w.0 (base g)) w.1)
      (cond_ok (sees k.Caret j) _ _ (after k.Caret j) (Ok r) h)

  unary_by_sound : (i : Input) (r : Expr × Input) (o : Option Sign) → table.sign (kind i) ≡ o → x.unary_by d deeper o i ≡ Ok r → Derives d (Unary r.0) i r.1
  unary_by_sound i r None e h =
      let a = and_then_ok (x.postfix d deeper i) _ r h in
      unsigned (raised_sound a.0.0 i a.0.1 r (postfix_sound i a.0 a.1) a.2)
  unary_by_sound i r (Some s) e h =
      let a = and_then_ok (deeper want.Unary (next i)) _ r h in
      at_ok (λ y j. Derives d (Unary y) i j) _ _ r (signed_under d (kind i) _ s a.0.0 i _ _ (spells (kind i) i refl) e (sound want.Unary _ a.0 a.1)) a.2

  unary_sound : (h : Option Expr) (i j : Input) (r : Expr × Input) → Head d h i j → x.unary d deeper h j ≡ Ok r → Derives d (Unary r.0) i r.1
  unary_sound None i j r g h = subst (λ m. Derives d (Unary r.0) m r.1) (sym g) (unary_by_sound j r (table.sign (kind j)) refl h)
  unary_sound (Some e) i j r g h = unsigned (raised_sound e i j r g h)

  links_from_sound : (p : Bool) (m : ℕ) (operand : Parser Expr) → ((i : Input) (r : Expr × Input) → operand i ≡ Ok r → Derives d (Level p m r.0) i r.1) → (n : ℕ) (found : List Link) (i : Input) (r : List Link × Input)
      → x.links_from p (suc m) operand n found i ≡ Ok r → (xs : List Link) × (r.0 ≡ found ++ xs) × Derives d (Links p (suc m) xs) i r.1
  unfolding x.links_from
  links_from_sound p m operand good zero found i r h = at_ok (λ y j. (xs : List Link) × (y ≡ found ++ xs) × Derives d (Links p (suc m) xs) i j) _ _ r ([], sym (append-nil found), no_more) h
  links_from_sound p m operand good (suc n) found i r h = go (table.joins p (suc m) (kind i)) refl (λ f j. links_from_sound p m operand good n f j r) h
    where
      go : (q : Option Operator) → table.joins p (suc m) (kind i) ≡ q
          → ((f : List Link) (j : Input) → x.links_from p (suc m) operand n f j ≡ Ok r → (xs : List Link) × (r.0 ≡ f ++ xs) × Derives d (Links p (suc m) xs) j r.1)
          → x.linked (suc m) operand (x.links_from p (suc m) operand n) found q i ≡ Ok r → (xs : List Link) × (r.0 ≡ found ++ xs) × Derives d (Links p (suc m) xs) i r.1
      go None e rest h = at_ok (λ y j. (xs : List Link) × (y ≡ found ++ xs) × Derives d (Links p (suc m) xs) i j) _ _ r ([], sym (append-nil found), no_more) h
      go (Some o) e rest h =
          let a = and_then_ok (operand (x.past (table.is_concat o) i)) _ r h in
          let it = x.link o a.0.0 in
          let g = good _ a.0 a.1 in
          let s = joins_sound p (suc m) i o e in
          ⊎_elim
          (λ w. at_ok (λ y j. (xs : List Link) × (y ≡ found ++ xs) × Derives d (Links p (suc m) xs) i j) _ _ r (it ∷ [], refl, joined s g no_more (λ _. refl)) w.1)
          (λ w. let t = rest (found ++ it ∷ []) a.0.1 w.1 in
          (it ∷ t.0, t.1 ∙ append_assoc found (it ∷ []) t.0, joined s g t.2 (λ alone. (let no : true ≡ false = sym alone ∙ w.0 in cc))))
          (cond_ok (table.is_alone (suc m)) _ _ a.0.1 (Ok r) a.2)

  level_sound : (p : Bool) (n : ℕ) (h : Option Expr) (i j : Input) (r : Expr × Input) → Head d h i j → x.level d deeper p h n j ≡ Ok r → Derives d (Level p n r.0) i r.1
  unfolding x.level x.links
  level_sound p zero head i j r g h = tight (unary_sound head i j r g h)
  level_sound p (suc n) head i j r g h =
      let a = and_then_ok (x.level d deeper p head n j) _ r h in
      let b = and_then_ok (x.links p (suc n) (x.level d deeper p None n) a.0.1) _ r a.2 in
      let l = links_from_sound p n (x.level d deeper p None n) (λ m q e. level_sound p n None m m q refl e) (left a.0.1) [] a.0.1 b.0 b.1 in
      let same : l.0 ≡ b.0.0 = sym l.1 in
      at_ok (λ y m. Derives d (Level p (suc n) y) i m) _ _ r (chain (level_sound p n head i j a.0 g a.1) (subst (λ xs. Derives d (Links p (suc n) xs) a.0.1 b.0.1) same l.2)) b.2

  -- ---- the begin of an operand

  enclosed_sound : (i : Input) (r : Enclosed × Input) → kind i ≡ k.LeftParen → x.enclosed d deeper i ≡ Ok r → Inside d r.0 i r.1
  unfolding x.enclosed x.several
  enclosed_sound i r at h =
      let a = and_then_ok (deeper want.Whole (next i)) _ r h in
      go a.0.0 a.0.1 (sound want.Whole _ a.0 a.1) (sees k.Comma a.0.1) refl a.2
    where
      go : (e : Expr) (j : Input) → Under d (Whole false e) (next i) j → (b : Bool) → sees k.Comma j ≡ b → x.enclosed_by d deeper e b (after k.Comma j) ≡ Ok r → Inside d r.0 i r.1
      go e j g true s h =
          let a = and_then_ok (x.list (deeper want.Whole) (e ∷ []) (newlines (after k.Comma j))) _ r h in
          let b = and_then_ok (expect k.RightParen a.0.1) _ r a.2 in
          let l = deeper_list_sound (e ∷ []) _ a.0 a.1 in
          let all = several_under d e (l.0 ∷ l.1) _ (next i) j _ _ a.0.1 g (eaten k.Comma j s) (newlines_are (after k.Comma j)) l.3 in
          let parens : Parens d a.0.0 i b.0.1 = record { first = e; second = l.0; others = l.1; are = l.2; open_word = spelling i; close_word = spelling a.0.1; from = next i; to = a.0.1; opens = spells k.LeftParen i at; list = all; closes = expect_ok k.RightParen a.0.1 b.0 b.1 } in
          at_ok (λ y m. Inside d y i m) (inside.Several a.0.0) b.0.1 r parens b.2
      go e j g false s h =
          let b = and_then_ok (expect k.RightParen (after k.Comma j)) _ r h in
          let t = kept (λ m. Spells k.RightParen (spelling (after k.Comma j)) m b.0.1) k.Comma j s (expect_ok k.RightParen (after k.Comma j) b.0 b.1) in
          at_ok (λ y m. Inside d y i m) (inside.One e) b.0.1 r (group_under d e _ _ i _ j _ (spells k.LeftParen i at) g t) b.2

  opened_sound : (en : Enclosed) (i j : Input) (r : Start × Input) → kind i ≡ k.LeftParen → Inside d en i j → x.opened en j ≡ Ok r → Begins d r.0 i r.1
  opened_sound (inside.One e) i j r at g h = at_ok (λ y m. Begins d y i m) (start.Base (tree.Group e)) j r (unchanged (ap table.begins_place at) g) h
  opened_sound (inside.Several es) i j r at g h =
      let a = and_then_ok (expect k.In j) _ r h in
      let b = and_then_ok (bare_name a.0.1) _ r a.2 in
      let n = bare_name_ok a.0.1 b.0 b.1 in
      let here : (p : Bool) → Derives d (Member p (tree.ListIn es b.0.0)) i b.0.1 = λ p. (
      let l : Derives d (Member p (tree.ListIn (g.first ∷ g.second ∷ g.others) (name_at a.0.1))) i b.0.1 = listed_in_under d p g.first g.second g.others _ _ _ _ i _ _ j _ _ g.opens g.list g.closes (expect_ok k.In j a.0 a.1) n.1 in
      let m : Derives d (Member p (tree.ListIn es (name_at a.0.1))) i b.0.1 = subst (λ y. Derives d (Member p (tree.ListIn y (name_at a.0.1))) i b.0.1) (sym g.are) l in
      subst (λ y. Derives d (Member p (tree.ListIn es y)) i b.0.1) (sym n.0) m) in
      at_ok (λ y m. Begins d y i m) (start.Member (tree.ListIn es b.0.0)) b.0.1 r here b.2

  settable_sound : (y : Place) (i j : Input) (r : Start × Input) → Derives d (APlace y) i j → x.settable y j ≡ Ok r → Begins d r.0 i r.1
  unfolding x.settable
  settable_sound y i j r g h = go (table.assignment (kind j)) refl h
    where
      go : (o : Option Assignment) → table.assignment (kind j) ≡ o → x.settable_by y o j ≡ Ok r → Begins d r.0 i r.1
      go None e h =
          let a = and_then_ok (x.changed y j) _ r h in
          at_ok (λ z m. Begins d z i m) (start.Base a.0.0) a.0.1 r (changed_sound y i j a.0 g a.1) a.2
      go (Some how) e h = at_ok (λ z m. Begins d z i m) (start.Assigns how y) (next j) r (j, kind j, spelling j, g, spells (kind j) j refl, e) h

  opening_by_sound : (i : Input) (r : Start × Input) (c : Kind) → kind i ≡ c → x.opening_by d deeper c i ≡ Ok r → Begins d r.0 i r.1
  opening_by_sound i r k.LeftParen e h =
      let a = and_then_ok (x.enclosed d deeper i) _ r h in
      opened_sound a.0.0 i a.0.1 r e (enclosed_sound i a.0 e a.1) a.2
  opening_by_sound i r k.Name e h = let a = and_then_ok (x.place d deeper i) _ r h in settable_sound a.0.0 i a.0.1 r (place_sound i a.0 a.1) a.2
  opening_by_sound i r k.Dollar e h = let a = and_then_ok (x.place d deeper i) _ r h in settable_sound a.0.0 i a.0.1 r (place_sound i a.0 a.1) a.2
  opening_by_sound i r _ e h = at_ok (λ y m. Begins d y i m) start.Nothing i r refl h

  opening_sound : (i : Input) (r : Start × Input) → x.opening d deeper i ≡ Ok r → Begins d r.0 i r.1
  unfolding x.opening
  opening_sound i r h = opening_by_sound i r (kind i) refl h

  -- ---- from `in` up

  member_sound : (p : Bool) (e : Expr) (i j : Input) (r : Operand × Input) → Derives d (Member p e) i j → x.member e j ≡ Ok r → Derives d (Test p r.0.is_open 0 r.0.tree) i r.1
  unfolding x.member
  member_sound p e i j r g h =
      let a = and_then_ok (x.arrays j) _ r h in
      at_ok (λ o m. Derives d (Test p o.is_open 0 o.tree) i m) (x.closed (x.contained e a.0.0)) a.0.1 r (contains g (arrays_sound j a.0 a.1)) a.2

  operand_sound : (p : Bool) (s : Start) (i j : Input) (r : Operand × Input) → Begins d s i j → x.operand d deeper p s j ≡ Ok r → Derives d (Test p r.0.is_open 0 r.0.tree) i r.1
  operand_sound p start.Nothing i j r g h =
      let a = and_then_ok (x.level d deeper p None 5 j) _ r h in
      member_sound p a.0.0 i a.0.1 r (operated (level_sound p 5 None i j a.0 g a.1)) a.2
  operand_sound p (start.Base e) i j r g h =
      let a = and_then_ok (x.level d deeper p (Some e) 5 j) _ r h in
      member_sound p a.0.0 i a.0.1 r (operated (level_sound p 5 (Some e) i j a.0 g a.1)) a.2
  operand_sound p (start.Member e) i j r g h = member_sound p e i j r (g p) h
  operand_sound p (start.Assigns how y) i j r g h =
      let a = and_then_ok (deeper (x.whole_of p) j) _ r h in
      let v = whole_found d p a.0.0 j a.0.1 (sound (x.whole_of p) j a.0 a.1) in
      at_ok (λ o m. Derives d (Test p o.is_open 0 o.tree) i m) (x.open_ended (tree.Assign how y a.0.0)) a.0.1 r (assign_under d p g.1 how y a.0.0 g.2 i g.0 j _ g.3 g.4 g.5 v) a.2

  -- the further operands, or none
  abbrev pub Tail : Bool → ℕ → List Expr → Input → Operand → Input → Type 0
  Tail p n found i o j =
      ((o ≡ x.closed (tree.Logic (table.logic (suc n)) found)) × (i ≡ j))
      ⊎ ((f : Expr) × (es : List Expr) × (o.tree ≡ tree.Logic (table.logic (suc n)) (found ++ f ∷ es)) × Derives d (Further p o.is_open n (f ∷ es)) i j)

  module _ (p : Bool) (n : ℕ) (operand : Parser Operand) (good : (i : Input) (r : Operand × Input) → operand i ≡ Ok r → Derives d (Test p r.0.is_open n r.0.tree) i r.1) where
    -- one more operand, and what is behind it
    turn_sound : (found : List Expr) (more : List Expr → Parser Operand) (i : Input) (r : Operand × Input) → sees (table.mark (suc n)) i ≡ true
        → ((f : List Expr) (j : Input) → more f j ≡ Ok r → Tail p n f j r.0 r.1)
        → and_then (operand (newlines (after (table.mark (suc n)) i))) (x.tested (suc n) more found) ≡ Ok r
        → (f : Expr) × (es : List Expr) × (r.0.tree ≡ tree.Logic (table.logic (suc n)) (found ++ f ∷ es)) × Derives d (Further p r.0.is_open n (f ∷ es)) i r.1
    turn_sound found more i r s rest h =
        let a = and_then_ok (operand (newlines (after (table.mark (suc n)) i))) _ r h in
        go a.0.0 a.0.1 (good _ a.0 a.1) (cond_ok a.0.0.is_open (pure (x.open_ended (tree.Logic (table.logic (suc n)) (found ++ a.0.0.tree ∷ [])))) (more (found ++ a.0.0.tree ∷ [])) a.0.1 (Ok r) a.2)
      where
        at : Spells (table.mark (suc n)) (spelling i) i (after (table.mark (suc n)) i)
        at = eaten (table.mark (suc n)) i s

        Answer : Operand → Input → Type 0
        Answer o j = (f : Expr) × (es : List Expr) × (o.tree ≡ tree.Logic (table.logic (suc n)) (found ++ f ∷ es)) × Derives d (Further p o.is_open n (f ∷ es)) i j

        behind : (o : Operand) (j : Input) → Derives d (Test p false n o.tree) (newlines (after (table.mark (suc n)) i)) j → Tail p n (found ++ o.tree ∷ []) j r.0 r.1
            → (f : Expr) × (es : List Expr) × (r.0.tree ≡ tree.Logic (table.logic (suc n)) (found ++ f ∷ es)) × Derives d (Further p r.0.is_open n (f ∷ es)) i r.1
        behind o j g (inl w) =
            let same : x.closed (tree.Logic (table.logic (suc n)) (found ++ o.tree ∷ [])) ≡ r.0 = sym w.0 in
            let here : Derives d (Further p false n (o.tree ∷ [])) i r.1 = subst (λ m. Derives d (Further p false n (o.tree ∷ [])) i m) w.1 (last at (newlines_are (after (table.mark (suc n)) i)) g) in
            subst (λ q. (f : Expr) × (es : List Expr) × (q.tree ≡ tree.Logic (table.logic (suc n)) (found ++ f ∷ es)) × Derives d (Further p q.is_open n (f ∷ es)) i r.1) same (o.tree, [], refl, here)
        behind o j g (inr w) =
            (o.tree, w.0 ∷ w.1, w.2 ∙ ap (λ es. tree.Logic (table.logic (suc n)) es) (append_assoc found (o.tree ∷ []) (w.0 ∷ w.1)), further at (newlines_are (after (table.mark (suc n)) i)) g w.3)

        go : (o : Operand) (j : Input) → Derives d (Test p o.is_open n o.tree) (newlines (after (table.mark (suc n)) i)) j
            → ((o.is_open ≡ true) × (pure (x.open_ended (tree.Logic (table.logic (suc n)) (found ++ o.tree ∷ []))) j ≡ Ok r)) ⊎ ((o.is_open ≡ false) × (more (found ++ o.tree ∷ []) j ≡ Ok r))
            → (f : Expr) × (es : List Expr) × (r.0.tree ≡ tree.Logic (table.logic (suc n)) (found ++ f ∷ es)) × Derives d (Further p r.0.is_open n (f ∷ es)) i r.1
        go o j g (inl w) =
            let ended : Derives d (Test p true n o.tree) (newlines (after (table.mark (suc n)) i)) j = subst (λ b. Derives d (Test p b n o.tree) (newlines (after (table.mark (suc n)) i)) j) w.0 g in
            at_ok (λ q m. (f : Expr) × (es : List Expr) × (q.tree ≡ tree.Logic (table.logic (suc n)) (found ++ f ∷ es)) × Derives d (Further p q.is_open n (f ∷ es)) i m) _ j r (o.tree, [], refl, last at (newlines_are (after (table.mark (suc n)) i)) ended) w.1
        go o j g (inr w) =
            behind o j (subst (λ b. Derives d (Test p b n o.tree) (newlines (after (table.mark (suc n)) i)) j) w.0 g) (rest (found ++ o.tree ∷ []) j w.1)

    tail_sound : (m : ℕ) (found : List Expr) (i : Input) (r : Operand × Input) → x.further_from (suc n) operand m found i ≡ Ok r → Tail p n found i r.0 r.1
    unfolding x.further_from
    tail_sound zero found i r h = at_ok (λ o j. Tail p n found i o j) _ i r (inl (refl, refl)) h
    tail_sound (suc m) found i r h =
        ⊎_elim
        (λ w. inr (turn_sound found (x.further_from (suc n) operand m) i r w.0 (λ f j. tail_sound m f j r) w.1))
        (λ w. at_ok (λ o j. Tail p n found i o j) _ _ r (inl (refl, sym (keeps (λ j. j ≡ i) (table.mark (suc n)) i w.0 refl))) w.1)
        (cond_ok (sees (table.mark (suc n)) i) (λ j. and_then (operand (newlines j)) (x.tested (suc n) (x.further_from (suc n) operand m) found)) (pure (x.closed (tree.Logic (table.logic (suc n)) found))) (after (table.mark (suc n)) i) (Ok r) h)

    mark_goes_on : (b : Bool) → cond b k.And k.Or ≢ k.EndOfText
    mark_goes_on true = λ q. cc
    mark_goes_on false = λ q. cc

    further_sound : (e : Expr) (i : Input) (r : Operand × Input) → sees (table.mark (suc n)) i ≡ true → x.further (suc n) operand e i ≡ Ok r
        → (f : Expr) × (es : List Expr) × (r.0.tree ≡ tree.Logic (table.logic (suc n)) (e ∷ f ∷ es)) × Derives d (Further p r.0.is_open n (f ∷ es)) i r.1
    unfolding x.further x.further_from
    further_sound e i r s h = go (left i) (some_left i (λ q. mark_goes_on (suc n == 1) (sym (sees_kind (table.mark (suc n)) i s) ∙ q))) h
      where
        go : (m : ℕ) → 0 < m → x.further_from (suc n) operand m (e ∷ []) i ≡ Ok r
            → (f : Expr) × (es : List Expr) × (r.0.tree ≡ tree.Logic (table.logic (suc n)) (e ∷ f ∷ es)) × Derives d (Further p r.0.is_open n (f ∷ es)) i r.1
        go zero some h = absurd (omega arith)
        go (suc m) some h =
            turn_sound (e ∷ []) (x.further_from (suc n) operand m) i r s (λ f j. tail_sound m f j r)
            (sym (ap (λ b. cond b (λ j. and_then (operand (newlines j)) (x.tested (suc n) (x.further_from (suc n) operand m) (e ∷ []))) (pure (x.closed (tree.Logic (table.logic (suc n)) (e ∷ [])))) (after (table.mark (suc n)) i)) s) ∙ h)

  begun_sound : (p : Bool) (n : ℕ) → ((s : Start) (i j : Input) (r : Operand × Input) → Begins d s i j → x.junction d deeper p n s j ≡ Ok r → Derives d (Test p r.0.is_open n r.0.tree) i r.1)
      → (i : Input) (r : Operand × Input) → x.begun d deeper (x.junction d deeper p n) i ≡ Ok r → Derives d (Test p r.0.is_open n r.0.tree) i r.1
  begun_sound p n rest i r h = let a = and_then_ok (x.opening d deeper i) _ r h in rest a.0.0 i a.0.1 r (opening_sound i a.0 a.1) a.2

  junction_sound : (p : Bool) (n : ℕ) (s : Start) (i j : Input) (r : Operand × Input) → Begins d s i j → x.junction d deeper p n s j ≡ Ok r → Derives d (Test p r.0.is_open n r.0.tree) i r.1
  unfolding x.junction x.joined
  junction_sound p zero s i j r g h = operand_sound p s i j r g h
  junction_sound p (suc n) s i j r g h =
      let a = and_then_ok (x.junction d deeper p n s j) _ r h in
      go a.0.0 a.0.1 (junction_sound p n s i j a.0 g a.1) (λ l q e. begun_sound p n (λ s i j r. junction_sound p n s i j r) l q e) (cond_is (a.0.0.is_open || not (sees (table.mark (suc n)) a.0.1)) (Ok a.0) (x.further (suc n) (x.begun d deeper (x.junction d deeper p n)) a.0.0.tree a.0.1) (Ok r) a.2)
    where
      go : (o : Operand) (m : Input) → Derives d (Test p o.is_open n o.tree) i m
          → ((i : Input) (r : Operand × Input) → x.begun d deeper (x.junction d deeper p n) i ≡ Ok r → Derives d (Test p r.0.is_open n r.0.tree) i r.1)
          → (((o.is_open || not (sees (table.mark (suc n)) m)) ≡ true) × (done o m ≡ Ok r)) ⊎ (((o.is_open || not (sees (table.mark (suc n)) m)) ≡ false) × (x.further (suc n) (x.begun d deeper (x.junction d deeper p n)) o.tree m ≡ Ok r))
          → Derives d (Test p r.0.is_open (suc n) r.0.tree) i r.1
      go o m g operands (inl w) = at_ok (λ q l. Derives d (Test p q.is_open (suc n) q.tree) i l) o m r (lone g) w.1
      go o m g operands (inr w) =
          let b = neither o.is_open (sees (table.mark (suc n)) m) w.0 in
          let f = further_sound p n (x.begun d deeper (x.junction d deeper p n)) operands o.tree m r b.1 w.1 in
          let first : Derives d (Test p false n o.tree) i m = subst (λ q. Derives d (Test p q n o.tree) i m) b.0 g in
          subst (λ e. Derives d (Test p r.0.is_open (suc n) e) i r.1) (sym f.2) (joint first f.3)

  chosen_sound : (p : Bool) (o : Operand) (i j : Input) (r : Expr × Input) → Derives d (Test p o.is_open 2 o.tree) i j → x.chosen d deeper p o j ≡ Ok r → Derives d (Whole p r.0) i r.1
  unfolding x.chosen x.choice
  chosen_sound p o i j r g h =
      ⊎_elim
      (λ w. at_ok (λ y m. Derives d (Whole p y) i m) o.tree j r (test g) w.1)
      (λ w.
      let t = neither o.is_open (sees k.Question j) w.0 in
      let a = and_then_ok (deeper (x.whole_of p) (next j)) _ r w.1 in
      let b = and_then_ok (expect k.Colon a.0.1) _ r a.2 in
      let c = and_then_ok (deeper (x.whole_of p) b.0.1) _ r b.2 in
      let first : Derives d (Test p false 2 o.tree) i j = subst (λ q. Derives d (Test p q 2 o.tree) i j) t.0 g in
      at_ok (λ y m. Derives d (Whole p y) i m) (tree.Choice o.tree a.0.0 c.0.0) c.0.1 r
      (choice_under d p o.tree a.0.0 c.0.0 _ _ i j _ _ _ _ first (spells k.Question j (sees_kind k.Question j t.1)) (whole_found d p a.0.0 _ _ (sound (x.whole_of p) _ a.0 a.1)) (expect_ok k.Colon _ b.0 b.1) (whole_found d p c.0.0 _ _ (sound (x.whole_of p) _ c.0 c.1)))
      c.2)
      (cond_is (o.is_open || not (sees k.Question j)) (Ok (o.tree, j)) (x.choice d deeper p o.tree (next j)) (Ok r) h)

  finished_sound : (p : Bool) (s : Start) (i j : Input) (r : Expr × Input) → Begins d s i j → x.finished d deeper p s j ≡ Ok r → Derives d (Whole p r.0) i r.1
  unfolding x.finished
  finished_sound p s i j r g h =
      let a = and_then_ok (x.junction d deeper p 2 s j) _ r h in
      let b = and_then_ok (x.chosen d deeper p a.0.0 a.0.1) _ r a.2 in
      let c = and_then_ok (not_redirected p b.0.1) _ r b.2 in
      let e = chosen_sound p a.0.0 i a.0.1 b.0 (junction_sound p 2 s i j a.0 g a.1) b.1 in
      at_ok (λ y m. Derives d (Whole p y) i m) b.0.0 c.0.1 r (subst (λ m. Derives d (Whole p b.0.0) i m) (not_redirected_ok p b.0.1 c.0 c.1) e) c.2

  pub whole_sound : (p : Bool) (i : Input) (r : Expr × Input) → x.whole d deeper p i ≡ Ok r → Derives d (Whole p r.0) i r.1
  unfolding x.whole
  whole_sound p i r h =
      let a = and_then_ok (x.opening d deeper i) _ r h in
      finished_sound p a.0.0 i a.0.1 r (opening_sound i a.0 a.1) a.2

  by_sound : (w : Wanted) (i : Input) (r : Expr × Input) → x.by d deeper w i ≡ Ok r → Found (suc d) w r.0 i r.1
  by_sound want.Whole i r h = whole_sound false i r h
  by_sound want.Printed i r h = whole_sound true i r h
  by_sound want.Unary i r h = unary_sound None i i r refl h
  by_sound want.Dollar i r h = dollar_sound i r h
  by_sound (want.Before c) i r h =
      let a = and_then_ok (x.place d deeper i) _ r h in
      at_ok (λ e j. (y : Place) × (e ≡ tree.Before c y) × Derives d (APlace y) i j) (tree.Before c a.0.0) a.0.1 r (a.0.0, refl, place_sound i a.0 a.1) a.2

  -- ---- the list of a print

  printed_rest_sound : (e : Expr) (i j : Input) (r : List Expr × Input) → Derives d (Whole true e) i j → x.printed_rest d deeper e j ≡ Ok r → Derives d (PrintList r.0) i r.1
  unfolding x.printed_rest
  printed_rest_sound e i j r g h =
      ⊎_elim
      (λ w.
      let l = list_sound (x.whole d deeper true) (λ y a b. Derives d (Whole true y) a b) (λ es a b. Derives d (Listed true es) a b) (whole_sound true) (λ y a b t. one t) (λ y es v a b c m n t s u q. several t s u q) (e ∷ []) (newlines (after k.Comma j)) r w.1 in
      let all : Derives d (Listed true (e ∷ l.0 ∷ l.1)) i r.1 = several g (eaten k.Comma j w.0) (newlines_are (after k.Comma j)) l.3 in
      subst (λ es. Derives d (PrintList es) i r.1) (sym l.2) (print_list all))
      (λ w. at_ok (λ es m. Derives d (PrintList es) i m) (e ∷ []) _ r (keeps (λ m. Derives d (PrintList (e ∷ [])) i m) k.Comma j w.0 (print_list (one g))) w.1)
      (cond_ok (sees k.Comma j) _ (pure (e ∷ [])) (after k.Comma j) (Ok r) h)

  printed_from_sound : (s : Start) (i j : Input) (r : List Expr × Input) → Begins d s i j → x.printed_from d deeper s j ≡ Ok r → Derives d (PrintList r.0) i r.1
  unfolding x.printed_from
  printed_from_sound s i j r g h =
      let a = and_then_ok (x.finished d deeper true s j) _ r h in
      printed_rest_sound a.0.0 i a.0.1 r (finished_sound true s i j a.0 g a.1) a.2

  printed_several_sound : (es : List Expr) (i j : Input) (r : List Expr × Input) → kind i ≡ k.LeftParen → Parens d es i j → x.printed_several d deeper es j ≡ Ok r → Derives d (PrintList r.0) i r.1
  unfolding x.printed_several
  printed_several_sound es i j r at g h =
      ⊎_elim
      (λ w.
      let a = and_then_ok (x.opened (inside.Several es) j) _ r w.1 in
      printed_from_sound a.0.0 i a.0.1 r (opened_sound (inside.Several es) i j a.0 at g a.1) a.2)
      (λ w.
      let a = and_then_ok (not_redirected true j) _ r w.1 in
      let here : Derives d (PrintList (g.first ∷ g.second ∷ g.others)) i j = print_group_under d g.first g.second g.others _ _ i _ _ j g.opens g.list g.closes in
      let listed : Derives d (PrintList es) i j = subst (λ y. Derives d (PrintList y) i j) (sym g.are) here in
      at_ok (λ y m. Derives d (PrintList y) i m) es a.0.1 r (subst (λ m. Derives d (PrintList es) i m) (not_redirected_ok true j a.0 a.1) listed) a.2)
      (cond_is (sees k.In j) (and_then (x.opened (inside.Several es) j) (x.printed_from d deeper)) (and_then (not_redirected true j) (λ _. pure es)) (Ok r) h)

  print_list_by_sound : (i : Input) (r : List Expr × Input) (c : Kind) → kind i ≡ c → x.print_list_by d deeper c i ≡ Ok r → Derives d (PrintList r.0) i r.1
  print_list_by_sound i r k.LeftParen e h =
      let a = and_then_ok (x.enclosed d deeper i) _ r h in
      go a.0.0 a.0.1 (enclosed_sound i a.0 e a.1) a.2
    where
      go : (en : Enclosed) (j : Input) → Inside d en i j → x.printed_opened d deeper en j ≡ Ok r → Derives d (PrintList r.0) i r.1
      go (inside.One y) j g h = printed_from_sound (start.Base (tree.Group y)) i j r (unchanged (ap table.begins_place e) g) h
      go (inside.Several es) j g h = printed_several_sound es i j r e g h
  print_list_by_sound i r k.Greater e h = not_ok _ r h
  print_list_by_sound i r _ e h = let a = and_then_ok (x.opening d deeper i) _ r h in printed_from_sound a.0.0 i a.0.1 r (opening_sound i a.0 a.1) a.2

  pub print_list_sound : (i : Input) (r : List Expr × Input) → x.print_list d deeper i ≡ Ok r → Derives d (PrintList r.0) i r.1
  unfolding x.print_list
  print_list_sound i r h = print_list_by_sound i r (kind i) refl h

-- what is read at a depth stands one construct below it
pub expression_sound : (d : ℕ) → IsSound d (x.expression d)
unfolding x.expression
expression_sound zero w i r h = not_ok _ r h
expression_sound (suc d) w i r h = by_sound d (x.expression d) (expression_sound d) w i r h

pub whole_derived : (d : ℕ) (p : Bool) (i : Input) (r : Expr × Input) → x.expression (suc d) (x.whole_of p) i ≡ Ok r → Derives d (Whole p r.0) i r.1
whole_derived d p i r h = whole_found (suc d) p r.0 i r.1 (expression_sound (suc d) (x.whole_of p) i r h)

pub place_derived : (d : ℕ) (i : Input) (r : Place × Input) → x.lone_place (suc d) i ≡ Ok r → Derives d (APlace r.0) i r.1
unfolding x.lone_place
place_derived d i r h = place_sound d (x.expression d) (expression_sound d) i r h

pub printed_derived : (d : ℕ) (i : Input) (r : List Expr × Input) → x.printed (suc d) i ≡ Ok r → Derives d (PrintList r.0) i r.1
unfolding x.printed
printed_derived d i r h = print_list_sound d (x.expression d) (expression_sound d) i r h
