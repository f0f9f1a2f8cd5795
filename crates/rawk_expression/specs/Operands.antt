-- How the parser reads operands.
use Rattle.std.proofs.Common.{◌≡◌, ◌≢◌, ℕ, suc, ℤ, Bool, true, false, cond, ◌==◌, ◌⊎◌, inl, inr, List, [], ◌∷◌, Option, Some, None, Ok, Err, refl, sym, ap, subst, ◌∙◌, rules}
use Rattle.std.proofs.lemmas.Bool.{false_from_ne_true}
use Rattle.rawk_keywords.specs.declared.builtin.Builtin.{Builtin}
use Rattle.rawk_keywords.specs.declared.builtin.Builtin.TheVariants as fun
use Rattle.rawk_keywords.specs.declared.token.Kind.{Kind}
use Rattle.rawk_keywords.specs.declared.token.Kind.TheVariants as k
use Rattle.rawk_keywords.specs.Builtins.{builtin_named, takes}
use Rattle.rawk_lexer.specs.Lex.{kind, next, left, ere_len, ere_spelling, past_ere}
use Rattle.rawk_lexer.specs.Escape.{unescaped_of, unquoted}
use Rattle.rawk_parsing.specs.declared.refusal.RefusalKind.TheVariants as refused
use Rattle.rawk_parsing.specs.declared.parse_error.ParseError.TheVariants.{Here}
use Rattle.rawk_expression.specs.declared.grammar.Wanted.TheVariants as want
use Rattle.rawk_expression.specs.declared.operands.Enclosed.TheVariants as inside
use Rattle.rawk_expression.specs.declared.operands.Start.{Start}
use Rattle.rawk_expression.specs.declared.operands.Start.TheVariants as start
use Rattle.rawk_parsing.specs.declared.tree.Change.{Change}
use Rattle.rawk_parsing.specs.declared.tree.Change.TheVariants as changes
use Rattle.rawk_parsing.specs.declared.tree.Assignment.{Assignment}
use Rattle.rawk_parsing.specs.declared.tree.Expr.{Expr}
use Rattle.rawk_parsing.specs.declared.tree.Expr.TheVariants as tree
use Rattle.rawk_parsing.specs.declared.tree.Place.{Place}
use Rattle.rawk_parsing.specs.declared.tree.Place.TheVariants as spot
use Rattle.rawk_parsing.specs.Constant.{constant}
use Rattle.rawk_parsing.specs.Parser.{Input, Outcome, and_then, ◌>>=◌, ◌>>◌, pure, too_deep, peek, eat, expect, after, newlines, name_at}
use Rattle.rawk_parsing.specs.Parser as parser
use Rattle.rawk_parsing.specs.Tables as table
use Rattle.rawk_expression.specs.Expression as x
use Rattle.rawk_parsing.specs.Tokens.{Spells, SpellsEre}
use Rattle.rawk_parsing.specs.Steps.{done}
use Rattle.rawk_expression.specs.Follow.{after_is, after_not, by_kind, change_assignment, eats, expect_is, leaves, not_seen, place_starts, seen, starts, starts_sign, then_ok, eq_from}
use Rattle.rawk_expression.specs.Upward.{start_of, unary_postfix}

-- ---- operands

-- how the begin of an operand is read, and what goes on behind it
pub record Opens (d : ℕ) (e : Expr) (i j : Input) : Type 0 where
  pub head : Option Expr
  pub at : Input
  pub opens : x.opening d (x.expression d) i ≡ Ok (start_of head, at)
  pub goes : x.unary d (x.expression d) head at ≡ x.raised d (x.expression d) e j

-- how an operand is read with the `++` or `--` behind it, by what stands behind both
pub record ReadsPostfix (d : ℕ) (e : Expr) (i j : Input) : Type 0 where
  pub no_sign : table.sign (kind i) ≡ None
  pub as_right : kind j ≢ k.LeftBracket → x.postfix d (x.expression d) i ≡ Ok (e, j)
  pub as_first : kind j ≢ k.LeftBracket → table.assignment (kind j) ≡ None → Opens d e i j

-- what begins a constant, a place, a group or a call
abbrev pub starts_primary : Kind → Bool
starts_primary k.Getline = true
starts_primary c = starts c

-- how one of these is read; a place has the `++` or `--` behind it
pub record Reads (d : ℕ) (e : Expr) (i j : Input) : Type 0 where
  pub begins_so : starts_primary (kind i) ≡ true
  pub as_primary : kind j ≢ k.LeftBracket → x.primary d (x.expression d) i ≡ Ok (e, j)
  pub as_postfix : table.begins_place (kind i) ≡ false → ReadsPostfix d e i j

starts_both : (c : Kind) → starts c ≡ true → starts_primary c ≡ true
starts_both k.Getline h = refl
starts_both _ h = h

primary_sign : (c : Kind) → starts_primary c ≡ true → table.sign c ≡ None
primary_sign k.Getline h = refl
primary_sign _ h = cc

pub opens_nothing : (d : ℕ) (c : Kind) (i : Input) → kind i ≡ c → x.opening_by d (x.expression d) c ≡ pure start.Nothing → x.opening d (x.expression d) i ≡ Ok (start.Nothing, i)
unfolding x.opening
opens_nothing d c i at h = by_kind (x.opening_by d (x.expression d)) c i at ∙ ap (λ p. p i) h

token_reads : (d : ℕ) (c : Kind) (e : Expr) (i j : Input) → kind i ≡ c → starts_primary c ≡ true → x.postfix_by d (x.expression d) c ≡ x.primary d (x.expression d) → x.opening_by d (x.expression d) c ≡ pure start.Nothing
    → (kind j ≢ k.LeftBracket → x.primary d (x.expression d) i ≡ Ok (e, j)) → Reads d e i j
unfolding x.postfix
token_reads d c e i j at s same nothing h =
    let reads : kind j ≢ k.LeftBracket → x.postfix d (x.expression d) i ≡ Ok (e, j) = λ ne. by_kind (x.postfix_by d (x.expression d)) c i at ∙ ap (λ p. p i) same ∙ h ne in
    let no_sign : table.sign (kind i) ≡ None = ap table.sign at ∙ primary_sign c s in
    record {
      begins_so = ap starts_primary at ∙ s;
      as_primary = h;
      as_postfix = λ _. record {
        no_sign = no_sign;
        as_right = reads;
        as_first = λ ne _. record { head = None; at = i; opens = opens_nothing d c i at nothing; goes = unary_postfix d (x.expression d) e i j no_sign (reads ne) };
      };
    }

number_read : (n : ℤ) (w : List ℕ) (i j : Input) → Spells k.Number w i j → constant w ≡ Some n → parser.number i ≡ Ok (n, j)
unfolding parser.number
number_read n w i j s e = ap (λ o. parser.number_from o i) (ap constant s.is_word ∙ e) ∙ ap (λ m. done n m) s.is_next

number_is : (d : ℕ) (n : ℤ) (w : List ℕ) (i j : Input) → Spells k.Number w i j → constant w ≡ Some n → x.primary d (x.expression d) i ≡ Ok (tree.Number n, j)
unfolding x.primary
number_is d n w i j s e = by_kind (x.primary_by d (x.expression d)) k.Number i s.is_kind ∙ then_ok (parser.number i) (λ m. pure (tree.Number m)) n j (number_read n w i j s e)

pub number_reads : (d : ℕ) (n : ℤ) (w : List ℕ) (i j : Input) → Spells k.Number w i j → constant w ≡ Some n → Reads d (tree.Number n) i j
number_reads d n w i j s e = token_reads d k.Number (tree.Number n) i j s.is_kind refl refl refl (λ _. number_is d n w i j s e)

text_is : (d : ℕ) (w : List ℕ) (i j : Input) → Spells k.Text w i j → x.primary d (x.expression d) i ≡ Ok (tree.Text (unescaped_of (unquoted w)), j)
unfolding x.primary parser.text
text_is d w i j s =
    by_kind (x.primary_by d (x.expression d)) k.Text i s.is_kind
    ∙ ap (λ v. done (tree.Text (unescaped_of (unquoted v))) (next i)) s.is_word ∙ ap (λ m. done (tree.Text (unescaped_of (unquoted w))) m) s.is_next

pub text_reads : (d : ℕ) (w : List ℕ) (i j : Input) → Spells k.Text w i j → Reads d (tree.Text (unescaped_of (unquoted w))) i j
text_reads d w i j s = token_reads d k.Text (tree.Text (unescaped_of (unquoted w))) i j s.is_kind refl refl refl (λ _. text_is d w i j s)

abbrev unended : Input → Outcome (List ℕ)
unended i = Err (Here refused.Unterminated (left i))

ere_read : (w : List ℕ) (i j : Input) → SpellsEre w i j → parser.ere i ≡ Ok (w, j)
unfolding parser.ere
ere_read w i j s =
    let some : (ere_len i == 0) ≡ false = false_from_ne_true (ere_len i == 0) (λ e. s.ends (eq_from (ere_len i) 0 e)) in
    ap (λ b. cond b (unended i) (done (unquoted (ere_spelling i)) (past_ere i))) some ∙ ap (λ v. done v (past_ere i)) s.is_word ∙ ap (λ m. done w m) s.is_next

ere_is : (d : ℕ) (w : List ℕ) (i j : Input) → SpellsEre w i j → x.ere_constant i ≡ Ok (tree.Ere (left i) w, j)
unfolding x.ere_constant
ere_is d w i j s = then_ok (parser.ere i) (λ v. pure (tree.Ere (left i) v)) w j (ere_read w i j s)

pub ere_reads : (d : ℕ) (w : List ℕ) (i j : Input) → SpellsEre w i j → Reads d (tree.Ere (left i) w) i j
unfolding x.primary
ere_reads d w i j s = go s.begins
  where
    go : (kind i ≡ k.Slash) ⊎ (kind i ≡ k.SlashAssign) → Reads d (tree.Ere (left i) w) i j
    go (inl at) = token_reads d k.Slash (tree.Ere (left i) w) i j at refl refl refl (λ _. by_kind (x.primary_by d (x.expression d)) k.Slash i at ∙ ere_is d w i j s)
    go (inr at) = token_reads d k.SlashAssign (tree.Ere (left i) w) i j at refl refl refl (λ _. by_kind (x.primary_by d (x.expression d)) k.SlashAssign i at ∙ ere_is d w i j s)

-- ---- what stands in brackets

group_is : (d : ℕ) (e : Expr) (v w : List ℕ) (i j l m : Input) → Spells k.LeftParen v i j → x.whole d (x.expression d) false j ≡ Ok (e, l) → Spells k.RightParen w l m → x.primary (suc d) (x.expression (suc d)) i ≡ Ok (tree.Group e, m)
unfolding x.primary x.group x.expression
group_is d e v w i j l m s h t =
    by_kind (x.primary_by (suc d) (x.expression (suc d))) k.LeftParen i s.is_kind
    ∙ then_ok (x.whole d (x.expression d) false (next i)) (λ y. expect k.RightParen >> pure (tree.Group y)) e l (ap (x.whole d (x.expression d) false) s.is_next ∙ h)
    ∙ then_ok (expect k.RightParen l) (λ _. pure (tree.Group e)) tt m (expect_is k.RightParen w l m t)

enclosed_one : (d : ℕ) (e : Expr) (v w : List ℕ) (i j l m : Input) → Spells k.LeftParen v i j → x.whole d (x.expression d) false j ≡ Ok (e, l) → Spells k.RightParen w l m → x.enclosed (suc d) (x.expression (suc d)) i ≡ Ok (inside.One e, m)
unfolding x.enclosed x.expression
enclosed_one d e v w i j l m s h t =
    let ne : kind l ≢ k.Comma = λ q. (let no : k.RightParen ≡ k.Comma = sym t.is_kind ∙ q in cc) in
    then_ok (x.whole d (x.expression d) false (next i)) (λ y. eat k.Comma >>= (λ more. x.enclosed_by (suc d) (x.expression (suc d)) y more)) e l (ap (x.whole d (x.expression d) false) s.is_next ∙ h)
    ∙ ap (λ b. x.enclosed_by (suc d) (x.expression (suc d)) e b (after k.Comma l)) (not_seen k.Comma l ne)
    ∙ ap (λ q. x.enclosed_by (suc d) (x.expression (suc d)) e false q) (after_not k.Comma l ne)
    ∙ then_ok (expect k.RightParen l) (λ _. pure (inside.One e)) tt m (expect_is k.RightParen w l m t)

pub list_is : (d : ℕ) (found es all : List Expr) (i j : Input) → x.list_from (x.whole d (x.expression d) false) (left i) found i ≡ Ok (all, j) → x.list (x.expression (suc d) want.Whole) found i ≡ Ok (all, j)
unfolding x.list x.expression
list_is d found es all i j h = h

pub enclosed_several : (d : ℕ) (e : Expr) (es : List Expr) (u v w : List ℕ) (i j l m n o q : Input) → Spells k.LeftParen u i j → x.whole d (x.expression d) false j ≡ Ok (e, l) → Spells k.Comma v l m → newlines m ≡ n
    → x.list (x.expression (suc d) want.Whole) (e ∷ []) n ≡ Ok (e ∷ es, o) → Spells k.RightParen w o q → x.enclosed (suc d) (x.expression (suc d)) i ≡ Ok (inside.Several (e ∷ es), q)
unfolding x.enclosed x.several x.expression
enclosed_several d e es u v w i j l m n o q s h c t g r =
    then_ok (x.whole d (x.expression d) false (next i)) (λ y. eat k.Comma >>= (λ more. x.enclosed_by (suc d) (x.expression (suc d)) y more)) e l (ap (x.whole d (x.expression d) false) s.is_next ∙ h)
    ∙ ap (λ b. x.enclosed_by (suc d) (x.expression (suc d)) e b (after k.Comma l)) (seen k.Comma l c.is_kind)
    ∙ ap (λ z. x.enclosed_by (suc d) (x.expression (suc d)) e true z) (after_is k.Comma l c.is_kind ∙ c.is_next)
    ∙ ap (x.several (suc d) (x.expression (suc d)) e) t
    ∙ then_ok (x.list (x.expression (suc d) want.Whole) (e ∷ []) n) (λ ys. expect k.RightParen >> pure (inside.Several ys)) (e ∷ es) o g
    ∙ then_ok (expect k.RightParen o) (λ _. pure (inside.Several (e ∷ es))) tt q (expect_is k.RightParen w o q r)

pub group_reads : (d : ℕ) (e : Expr) (v w : List ℕ) (i j l m : Input) → Spells k.LeftParen v i j → x.whole d (x.expression d) false j ≡ Ok (e, l) → Spells k.RightParen w l m → Reads (suc d) (tree.Group e) i m
unfolding x.postfix x.opening
group_reads d e v w i j l m s h t =
    let p = group_is d e v w i j l m s h t in
    record {
      begins_so = ap starts_primary s.is_kind;
      as_primary = λ _. p;
      as_postfix = λ _. record {
        no_sign = ap table.sign s.is_kind;
        as_right = λ _. by_kind (x.postfix_by (suc d) (x.expression (suc d))) k.LeftParen i s.is_kind ∙ p;
        as_first = λ _ _. record {
          head = Some (tree.Group e);
          at = m;
          opens = by_kind (x.opening_by (suc d) (x.expression (suc d))) k.LeftParen i s.is_kind
              ∙ then_ok (x.enclosed (suc d) (x.expression (suc d)) i) x.opened (inside.One e) m (enclosed_one d e v w i j l m s h t);
          goes = refl;
        };
      };
    }

-- ---- places

pub named_is : (d : ℕ) (w : List ℕ) (i j : Input) → Spells k.Name w i j → kind j ≢ k.LeftBracket → x.place d (x.expression d) i ≡ Ok (spot.Name (name_at i), j)
unfolding x.place x.named_place parser.name
named_is d w i j s ne =
    let ne' : kind (next i) ≢ k.LeftBracket = subst (λ m. kind m ≢ k.LeftBracket) (sym s.is_next) ne in
    by_kind (x.place_by d (x.expression d)) k.Name i s.is_kind
    ∙ ap (λ b. x.named d (x.expression d) b (name_at i) (after k.LeftBracket (next i))) (not_seen k.LeftBracket (next i) ne')
    ∙ ap (λ m. done (spot.Name (name_at i)) m) (after_not k.LeftBracket (next i) ne' ∙ s.is_next)

pub element_is : (d : ℕ) (es : List Expr) (u v w : List ℕ) (i j l m n : Input) → Spells k.Name u i j → Spells k.LeftBracket v j l → x.list (x.expression (suc d) want.Whole) [] l ≡ Ok (es, m) → Spells k.RightBracket w m n → x.place (suc d) (x.expression (suc d)) i ≡ Ok (spot.Element (name_at i) es, n)
unfolding x.place x.named_place parser.name
element_is d es u v w i j l m n s t h r =
    let t' : Spells k.LeftBracket v (next i) l = subst (λ q. Spells k.LeftBracket v q l) (sym s.is_next) t in
    by_kind (x.place_by (suc d) (x.expression (suc d))) k.Name i s.is_kind
    ∙ ap (λ b. x.named (suc d) (x.expression (suc d)) b (name_at i) (after k.LeftBracket (next i))) (seen k.LeftBracket (next i) t'.is_kind)
    ∙ ap (λ z. x.named (suc d) (x.expression (suc d)) true (name_at i) z) (after_is k.LeftBracket (next i) t'.is_kind ∙ t'.is_next)
    ∙ then_ok (x.list (x.expression (suc d) want.Whole) [] l) (λ keys. expect k.RightBracket >> pure (spot.Element (name_at i) keys)) es m h
    ∙ then_ok (expect k.RightBracket m) (λ _. pure (spot.Element (name_at i) es)) tt n (expect_is k.RightBracket w m n r)

dollar_by_primary : (d : ℕ) (c : Kind) → starts_primary c ≡ true → c ≢ k.Getline → x.dollar_by d (x.expression d) c ≡ x.primary d (x.expression d)
dollar_by_primary d k.Getline h ne = absurd (ne refl)
dollar_by_primary d k.Name h ne = refl
dollar_by_primary d _ h ne = cc

pub dollar_is : (d : ℕ) (e : Expr) (i j : Input) → kind i ≢ k.Getline → Reads d e i j → kind j ≢ k.LeftBracket → x.dollar d (x.expression d) i ≡ Ok (e, j)
unfolding x.dollar
dollar_is d e i j free r ne = ap (λ p. p i) (dollar_by_primary d (kind i) r.begins_so free) ∙ r.as_primary ne

dollar_by_change : (d : ℕ) (c : Kind) (how : Change) → table.change c ≡ Some how → x.dollar_by d (x.expression d) c ≡ x.changed_before d (x.expression d) how
dollar_by_change d k.Increment how h = let same : changes.Increment ≡ how = cc in ap (x.changed_before d (x.expression d)) same
dollar_by_change d k.Decrement how h = let same : changes.Decrement ≡ how = cc in ap (x.changed_before d (x.expression d)) same
dollar_by_change d _ how h = cc

changed_before_is : (d : ℕ) (how : Change) (y : Place) (c : Kind) (w : List ℕ) (i j l : Input) → Spells c w i j → x.place d (x.expression d) j ≡ Ok (y, l) → x.changed_before (suc d) (x.expression (suc d)) how i ≡ Ok (tree.Before how y, l)
unfolding x.expression
changed_before_is d how y c w i j l s h =
    then_ok (x.place d (x.expression d) (next i)) (λ z. pure (tree.Before how z)) y l (ap (x.place d (x.expression d)) s.is_next ∙ h)

pub dollar_before_is : (d : ℕ) (c : Kind) (how : Change) (y : Place) (w : List ℕ) (i j l : Input) → Spells c w i j → table.change c ≡ Some how → x.place d (x.expression d) j ≡ Ok (y, l) → x.dollar (suc d) (x.expression (suc d)) i ≡ Ok (tree.Before how y, l)
unfolding x.dollar
dollar_before_is d c how y w i j l s e h = ap (λ q. q i) (dollar_by_change (suc d) (kind i) how (ap table.change s.is_kind ∙ e)) ∙ changed_before_is d how y c w i j l s h

pub field_is : (d : ℕ) (e : Expr) (w : List ℕ) (i j l : Input) → Spells k.Dollar w i j → x.dollar d (x.expression d) j ≡ Ok (e, l) → x.place (suc d) (x.expression (suc d)) i ≡ Ok (spot.Field e, l)
unfolding x.place x.expression
field_is d e w i j l s h =
    by_kind (x.place_by (suc d) (x.expression (suc d))) k.Dollar i s.is_kind
    ∙ then_ok (x.dollar d (x.expression d) (next i)) (λ q. pure (spot.Field q)) e l (ap (x.dollar d (x.expression d)) s.is_next ∙ h)

place_primary : (d : ℕ) (c : Kind) → table.begins_place c ≡ true → x.primary_by d (x.expression d) c ≡ (x.place d (x.expression d) >>= (λ p. pure (tree.Of p)))
place_primary d k.Name h = refl
place_primary d k.Dollar h = refl
place_primary d _ h = cc

place_postfix : (d : ℕ) (c : Kind) → table.begins_place c ≡ true → x.postfix_by d (x.expression d) c ≡ (x.place d (x.expression d) >>= x.changed)
place_postfix d k.Name h = refl
place_postfix d k.Dollar h = refl
place_postfix d _ h = cc

place_opening : (d : ℕ) (c : Kind) → table.begins_place c ≡ true → x.opening_by d (x.expression d) c ≡ (x.place d (x.expression d) >>= x.settable)
place_opening d k.Name h = refl
place_opening d k.Dollar h = refl
place_opening d _ h = cc

changed_none : (d : ℕ) (y : Place) (j : Input) → table.change (kind j) ≡ None → x.changed y j ≡ Ok (tree.Of y, j)
unfolding x.changed
changed_none d y j h = ap (λ o. x.changed_by y o j) h

changed_some : (d : ℕ) (y : Place) (c : Kind) (how : Change) (w : List ℕ) (j l : Input) → Spells c w j l → table.change c ≡ Some how → x.changed y j ≡ Ok (tree.After how y, l)
unfolding x.changed
changed_some d y c how w j l s h = ap (λ o. x.changed_by y o j) (ap table.change s.is_kind ∙ h) ∙ ap (λ m. done (tree.After how y) m) s.is_next

settable_none : (d : ℕ) (y : Place) (e : Expr) (j l : Input) → table.assignment (kind j) ≡ None → x.changed y j ≡ Ok (e, l) → x.settable y j ≡ Ok (start.Base e, l)
unfolding x.settable
settable_none d y e j l h g = ap (λ o. x.settable_by y o j) h ∙ then_ok (x.changed y j) (λ z. pure (start.Base z)) e l g

pub settable_some : (d : ℕ) (y : Place) (c : Kind) (how : Assignment) (w : List ℕ) (j l : Input) → Spells c w j l → table.assignment c ≡ Some how → x.settable y j ≡ Ok (start.Assigns how y, l)
unfolding x.settable
settable_some d y c how w j l s h = ap (λ o. x.settable_by y o j) (ap table.assignment s.is_kind ∙ h) ∙ ap (λ m. done (start.Assigns how y) m) s.is_next

pub place_opens : (d : ℕ) (y : Place) (s : Start) (i j l : Input) → table.begins_place (kind i) ≡ true → x.place d (x.expression d) i ≡ Ok (y, j) → x.settable y j ≡ Ok (s, l) → x.opening d (x.expression d) i ≡ Ok (s, l)
unfolding x.opening
place_opens d y s i j l b h g = ap (λ q. q i) (place_opening d (kind i) b) ∙ then_ok (x.place d (x.expression d) i) x.settable y j h ∙ g

-- how a place is read; what begins it tells it from other operands
pub record ReadsPlace (d : ℕ) (y : Place) (i j : Input) : Type 0 where
  pub begins_so : table.begins_place (kind i) ≡ true
  pub reads : kind j ≢ k.LeftBracket → x.place d (x.expression d) i ≡ Ok (y, j)

pub place_reads : (d : ℕ) (y : Place) (i j : Input) → ReadsPlace d y i j → Reads d (tree.Of y) i j
unfolding x.primary
place_reads d y i j r = record {
  begins_so = starts_both (kind i) (place_starts (kind i) r.begins_so);
  as_primary = λ ne. ap (λ q. q i) (place_primary d (kind i) r.begins_so) ∙ then_ok (x.place d (x.expression d) i) (λ q. pure (tree.Of q)) y j (r.reads ne);
  as_postfix = λ b. (let no : true ≡ false = sym r.begins_so ∙ b in cc);
}

pub bare_reads : (d : ℕ) (y : Place) (i j : Input) → ReadsPlace d y i j → table.change (kind j) ≡ None → ReadsPostfix d (tree.Of y) i j
unfolding x.postfix
bare_reads d y i j r free = record {
  no_sign = starts_sign (kind i) (place_starts (kind i) r.begins_so);
  as_right = λ ne. ap (λ q. q i) (place_postfix d (kind i) r.begins_so) ∙ then_ok (x.place d (x.expression d) i) x.changed y j (r.reads ne) ∙ changed_none d y j free;
  as_first = λ ne calm. record {
    head = Some (tree.Of y);
    at = j;
    opens = place_opens d y (start.Base (tree.Of y)) i j j r.begins_so (r.reads ne) (settable_none d y (tree.Of y) j j calm (changed_none d y j free));
    goes = refl;
  };
}

change_kind : (c b : Kind) (how : Change) → table.change c ≡ Some how → table.change b ≡ None → c ≢ b
change_kind c b how h g e = let f : table.change c ≡ table.change b = ap table.change e in cc

pub after_reads : (d : ℕ) (c : Kind) (how : Change) (y : Place) (w : List ℕ) (i j l : Input) → ReadsPlace d y i j → Spells c w j l → table.change c ≡ Some how → ReadsPostfix d (tree.After how y) i l
unfolding x.postfix
after_reads d c how y w i j l r s e =
    let at : table.change (kind j) ≡ Some how = ap table.change s.is_kind ∙ e in
    let h = r.reads (change_kind (kind j) k.LeftBracket how at refl) in
    record {
      no_sign = starts_sign (kind i) (place_starts (kind i) r.begins_so);
      as_right = λ _. ap (λ q. q i) (place_postfix d (kind i) r.begins_so) ∙ then_ok (x.place d (x.expression d) i) x.changed y j h ∙ changed_some d y c how w j l s e;
      as_first = λ _ _. record {
        head = Some (tree.After how y);
        at = l;
        opens = place_opens d y (start.Base (tree.After how y)) i j l r.begins_so h (settable_none d y (tree.After how y) j l (change_assignment (kind j) how at) (changed_some d y c how w j l s e));
        goes = refl;
      };
    }

before_by : (d : ℕ) (c : Kind) (how : Change) → table.change c ≡ Some how → x.postfix_by d (x.expression d) c ≡ x.changed_before d (x.expression d) how
before_by d k.Increment how h = let same : changes.Increment ≡ how = cc in ap (x.changed_before d (x.expression d)) same
before_by d k.Decrement how h = let same : changes.Decrement ≡ how = cc in ap (x.changed_before d (x.expression d)) same
before_by d _ how h = cc

before_opening : (d : ℕ) (c : Kind) (how : Change) → table.change c ≡ Some how → x.opening_by d (x.expression d) c ≡ pure start.Nothing
before_opening d k.Increment how h = refl
before_opening d _ how h = cc

before_sign : (c : Kind) (how : Change) → table.change c ≡ Some how → table.sign c ≡ None
before_sign k.Increment how h = refl
before_sign _ how h = cc

pub before_reads : (d : ℕ) (c : Kind) (how : Change) (y : Place) (w : List ℕ) (i j l : Input) → Spells c w i j → table.change c ≡ Some how → ReadsPlace d y j l → ReadsPostfix (suc d) (tree.Before how y) i l
unfolding x.postfix
before_reads d c how y w i j l s e r =
    let at : table.change (kind i) ≡ Some how = ap table.change s.is_kind ∙ e in
    let reads : kind l ≢ k.LeftBracket → x.postfix (suc d) (x.expression (suc d)) i ≡ Ok (tree.Before how y, l) =
    λ ne. ap (λ q. q i) (before_by (suc d) (kind i) how at) ∙ changed_before_is d how y c w i j l s (r.reads ne) in
    record {
      no_sign = before_sign (kind i) how at;
      as_right = reads;
      as_first = λ ne _. record {
        head = None;
        at = i;
        opens = opens_nothing (suc d) (kind i) i refl (before_opening (suc d) (kind i) how at);
        goes = unary_postfix (suc d) (x.expression (suc d)) (tree.Before how y) i l (before_sign (kind i) how at) (reads ne);
      };
    }

-- ---- calls

not_zero : (d : ℕ) → (suc d == 0) ≡ false
not_zero d = search rules

pub arguments_none : (d : ℕ) (v w : List ℕ) (i j l : Input) → Spells k.LeftParen v i j → Spells k.RightParen w j l → x.arguments (suc d) (x.expression (suc d)) i ≡ Ok ([], l)
unfolding x.arguments x.filled
arguments_none d v w i j l s t =
    then_ok (expect k.LeftParen i) (λ _. cond (suc d == 0) (too_deep {A = List Expr}) (x.filled (suc d) (x.expression (suc d)))) tt j (expect_is k.LeftParen v i j s)
    ∙ ap (λ b. cond b (too_deep {A = List Expr}) (x.filled (suc d) (x.expression (suc d))) j) (not_zero d)
    ∙ eats k.RightParen w j l (pure []) (x.list (x.expression (suc d) want.Whole) [] >>= (λ es. expect k.RightParen >> pure es)) t

pub arguments_some : (d : ℕ) (es : List Expr) (v w : List ℕ) (i j l m : Input) → Spells k.LeftParen v i j → kind j ≢ k.RightParen → x.list (x.expression (suc d) want.Whole) [] j ≡ Ok (es, l) → Spells k.RightParen w l m → x.arguments (suc d) (x.expression (suc d)) i ≡ Ok (es, m)
unfolding x.arguments x.filled
arguments_some d es v w i j l m s ne h t =
    then_ok (expect k.LeftParen i) (λ _. cond (suc d == 0) (too_deep {A = List Expr}) (x.filled (suc d) (x.expression (suc d)))) tt j (expect_is k.LeftParen v i j s)
    ∙ ap (λ b. cond b (too_deep {A = List Expr}) (x.filled (suc d) (x.expression (suc d))) j) (not_zero d)
    ∙ leaves k.RightParen j (pure []) (x.list (x.expression (suc d) want.Whole) [] >>= (λ es. expect k.RightParen >> pure es)) ne
    ∙ then_ok (x.list (x.expression (suc d) want.Whole) [] j) (λ ys. expect k.RightParen >> pure ys) es l h
    ∙ then_ok (expect k.RightParen l) (λ _. pure es) tt m (expect_is k.RightParen w l m t)

call_is : (d : ℕ) (es : List Expr) (w : List ℕ) (i j l : Input) → Spells k.FunctionName w i j → x.arguments d (x.expression d) j ≡ Ok (es, l) → x.primary d (x.expression d) i ≡ Ok (tree.Call (name_at i) es, l)
unfolding x.primary x.called parser.name
call_is d es w i j l s h =
    by_kind (x.primary_by d (x.expression d)) k.FunctionName i s.is_kind
    ∙ then_ok (x.arguments d (x.expression d) (next i)) (λ ys. pure (tree.Call (name_at i) ys)) es l (ap (x.arguments d (x.expression d)) s.is_next ∙ h)

pub call_reads : (d : ℕ) (es : List Expr) (w : List ℕ) (i j l : Input) → Spells k.FunctionName w i j → x.arguments d (x.expression d) j ≡ Ok (es, l) → Reads d (tree.Call (name_at i) es) i l
call_reads d es w i j l s h = token_reads d k.FunctionName (tree.Call (name_at i) es) i l s.is_kind refl refl refl (λ _. call_is d es w i j l s h)

arguments_given : (d : ℕ) (f : Builtin) (es : List Expr) (i j : Input) → kind i ≡ k.LeftParen → x.arguments d (x.expression d) i ≡ Ok (es, j) → x.arguments_of d (x.expression d) f i ≡ Ok (es, j)
arguments_given d fun.Length es i j at h = ap (λ b. cond b (x.arguments d (x.expression d) i) (done [] i)) (seen k.LeftParen i at) ∙ h
arguments_given d _ es i j at h = h

function_read : (f : Builtin) (w : List ℕ) (i j : Input) → Spells k.Builtin w i j → builtin_named w ≡ Some f → parser.function i ≡ Ok (f, j)
unfolding parser.function
function_read f w i j s e = ap (λ o. parser.function_from o i) (ap builtin_named s.is_word ∙ e) ∙ ap (λ m. done f m) s.is_next

-- a function whose word was read, and its arguments
given_is : (d : ℕ) (f : Builtin) (es : List Expr) (w : List ℕ) (i j l : Input) → Spells k.Builtin w i j → builtin_named w ≡ Some f → x.arguments_of d (x.expression d) f j ≡ Ok (es, l) → table.fits f es ≡ true → x.primary d (x.expression d) i ≡ Ok (tree.Builtin f es, l)
unfolding x.primary x.builtin
given_is d f es w i j l s e h t =
    by_kind (x.primary_by d (x.expression d)) k.Builtin i s.is_kind
    ∙ then_ok (parser.function i) (λ g. x.arguments_of d (x.expression d) g >>= x.fitting (left i) g) f j (function_read f w i j s e)
    ∙ then_ok (x.arguments_of d (x.expression d) f j) (x.fitting (left i) f) es l h
    ∙ ap (λ b. cond b (pure (tree.Builtin f es)) (λ i'. Err (Here refused.Syntax (left i))) l) t

pub builtin_reads : (d : ℕ) (f : Builtin) (es : List Expr) (w : List ℕ) (i j l : Input) → Spells k.Builtin w i j → builtin_named w ≡ Some f → kind j ≡ k.LeftParen → x.arguments d (x.expression d) j ≡ Ok (es, l) → table.fits f es ≡ true → Reads d (tree.Builtin f es) i l
builtin_reads d f es w i j l s e at h t = token_reads d k.Builtin (tree.Builtin f es) i l s.is_kind refl refl refl (λ _. given_is d f es w i j l s e (arguments_given d f es j l at h) t)

pub bare_fits : table.fits fun.Length [] ≡ true
unfolding table.fits takes
bare_fits = refl

bare_arguments : (d : ℕ) (i : Input) → kind i ≢ k.LeftParen → x.arguments_of d (x.expression d) fun.Length i ≡ Ok ([], i)
bare_arguments d i ne = ap (λ b. cond b (x.arguments d (x.expression d) i) (done [] i)) (not_seen k.LeftParen i ne)

pub bare_length_reads : (d : ℕ) (w : List ℕ) (i j : Input) → Spells k.Builtin w i j → builtin_named w ≡ Some fun.Length → kind j ≢ k.LeftParen → Reads d (tree.Builtin fun.Length []) i j
bare_length_reads d w i j s e ne = token_reads d k.Builtin (tree.Builtin fun.Length []) i j s.is_kind refl refl refl (λ _. given_is d fun.Length [] w i j j s e (bare_arguments d j ne) bare_fits)

-- ---- `getline`

getline_alone : (d : ℕ) (c : Kind) → table.begins_place c ≡ false → c ≢ k.Less → x.getline_by d (x.expression d) c ≡ pure tree.Getline
getline_alone d k.Name h ne = cc
getline_alone d k.Dollar h ne = cc
getline_alone d k.Less h ne = absurd (ne refl)
getline_alone d _ h ne = refl

getline_is : (d : ℕ) (w : List ℕ) (i j : Input) → Spells k.Getline w i j → table.begins_place (kind j) ≡ false → kind j ≢ k.Less → x.primary d (x.expression d) i ≡ Ok (tree.Getline, j)
unfolding x.primary x.getline
getline_is d w i j s b ne =
    by_kind (x.primary_by d (x.expression d)) k.Getline i s.is_kind
    ∙ ap (λ m. x.getline_by d (x.expression d) (kind m) m) s.is_next
    ∙ ap (λ q. q j) (getline_alone d (kind j) b ne)

pub getline_reads : (d : ℕ) (w : List ℕ) (i j : Input) → Spells k.Getline w i j → table.begins_place (kind j) ≡ false → kind j ≢ k.Less → Reads d tree.Getline i j
getline_reads d w i j s b ne = token_reads d k.Getline tree.Getline i j s.is_kind refl refl refl (λ _. getline_is d w i j s b ne)

getline_place : (d : ℕ) (c : Kind) → table.begins_place c ≡ true → x.getline_by d (x.expression d) c ≡ x.getline_to d (x.expression d)
getline_place d k.Name h = refl
getline_place d k.Dollar h = refl
getline_place d _ h = cc

behind_getline : (c : Kind) → table.change c ≡ None → c ≢ k.Less → x.behind_getline_by c ≡ pure tt
behind_getline k.Less h ne = absurd (ne refl)
behind_getline k.Increment h ne = cc
behind_getline k.Decrement h ne = cc
behind_getline _ h ne = refl

getline_to_is : (d : ℕ) (y : Place) (w : List ℕ) (i j l : Input) → Spells k.Getline w i j → table.begins_place (kind j) ≡ true → x.place d (x.expression d) j ≡ Ok (y, l) → table.change (kind l) ≡ None → kind l ≢ k.Less
    → x.primary d (x.expression d) i ≡ Ok (tree.GetlineTo y, l)
unfolding x.primary x.getline x.getline_to
getline_to_is d y w i j l s b h free ne =
    by_kind (x.primary_by d (x.expression d)) k.Getline i s.is_kind
    ∙ ap (λ m. x.getline_by d (x.expression d) (kind m) m) s.is_next
    ∙ ap (λ q. q j) (getline_place d (kind j) b)
    ∙ then_ok (x.place d (x.expression d) j) (λ z. (peek >>= x.behind_getline_by) >> pure (tree.GetlineTo z)) y l h
    ∙ ap (λ q. and_then (q l) (λ _. pure (tree.GetlineTo y))) (behind_getline (kind l) free ne)

pub getline_to_reads : (d : ℕ) (y : Place) (w : List ℕ) (i j l : Input) → Spells k.Getline w i j → ReadsPlace d y j l → table.change (kind l) ≡ None → kind l ≢ k.Less → Reads d (tree.GetlineTo y) i l
getline_to_reads d y w i j l s r free ne = token_reads d k.Getline (tree.GetlineTo y) i l s.is_kind refl refl refl (λ b. getline_to_is d y w i j l s r.begins_so (r.reads b) free ne)
