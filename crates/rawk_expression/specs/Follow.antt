-- What stands behind an operand, and what a step of the parser answers there.
use Rattle.std.proofs.Common.{◌≡◌, ◌≢◌, ℕ, zero, suc, ◌≤◌, Bool, true, false, not, ◌&&◌, cond, ◌==◌, List, Some, None, Ok, refl, sym, ap, ◌∙◌, rules, arith}
use denote.Enum.Bare.{true_same, false_same}
use Rattle.rawk_keywords.specs.contracts.token.Kind.{the_type}
use Rattle.rawk_keywords.specs.declared.token.Kind.{Kind}
use Rattle.rawk_keywords.specs.declared.token.Kind.TheVariants as k
use Rattle.rawk_lexer.specs.Lex.{kind, next, left}
use Rattle.rawk_lexer.specs.Moves.{some_left, next_shrinks}
use Rattle.rawk_value.specs.declared.operator.Arithmetic.TheVariants as arithmetic
use Rattle.rawk_parsing.specs.declared.tree.Operator.{Operator}
use Rattle.rawk_parsing.specs.declared.tree.Operator.TheVariants as op
use Rattle.rawk_parsing.specs.declared.tree.Change.{Change}
use Rattle.rawk_parsing.specs.Parser.{Input, Outcome, Parser, and_then, refuse, expect, sees, after, newlines, newlines_from, name_at, bare_name, same_kind}
use Rattle.rawk_parsing.specs.Parser as parser
use Rattle.rawk_parsing.specs.Tables as table
use Rattle.rawk_expression.specs.Expression as x
use Rattle.rawk_parsing.specs.Tokens.{Spells, Newlines, none, more}
use Rattle.rawk_expression.specs.Grammar.{Joins, symbol, beside}

-- ---- kinds

-- what may stand behind a whole expression
abbrev pub ends : Kind → Bool
ends k.EndOfText = true
ends k.Newline = true
ends k.Semicolon = true
ends k.Comma = true
ends k.RightParen = true
ends k.RightBracket = true
ends k.RightBrace = true
ends k.LeftBrace = true
ends k.Colon = true
ends _ = false

-- what may stand behind an operand without an operator between two: the above, `in`, `&&`, `||` and `?`
abbrev pub stops : Kind → Bool
stops k.EndOfText = true
stops k.Newline = true
stops k.Semicolon = true
stops k.Comma = true
stops k.RightParen = true
stops k.RightBracket = true
stops k.RightBrace = true
stops k.LeftBrace = true
stops k.Colon = true
stops k.In = true
stops k.And = true
stops k.Or = true
stops k.Question = true
stops _ = false

-- what may stand behind the operands of `||`, of `&&`, and behind an operand of `&&`
abbrev pub asks : Kind → Bool
asks k.Question = true
asks c = ends c

abbrev pub ors : Kind → Bool
ors k.Or = true
ors c = asks c

abbrev pub ands : Kind → Bool
ands k.And = true
ands c = ors c

-- what may stand behind a test of the level; one that ends in an assignment ends the expression
abbrev pub behind : Bool → ℕ → Kind → Bool
behind true n c = ends c
behind false zero c = ands c
behind false (suc zero) c = ors c
behind false (suc (suc n)) c = asks c

-- what begins an operand
abbrev pub starts : Kind → Bool
starts k.Name = true
starts k.Dollar = true
starts k.Number = true
starts k.Text = true
starts k.Slash = true
starts k.SlashAssign = true
starts k.LeftParen = true
starts k.FunctionName = true
starts k.Builtin = true
starts _ = false

pub ends_stops : (c : Kind) → ends c ≡ true → stops c ≡ true
ends_stops k.EndOfText h = refl
ends_stops _ h = cc

ends_asks : (c : Kind) → ends c ≡ true → asks c ≡ true
ends_asks k.Question h = refl
ends_asks _ h = h

asks_ors : (c : Kind) → asks c ≡ true → ors c ≡ true
asks_ors k.Or h = refl
asks_ors _ h = h

ors_ands : (c : Kind) → ors c ≡ true → ands c ≡ true
ors_ands k.And h = refl
ors_ands _ h = h

ands_stops : (c : Kind) → ands c ≡ true → stops c ≡ true
ands_stops k.EndOfText h = refl
ands_stops _ h = cc

pub ends_behind : (b : Bool) (n : ℕ) (c : Kind) → ends c ≡ true → behind b n c ≡ true
ends_behind true n c h = h
ends_behind false zero c h = ors_ands c (asks_ors c (ends_asks c h))
ends_behind false (suc zero) c h = asks_ors c (ends_asks c h)
ends_behind false (suc (suc n)) c h = ends_asks c h

pub less_behind : (b : Bool) (n : ℕ) (c : Kind) → behind b (suc n) c ≡ true → behind b n c ≡ true
less_behind true n c h = h
less_behind false zero c h = ors_ands c h
less_behind false (suc zero) c h = asks_ors c h
less_behind false (suc (suc n)) c h = h

pub behind_stops : (b : Bool) (n : ℕ) (c : Kind) → behind b n c ≡ true → stops c ≡ true
behind_stops true n c h = ends_stops c h
behind_stops false zero c h = ands_stops c h
behind_stops false (suc zero) c h = ands_stops c (ors_ands c h)
behind_stops false (suc (suc n)) c h = ands_stops c (ors_ands c (asks_ors c h))

pub place_starts : (c : Kind) → table.begins_place c ≡ true → starts c ≡ true
place_starts k.Name h = refl
place_starts _ h = cc

pub starts_sign : (c : Kind) → starts c ≡ true → table.sign c ≡ None
starts_sign k.Name h = refl
starts_sign _ h = cc

pub stops_operator : (c : Kind) → stops c ≡ true → table.operator c ≡ None
stops_operator k.EndOfText h = refl
stops_operator _ h = cc

pub stops_begins : (c : Kind) → stops c ≡ true → table.begins_joined c ≡ false
stops_begins k.EndOfText h = refl
stops_begins _ h = cc

pub stops_assignment : (c : Kind) → stops c ≡ true → table.assignment c ≡ None
stops_assignment k.EndOfText h = refl
stops_assignment _ h = cc

pub operator_begins : (c : Kind) (o : Operator) → table.operator c ≡ Some o → table.begins_joined c ≡ false
operator_begins k.Star o h = refl
operator_begins _ o h = cc

pub operator_assignment : (c : Kind) (o : Operator) → table.operator c ≡ Some o → table.assignment c ≡ None
operator_assignment k.Star o h = refl
operator_assignment _ o h = cc

pub begins_operator : (c : Kind) → table.begins_joined c ≡ true → table.operator c ≡ None
begins_operator k.Name h = refl
begins_operator _ h = cc

pub begins_assignment : (c : Kind) → table.begins_joined c ≡ true → table.assignment c ≡ None
begins_assignment k.Name h = refl
begins_assignment _ h = cc

pub change_assignment : (c : Kind) (how : Change) → table.change c ≡ Some how → table.assignment c ≡ None
change_assignment k.Increment how h = refl
change_assignment _ how h = cc

pub no_concat : (c : Kind) → table.operator c ≡ Some op.Concat → ⊥
no_concat k.Star h = cc
no_concat _ h = cc

-- a test that a kind passes tells it from one that does not
pub apart : (f : Kind → Bool) (a b : Kind) → f a ≡ true → f b ≡ false → a ≢ b
apart f a b h g e = let c : f a ≡ f b = ap f e in cc

pub behind_not_in : (b : Bool) (n : ℕ) (c : Kind) → behind b n c ≡ true → c ≢ k.In
behind_not_in true n c h = apart ends c k.In h refl
behind_not_in false zero c h = apart ands c k.In h refl
behind_not_in false (suc zero) c h = apart ors c k.In h refl
behind_not_in false (suc (suc n)) c h = apart asks c k.In h refl

-- `&&` and `||` stand behind operands of their level, and not behind what they join
pub mark_behind : (n : ℕ) → n ≤ 1 → behind false n (table.mark (suc n)) ≡ true
mark_behind zero le = refl
mark_behind (suc zero) le = refl
mark_behind (suc (suc n)) le = absurd (omega arith)

pub behind_not_mark : (b : Bool) (n : ℕ) (c : Kind) → n ≤ 1 → behind b (suc n) c ≡ true → c ≢ table.mark (suc n)
behind_not_mark true zero c le h = apart ends c k.And h refl
behind_not_mark true (suc zero) c le h = apart ends c k.Or h refl
behind_not_mark false zero c le h = apart ors c k.And h refl
behind_not_mark false (suc zero) c le h = apart asks c k.Or h refl
behind_not_mark b (suc (suc n)) c le h = absurd (omega arith)

-- ---- steps

pub not_seen : (c : Kind) (i : Input) → kind i ≢ c → sees c i ≡ false
unfolding sees same_kind
not_seen c i h = false_same the_type (search rules) (kind i) c h

pub seen : (c : Kind) (i : Input) → kind i ≡ c → sees c i ≡ true
unfolding sees same_kind
seen c i h = true_same the_type (kind i) c h

pub after_not : (c : Kind) (i : Input) → kind i ≢ c → after c i ≡ i
unfolding after
after_not c i h = ap (λ b. cond b (next i) i) (not_seen c i h)

pub after_is : (c : Kind) (i : Input) → kind i ≡ c → after c i ≡ next i
unfolding after
after_is c i h = ap (λ b. cond b (next i) i) (seen c i h)

pub expect_is : (c : Kind) (w : List ℕ) (i j : Input) → Spells c w i j → expect c i ≡ Ok (tt, j)
unfolding expect
expect_is c w i j s = ap (λ b. cond b (Ok (tt, next i)) (refuse i)) (seen c i s.is_kind) ∙ ap (λ m. Ok (tt, m)) s.is_next

pub bare_name_is : (w : List ℕ) (i j : Input) → Spells k.Name w i j → bare_name i ≡ Ok (name_at i, j)
unfolding bare_name parser.name
bare_name_is w i j s = ap (λ b. cond b (Ok (name_at i, next i)) (refuse i)) (seen k.Name i s.is_kind) ∙ ap (λ m. Ok (name_at i, m)) s.is_next

-- the branches of an `eat`
pub eats : {A : Type 0} (c : Kind) (w : List ℕ) (i j : Input) (f g : Parser A) → Spells c w i j → cond (sees c i) f g (after c i) ≡ f j
eats c w i j f g s = ap (λ b. cond b f g (after c i)) (seen c i s.is_kind) ∙ ap f (after_is c i s.is_kind ∙ s.is_next)

pub leaves : {A : Type 0} (c : Kind) (i : Input) (f g : Parser A) → kind i ≢ c → cond (sees c i) f g (after c i) ≡ g i
leaves c i f g h = ap (λ b. cond b f g (after c i)) (not_seen c i h) ∙ ap g (after_not c i h)

pub then_ok : {A B : Type 0} (o : Outcome A) (f : A → Parser B) (a : A) (j : Input) → o ≡ Ok (a, j) → and_then o f ≡ f a j
then_ok o f a j h = ap (λ q. and_then q f) h

pub by_kind : {A : Type 0} (by : Kind → Parser A) (c : Kind) (i : Input) → kind i ≡ c → by (kind i) i ≡ by c i
by_kind by c i h = ap (λ q. by q i) h

pub newlines_exact_from : (n : ℕ) (i j : Input) → left i ≤ n → kind j ≢ k.Newline → Newlines i j → newlines_from n i ≡ j
unfolding newlines_from same_kind
newlines_exact_from zero i j le h none = refl
newlines_exact_from (suc n) i j le h none = ap (λ b. cond b (newlines_from n (next i)) i) (not_seen k.Newline i h)
newlines_exact_from zero i l le h (more {j = j} s t) = absurd (let g = some_left i (λ e. apart (λ c. same_kind c k.Newline) k.Newline k.EndOfText refl refl (sym s.is_kind ∙ e)) in omega arith)
newlines_exact_from (suc n) i l le h (more {j = j} s t) =
    let g = next_shrinks i (λ e. apart (λ c. same_kind c k.Newline) k.Newline k.EndOfText refl refl (sym s.is_kind ∙ e)) in
    let r = newlines_exact_from n j l (rw (← s.is_next) (omega arith)) h t in
    ap (λ b. cond b (newlines_from n (next i)) i) (seen k.Newline i s.is_kind) ∙ ap (newlines_from n) s.is_next ∙ r

pub newlines_exact : (i j : Input) → kind j ≢ k.Newline → Newlines i j → newlines i ≡ j
unfolding newlines
newlines_exact i j h s = newlines_exact_from (left i) i j (omega arith) h s

-- ---- operators

pub eq_from : (m n : ℕ) → (m == n) ≡ true → m ≡ n
eq_from m n h = search (rules, h)

pub same_from : (n : ℕ) → (n == n) ≡ true
same_from n = search rules

-- a token that no operator of the level is, and before which no concatenation goes on
pub silent : (p : Bool) (c : Kind) → table.operator c ≡ None → table.begins_joined c ≡ false → (m : ℕ) → table.joins p m c ≡ None
unfolding table.joins
silent p c a b m = go (m == 3)
  where
    go : (t : Bool) → cond t (cond (table.begins_joined c) (Some op.Concat) None) (table.of_level p m (table.operator c)) ≡ None
    go true = ap (λ t. cond t (Some op.Concat) None) b
    go false = ap (table.of_level p m) a

pub stops_silent : (p : Bool) (c : Kind) → stops c ≡ true → (m : ℕ) → table.joins p m c ≡ None
stops_silent p c h m = silent p c (stops_operator c h) (stops_begins c h) m

pub beside_found : (p : Bool) (c : Kind) → table.begins_joined c ≡ true → table.joins p 3 c ≡ Some op.Concat
unfolding table.joins
beside_found p c h = ap (λ t. cond t (Some op.Concat) None) h

pub beside_other : (p : Bool) (c : Kind) → table.begins_joined c ≡ true → (m : ℕ) → m ≢ 3 → table.joins p m c ≡ None
unfolding table.joins
beside_other p c h m ne = go (m == 3) refl
  where
    go : (t : Bool) → (m == 3) ≡ t → cond t (cond (table.begins_joined c) (Some op.Concat) None) (table.of_level p m (table.operator c)) ≡ None
    go true e = absurd (ne (eq_from m 3 e))
    go false e = ap (table.of_level p m) (begins_operator c h)

pub not_three : (c : Kind) (o : Operator) → table.operator c ≡ Some o → (table.binds o == 3) ≡ false
not_three c (op.Arithmetic arithmetic.Add) h = refl
not_three c (op.Arithmetic arithmetic.Sub) h = refl
not_three c (op.Arithmetic _) h = refl
not_three c op.Concat h = absurd (no_concat c h)
not_three c (op.Comparison _) h = refl
not_three c op.Match h = refl
not_three c op.NotMatch h = refl

pub calm_print : (p : Bool) (b : Bool) → (p ≡ true → b ≡ false) → not (p && b) ≡ true
calm_print true b h = ap (λ q. not (true && q)) (h refl)
calm_print false b h = refl

pub symbol_found : (p : Bool) (c : Kind) (o : Operator) → table.operator c ≡ Some o → (p ≡ true → table.is_greater o ≡ false) → table.joins p (table.binds o) c ≡ Some o
unfolding table.joins
symbol_found p c o h g =
    ap (λ t. cond t (cond (table.begins_joined c) (Some op.Concat) None) (table.of_level p (table.binds o) (table.operator c))) (not_three c o h)
    ∙ ap (table.of_level p (table.binds o)) h
    ∙ ap (λ t. cond (t && not (p && table.is_greater o)) (Some o) None) (same_from (table.binds o))
    ∙ ap (λ t. cond (true && t) (Some o) None) (calm_print p (table.is_greater o) g)

pub symbol_other : (p : Bool) (c : Kind) (o : Operator) → table.operator c ≡ Some o → (m : ℕ) → m ≢ table.binds o → table.joins p m c ≡ None
unfolding table.joins
symbol_other p c o h m ne = go (m == 3)
  where
    level : (t : Bool) → (table.binds o == m) ≡ t → cond (t && not (p && table.is_greater o)) (Some o) None ≡ None
    level true e = absurd (ne (sym (eq_from (table.binds o) m e)))
    level false e = refl

    go : (t : Bool) → cond t (cond (table.begins_joined c) (Some op.Concat) None) (table.of_level p m (table.operator c)) ≡ None
    go true = ap (λ t. cond t (Some op.Concat) None) (operator_begins c o h)
    go false = ap (table.of_level p m) h ∙ level (table.binds o == m) refl

pub past_symbol : (o : Operator) (i : Input) → (o ≡ op.Concat → ⊥) → x.past (table.is_concat o) i ≡ next i
past_symbol op.Concat i h = absurd (h refl)
past_symbol _ i h = refl

-- a token that goes on with no operand, but for `++` and `--` behind a place
pub record Calm (j : Input) : Type 0 where
  pub no_bracket : kind j ≢ k.LeftBracket
  pub no_assignment : table.assignment (kind j) ≡ None
  pub no_caret : kind j ≢ k.Caret

pub stops_calm : (j : Input) → stops (kind j) ≡ true → Calm j
stops_calm j h = record { no_bracket = apart stops (kind j) k.LeftBracket h refl; no_assignment = stops_assignment (kind j) h; no_caret = apart stops (kind j) k.Caret h refl }

-- what the parser sees at an operator
pub record Seen (p : Bool) (n : ℕ) (o : Operator) (j l : Input) : Type 0 where
  pub found : table.joins p n (kind j) ≡ Some o
  pub other : (m : ℕ) → m ≢ n → table.joins p m (kind j) ≡ None
  pub past : x.past (table.is_concat o) j ≡ l
  pub calm : Calm j
  pub no_end : kind j ≢ k.EndOfText

pub symbol_not : (c b : Kind) (o : Operator) → table.operator c ≡ Some o → table.operator b ≡ None → c ≢ b
symbol_not c b o h g e = let f : table.operator c ≡ table.operator b = ap table.operator e in cc

pub join_seen : (p : Bool) (n : ℕ) (o : Operator) (j l : Input) → Joins p n o j l → Seen p n o j l
join_seen p n o j l (symbol {c = c} sp jo calm) =
    let at : table.operator (kind j) ≡ Some o = ap table.operator sp.is_kind ∙ jo in
    record {
      found = symbol_found p (kind j) o at calm;
      other = symbol_other p (kind j) o at;
      past = past_symbol o j (λ q. no_concat (kind j) (at ∙ ap Some q)) ∙ sp.is_next;
      calm = record { no_bracket = symbol_not (kind j) k.LeftBracket o at refl; no_assignment = operator_assignment (kind j) o at; no_caret = symbol_not (kind j) k.Caret o at refl };
      no_end = symbol_not (kind j) k.EndOfText o at refl;
    }
join_seen p n o j l (beside {c = c} sp b) =
    let at : table.begins_joined (kind j) ≡ true = ap table.begins_joined sp.is_kind ∙ b in
    record {
      found = beside_found p (kind j) at;
      other = beside_other p (kind j) at;
      past = refl;
      calm = record { no_bracket = apart table.begins_joined (kind j) k.LeftBracket at refl; no_assignment = begins_assignment (kind j) at; no_caret = apart table.begins_joined (kind j) k.Caret at refl };
      no_end = apart table.begins_joined (kind j) k.EndOfText at refl;
    }
