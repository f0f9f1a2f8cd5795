-- The parser reads each expression that is derived, before a token that ends it.
use Rattle.std.proofs.Common.{◌≡◌, ◌≢◌, ℕ, zero, suc, ◌<◌, ◌≤◌, Bool, true, false, not, cond, List, [], ◌∷◌, ◌++◌, Option, Some, None, Ok, Err, refl, sym, ap, ◌∙◌, append_assoc, append-nil, arith}
use Rattle.rawk_keywords.specs.declared.token.Kind.{Kind}
use Rattle.rawk_keywords.specs.declared.token.Kind.TheVariants as k
use Rattle.rawk_lexer.specs.Lex.{kind, next, left}
use Rattle.rawk_lexer.specs.Moves.{some_left}
use Rattle.rawk_expression.specs.declared.grammar.Wanted.TheVariants as want
use Rattle.rawk_expression.specs.declared.operands.Enclosed.{Enclosed}
use Rattle.rawk_expression.specs.declared.operands.Enclosed.TheVariants as inside
use Rattle.rawk_expression.specs.declared.operands.Start.TheVariants as start
use Rattle.rawk_parsing.specs.declared.tree.Operator.{Operator}
use Rattle.rawk_words.specs.declared.operator.Sign.{Sign}
use Rattle.rawk_parsing.specs.declared.tree.Assignment.{Assignment}
use Rattle.rawk_parsing.specs.declared.tree.Expr.{Expr}
use Rattle.rawk_parsing.specs.declared.tree.Expr.TheVariants as tree
use Rattle.rawk_parsing.specs.declared.tree.Link.{Link}
use Rattle.rawk_parsing.specs.declared.tree.Place.{Place}
use Rattle.rawk_parsing.specs.Parser.{Input, Outcome, Parser, and_then, ◌>>=◌, ◌>>◌, pure, eat, expect, sees, newlines, name_at, bare_name, not_redirected}
use Rattle.rawk_parsing.specs.Tables as table
use Rattle.rawk_expression.specs.Expression as x
use Rattle.rawk_parsing.specs.Tokens.{Spells}
use Rattle.rawk_parsing.specs.Steps.{done, and_then_ok, expect_ok, sees_kind}
use Rattle.rawk_parsing.specs.declared.tree.Name.{Name}
use Rattle.rawk_parsing.specs.Tokens.{Arrays, Newlines}
use Rattle.rawk_expression.specs.Grammar.{Joins, Phrase, Whole, Test, Further, Member, Level, Links, Unary, Power, Postfix, Dollar, Primary, APlace, Arguments, Listed, PrintList, Derives, test, choice, lone, joint, last, further, assign, contains, operated, listed_in, chain, no_more, joined, tight, unsigned, signed, base, raised, unchanged, bare, changed_after, changed_before, named, element, field, dollar_before, dollar, of_place, number, text, ere, group, call, builtin, bare_length, no_argument, some_arguments, getline, getline_to, one, several, print_list, print_group}
use Rattle.rawk_expression.specs.Follow.{Calm, Seen, apart, asks, behind, behind_not_in, behind_not_mark, behind_stops, bare_name_is, by_kind, eats, ends, ends_behind, expect_is, join_seen, leaves, less_behind, mark_behind, newlines_exact, not_seen, seen, stops, stops_calm, stops_silent, then_ok}
use Rattle.rawk_expression.specs.Upward.{arrays_front, bind_assoc, chosen_none, found_as, further_last, further_some, joint_is, lone_is, member_is, operand_start, raised_none, redirected_none, start_of, stop, unary_postfix, whole_is}
use Rattle.rawk_expression.specs.Fronts.{begins, fronts, joins_shrink, mark_not_end, newlines_shrink, not_newline, shrinks, spells_shrink}
use Rattle.rawk_expression.specs.Operands.{Opens, Reads, ReadsPlace, ReadsPostfix, after_reads, arguments_none, arguments_some, bare_length_reads, bare_reads, before_reads, builtin_reads, call_reads, dollar_before_is, dollar_is, element_is, enclosed_several, ere_reads, field_is, getline_reads, getline_to_reads, group_reads, list_is, named_is, number_reads, opens_nothing, place_opens, place_reads, settable_some, text_reads}

-- ---- operators with one operand, and `^`

-- how operands are read from the left, the first of which has begun
pub record OpensLevel (d : ℕ) (p : Bool) (n : ℕ) (e : Expr) (i j : Input) : Type 0 where
  pub head : Option Expr
  pub at : Input
  pub opens : x.opening d (x.expression d) i ≡ Ok (start_of head, at)
  pub goes : x.level d (x.expression d) p head n at ≡ Ok (e, j)

-- how an operand is read before a token that goes on with none
pub record ReadsUnary (d : ℕ) (e : Expr) (i j : Input) : Type 0 where
  pub as_right : Calm j → x.unary d (x.expression d) None i ≡ Ok (e, j)
  pub as_first : (p : Bool) → Calm j → OpensLevel d p 0 e i j

opens_level : (d : ℕ) (p : Bool) (e f : Expr) (i j l : Input) → Opens d e i j → x.raised d (x.expression d) e j ≡ Ok (f, l) → OpensLevel d p 0 f i l
unfolding x.level
opens_level d p e f i j l o h = record { head = o.head; at = o.at; opens = o.opens; goes = o.goes ∙ h }

base_reads : (d : ℕ) (e : Expr) (i j : Input) → ReadsPostfix d e i j → ReadsUnary d e i j
base_reads d e i j r = record {
  as_right = λ q. unary_postfix d (x.expression d) e i j r.no_sign (r.as_right q.no_bracket) ∙ raised_none d (x.expression d) e j q.no_caret;
  as_first = λ p q. opens_level d p e e i j j (r.as_first q.no_bracket q.no_assignment) (raised_none d (x.expression d) e j q.no_caret);
}

power_is : (d : ℕ) (w : List ℕ) (e f : Expr) (j l m : Input) → Spells k.Caret w j l → x.unary d (x.expression d) None l ≡ Ok (f, m) → x.raised (suc d) (x.expression (suc d)) e j ≡ Ok (tree.Power e f, m)
unfolding x.raised x.expression
power_is d w e f j l m s h =
    eats k.Caret w j l (x.expression (suc d) want.Unary >>= (λ z. pure (tree.Power e z))) (pure e) s
    ∙ then_ok (x.unary d (x.expression d) None l) (λ z. pure (tree.Power e z)) f m h

raised_reads : (d : ℕ) (w : List ℕ) (e f : Expr) (i j l m : Input) → ReadsPostfix (suc d) e i j → Spells k.Caret w j l → ReadsUnary d f l m → ReadsUnary (suc d) (tree.Power e f) i m
raised_reads d w e f i j l m r s g =
    let no_bracket : kind j ≢ k.LeftBracket = λ q. (let no : k.Caret ≡ k.LeftBracket = sym s.is_kind ∙ q in cc) in
    record {
      as_right = λ q. unary_postfix (suc d) (x.expression (suc d)) e i j r.no_sign (r.as_right no_bracket) ∙ power_is d w e f j l m s (g.as_right q);
      as_first = λ p q. opens_level (suc d) p e (tree.Power e f) i j m (r.as_first no_bracket (ap table.assignment s.is_kind)) (power_is d w e f j l m s (g.as_right q));
    }

sign_opening : (d : ℕ) (c : Kind) (s : Sign) → table.sign c ≡ Some s → x.opening_by d (x.expression d) c ≡ pure start.Nothing
sign_opening d k.Plus s h = refl
sign_opening d _ s h = cc

sign_is : (d : ℕ) (c : Kind) (w : List ℕ) (s : Sign) (e : Expr) (i j l : Input) → Spells c w i j → table.sign c ≡ Some s → x.unary d (x.expression d) None j ≡ Ok (e, l) → x.unary (suc d) (x.expression (suc d)) None i ≡ Ok (tree.Signed s e, l)
unfolding x.expression
sign_is d c w s e i j l t h g =
    ap (λ o. x.unary_by (suc d) (x.expression (suc d)) o i) (ap table.sign t.is_kind ∙ h)
    ∙ then_ok (x.unary d (x.expression d) None (next i)) (λ y. pure (tree.Signed s y)) e l (ap (x.unary d (x.expression d) None) t.is_next ∙ g)

signed_reads : (d : ℕ) (c : Kind) (w : List ℕ) (s : Sign) (e : Expr) (i j l : Input) → Spells c w i j → table.sign c ≡ Some s → ReadsUnary d e j l → ReadsUnary (suc d) (tree.Signed s e) i l
unfolding x.level
signed_reads d c w s e i j l t h r = record {
  as_right = λ q. sign_is d c w s e i j l t h (r.as_right q);
  as_first = λ p q. record { head = None; at = i; opens = opens_nothing (suc d) c i t.is_kind (sign_opening (suc d) c s h); goes = sign_is d c w s e i j l t h (r.as_right q) };
}

-- ---- chains of operators

-- what may stand behind operands that operators up to a level join
pub record Quiet (p : Bool) (n : ℕ) (j : Input) : Type 0 where
  pub calm : Calm j
  pub silent : (m : ℕ) → 0 < m → m ≤ n → table.joins p m (kind j) ≡ None

stops_quiet : (p : Bool) (n : ℕ) (j : Input) → stops (kind j) ≡ true → Quiet p n j
stops_quiet p n j st = record { calm = stops_calm j st; silent = λ m lo hi. stops_silent p (kind j) st m }

less_quiet : (p : Bool) (n : ℕ) (j : Input) → Quiet p (suc n) j → Quiet p n j
less_quiet p n j q = record { calm = q.calm; silent = λ m lo hi. q.silent m lo (omega arith) }

-- an operator of the next level
seen_quiet : (p : Bool) (n : ℕ) (o : Operator) (j l : Input) → Seen p (suc n) o j l → Quiet p n j
seen_quiet p n o j l see = record { calm = see.calm; silent = λ m lo hi. see.other m (λ z. omega arith) }

pub record ReadsLevel (d : ℕ) (p : Bool) (n : ℕ) (e : Expr) (i j : Input) : Type 0 where
  pub as_right : Quiet p n j → x.level d (x.expression d) p None n i ≡ Ok (e, j)
  pub as_first : Quiet p n j → OpensLevel d p n e i j

-- how further operands are read
pub record ReadsLinks (d : ℕ) (p : Bool) (n : ℕ) (xs : List Link) (i j : Input) : Type 0 where
  pub nothing : xs ≡ [] → i ≡ j
  pub quiet : Quiet p (suc n) j → Quiet p n i
  pub reads : Quiet p (suc n) j → (turns : ℕ) (found : List Link) → left i ≤ turns → x.links_from p (suc n) (x.level d (x.expression d) p None n) turns found i ≡ Ok (found ++ xs, j)

tight_reads : (d : ℕ) (p : Bool) (e : Expr) (i j : Input) → ReadsUnary d e i j → ReadsLevel d p 0 e i j
unfolding x.level
tight_reads d p e i j r = record { as_right = λ q. r.as_right q.calm; as_first = λ q. r.as_first p q.calm }

level_links : (d : ℕ) (p : Bool) (head : Option Expr) (n : ℕ) (e : Expr) (xs : List Link) (i j l : Input) → x.level d (x.expression d) p head n i ≡ Ok (e, j) → ReadsLinks d p n xs j l → Quiet p (suc n) l
    → x.level d (x.expression d) p head (suc n) i ≡ Ok (x.chained e xs, l)
unfolding x.level x.links
level_links d p head n e xs i j l h r q =
    then_ok (x.level d (x.expression d) p head n i) (λ first. x.links p (suc n) (x.level d (x.expression d) p None n) >>= (λ found. pure (x.chained first found))) e j h
    ∙ then_ok (x.links p (suc n) (x.level d (x.expression d) p None n) j) (λ found. pure (x.chained e found)) xs l (r.reads q (left j) [] (omega arith))

chain_reads : (d : ℕ) (p : Bool) (n : ℕ) (e : Expr) (xs : List Link) (i j l : Input) → ReadsLevel d p n e i j → ReadsLinks d p n xs j l → ReadsLevel d p (suc n) (x.chained e xs) i l
chain_reads d p n e xs i j l g r = record {
  as_right = λ q. level_links d p None n e xs i j l (g.as_right (r.quiet q)) r q;
  as_first = λ q. (let o = g.as_first (r.quiet q) in record { head = o.head; at = o.at; opens = o.opens; goes = level_links d p o.head n e xs o.at j l o.goes r q });
}

no_more_reads : (d : ℕ) (p : Bool) (n : ℕ) (i : Input) → ReadsLinks d p n [] i i
no_more_reads d p n i = record {
  nothing = λ e. refl;
  quiet = less_quiet p n i;
  reads = λ q turns found fuel. stop p (suc n) (x.level d (x.expression d) p None n) turns found i (q.silent (suc n) (omega arith) (omega arith)) ∙ ap (λ l. done l i) (sym (append-nil found));
}

-- one operator with its operand, and then what more does
linked_is : (d : ℕ) (p : Bool) (n turns : ℕ) (o : Operator) (e : Expr) (found all : List Link) (i j l m : Input) → Seen p (suc n) o i j → x.level d (x.expression d) p None n j ≡ Ok (e, l)
    → cond (table.is_alone (suc n)) (pure (found ++ x.link o e ∷ [])) (x.links_from p (suc n) (x.level d (x.expression d) p None n) turns (found ++ x.link o e ∷ [])) l ≡ Ok (all, m)
    → x.links_from p (suc n) (x.level d (x.expression d) p None n) (suc turns) found i ≡ Ok (all, m)
unfolding x.links_from
linked_is d p n turns o e found all i j l m see h rest =
    let operand = x.level d (x.expression d) p None n in
    ap (λ q. x.linked (suc n) operand (x.links_from p (suc n) operand turns) found q i) see.found
    ∙ then_ok (operand (x.past (table.is_concat o) i)) (λ y. cond (table.is_alone (suc n)) (pure (found ++ x.link o y ∷ [])) (x.links_from p (suc n) operand turns (found ++ x.link o y ∷ []))) e l (ap operand see.past ∙ h)
    ∙ rest

-- behind an operator that stands alone nothing more is read
joined_rest : (d : ℕ) (p : Bool) (n turns : ℕ) (o : Operator) (e : Expr) (xs found : List Link) (l m : Input) → (b : Bool) → (b ≡ true → xs ≡ []) → left l ≤ turns → ReadsLinks d p n xs l m → Quiet p (suc n) m
    → cond b (pure (found ++ x.link o e ∷ [])) (x.links_from p (suc n) (x.level d (x.expression d) p None n) turns (found ++ x.link o e ∷ [])) l ≡ Ok (found ++ x.link o e ∷ xs, m)
joined_rest d p n turns o e xs found l m true alone fuel r q =
    let none : xs ≡ [] = alone refl in
    ap (λ ys. done (found ++ x.link o e ∷ ys) l) (sym none) ∙ ap (λ z. done (found ++ x.link o e ∷ xs) z) (r.nothing none)
joined_rest d p n turns o e xs found l m false alone fuel r q =
    r.reads q turns (found ++ x.link o e ∷ []) fuel ∙ ap (λ v. done v m) (append_assoc found (x.link o e ∷ []) xs)

joined_from : (d : ℕ) (p : Bool) (n turns : ℕ) (o : Operator) (e : Expr) (xs found : List Link) (i j l m : Input) → left i ≤ turns → left l < left i → (table.is_alone (suc n) ≡ true → xs ≡ []) → Seen p (suc n) o i j → x.level d (x.expression d) p None n j ≡ Ok (e, l)
    → ReadsLinks d p n xs l m → Quiet p (suc n) m → x.links_from p (suc n) (x.level d (x.expression d) p None n) turns found i ≡ Ok (found ++ x.link o e ∷ xs, m)
joined_from d p n zero o e xs found i j l m fuel less alone see h r q = absurd (omega arith)
joined_from d p n (suc turns) o e xs found i j l m fuel less alone see h r q =
    linked_is d p n turns o e found (found ++ x.link o e ∷ xs) i j l m see h (joined_rest d p n turns o e xs found l m (table.is_alone (suc n)) alone (omega arith) r q)

joined_reads : (d : ℕ) (p : Bool) (n : ℕ) (o : Operator) (e : Expr) (xs : List Link) (i j l m : Input) → (table.is_alone (suc n) ≡ true → xs ≡ []) → left j ≤ left i → left l < left j → Joins p (suc n) o i j → ReadsLevel d p n e j l → ReadsLinks d p n xs l m
    → ReadsLinks d p n (x.link o e ∷ xs) i m
joined_reads d p n o e xs i j l m alone less few s g r =
    let see = join_seen p (suc n) o i j s in
    record {
      nothing = λ h. (let no : x.link o e ∷ xs ≡ [] = h in cc);
      quiet = λ q. seen_quiet p n o i j see;
      reads = λ q turns found fuel. joined_from d p n turns o e xs found i j l m fuel (omega arith) alone see (g.as_right (r.quiet q)) r q;
    }

-- ---- tests

-- an operand with `in` behind it, or none
operated_is : (d : ℕ) (p : Bool) (e : Expr) (i j : Input) → ReadsLevel d p 5 e i j → stops (kind j) ≡ true → x.begun d (x.expression d) (x.operand d (x.expression d) p) i ≡ x.member e j
operated_is d p e i j g st =
    let o = g.as_first (stops_quiet p 5 j st) in
    then_ok (x.opening d (x.expression d) i) (x.operand d (x.expression d) p) (start_of o.head) o.at o.opens
    ∙ operand_start d (x.expression d) p o.head o.at ∙ then_ok (x.level d (x.expression d) p o.head 5 o.at) x.member e j o.goes

listed_in_is : (d : ℕ) (p : Bool) (es : List Expr) (v w : List ℕ) (i q r s : Input) → kind i ≡ k.LeftParen → x.enclosed d (x.expression d) i ≡ Ok (inside.Several es, q) → Spells k.In v q r → Spells k.Name w r s
    → x.begun d (x.expression d) (x.operand d (x.expression d) p) i ≡ x.member (tree.ListIn es (name_at r)) s
unfolding x.opening
listed_in_is d p es v w i q r s at h t u =
    let begun : x.opening d (x.expression d) i ≡ Ok (start.Member (tree.ListIn es (name_at r)), s) =
    by_kind (x.opening_by d (x.expression d)) k.LeftParen i at
    ∙ then_ok (x.enclosed d (x.expression d) i) x.opened (inside.Several es) q h
    ∙ then_ok (expect k.In q) (λ _. bare_name >>= (λ a. pure (start.Member (tree.ListIn es a)))) tt r (expect_is k.In v q r t)
    ∙ then_ok (bare_name r) (λ a. pure (start.Member (tree.ListIn es a))) (name_at r) s (bare_name_is w r s u) in
    then_ok (x.opening d (x.expression d) i) (x.operand d (x.expression d) p) (start.Member (tree.ListIn es (name_at r))) s begun

contains_is : (d : ℕ) (p : Bool) (e : Expr) (ns : List Name) (i j l : Input) → (stops (kind j) ≡ true → x.begun d (x.expression d) (x.operand d (x.expression d) p) i ≡ x.member e j) → Arrays ns j l → behind false 0 (kind l) ≡ true
    → x.begun d (x.expression d) (x.junction d (x.expression d) p 0) i ≡ Ok (found_as false (x.contained e ns), l)
unfolding x.junction
contains_is d p e ns i j l h s b =
    h (arrays_front stops ns j l s refl (behind_stops false 0 (kind l) b)) ∙ member_is e ns j l s (behind_not_in false 0 (kind l) b)

whole_of_is : (d : ℕ) (p : Bool) (i : Input) → x.expression (suc d) (x.whole_of p) i ≡ x.whole d (x.expression d) p i
unfolding x.expression
whole_of_is d true i = refl
whole_of_is d false i = refl

assignment_kind : (c b : Kind) (how : Assignment) → table.assignment c ≡ Some how → table.assignment b ≡ None → c ≢ b
assignment_kind c b how h g e = let f : table.assignment c ≡ table.assignment b = ap table.assignment e in cc

assign_is : (d : ℕ) (p : Bool) (c : Kind) (how : Assignment) (y : Place) (e : Expr) (w : List ℕ) (i j l m : Input) → ReadsPlace (suc d) y i j → Spells c w j l → table.assignment c ≡ Some how → x.whole d (x.expression d) p l ≡ Ok (e, m)
    → x.begun (suc d) (x.expression (suc d)) (x.junction (suc d) (x.expression (suc d)) p 0) i ≡ Ok (found_as true (tree.Assign how y e), m)
unfolding x.junction
assign_is d p c how y e w i j l m r s a g =
    let at : table.assignment (kind j) ≡ Some how = ap table.assignment s.is_kind ∙ a in
    then_ok (x.opening (suc d) (x.expression (suc d)) i) (x.operand (suc d) (x.expression (suc d)) p) (start.Assigns how y) l
    (place_opens (suc d) y (start.Assigns how y) i j l r.begins_so (r.reads (assignment_kind (kind j) k.LeftBracket how at refl)) (settable_some (suc d) y c how w j l s a))
    ∙ then_ok (x.expression (suc d) (x.whole_of p) l) (λ v. pure (x.open_ended (tree.Assign how y v))) e m (whole_of_is d p l ∙ g)

choice_is : (d : ℕ) (p : Bool) (e f g : Expr) (v w : List ℕ) (i j l m n o : Input) → x.begun (suc d) (x.expression (suc d)) (x.junction (suc d) (x.expression (suc d)) p 2) i ≡ Ok (found_as false e, j)
    → Spells k.Question v j l → x.whole d (x.expression d) p l ≡ Ok (f, m) → Spells k.Colon w m n → x.whole d (x.expression d) p n ≡ Ok (g, o) → ends (kind o) ≡ true
    → x.whole (suc d) (x.expression (suc d)) p i ≡ Ok (tree.Choice e f g, o)
unfolding x.chosen x.choice
choice_is d p e f g v w i j l m n o a s h t r en =
    let picked : x.chosen (suc d) (x.expression (suc d)) p (found_as false e) j ≡ Ok (tree.Choice e f g, o) =
    ap (λ b. cond (not b) (done e j) (x.choice (suc d) (x.expression (suc d)) p e (next j))) (seen k.Question j s.is_kind)
    ∙ ap (x.choice (suc d) (x.expression (suc d)) p e) s.is_next
    ∙ then_ok (x.expression (suc d) (x.whole_of p) l) (λ y. expect k.Colon >> (x.expression (suc d) (x.whole_of p) >>= (λ z. pure (tree.Choice e y z)))) f m (whole_of_is d p l ∙ h)
    ∙ then_ok (expect k.Colon m) (λ _. x.expression (suc d) (x.whole_of p) >>= (λ z. pure (tree.Choice e f z))) tt n (expect_is k.Colon w m n t)
    ∙ then_ok (x.expression (suc d) (x.whole_of p) n) (λ z. pure (tree.Choice e f z)) g o (whole_of_is d p n ∙ r) in
    whole_is (suc d) (x.expression (suc d)) p (found_as false e) (tree.Choice e f g) i j o a picked en

-- ---- lists

one_is : (item : Parser Expr) (n : ℕ) (found : List Expr) (e : Expr) (i j : Input) → 0 < n → item i ≡ Ok (e, j) → kind j ≢ k.Comma → x.list_from item n found i ≡ Ok (found ++ e ∷ [], j)
unfolding x.list_from
one_is item zero found e i j some h ne = absurd (omega arith)
one_is item (suc n) found e i j some h ne =
    then_ok (item i) (λ y. eat k.Comma >>= (λ b. cond b (λ m. x.list_from item n (found ++ y ∷ []) (newlines m)) (pure (found ++ y ∷ [])))) e j h
    ∙ leaves k.Comma j (λ m. x.list_from item n (found ++ e ∷ []) (newlines m)) (pure (found ++ e ∷ [])) ne

several_is : (item : Parser Expr) (n : ℕ) (found : List Expr) (e : Expr) (es : List Expr) (w : List ℕ) (i j l m o : Input) → item i ≡ Ok (e, j) → Spells k.Comma w j l → newlines l ≡ m
    → x.list_from item n (found ++ e ∷ []) m ≡ Ok ((found ++ e ∷ []) ++ es, o) → x.list_from item (suc n) found i ≡ Ok (found ++ e ∷ es, o)
unfolding x.list_from
several_is item n found e es w i j l m o h s t r =
    then_ok (item i) (λ y. eat k.Comma >>= (λ b. cond b (λ q. x.list_from item n (found ++ y ∷ []) (newlines q)) (pure (found ++ y ∷ [])))) e j h
    ∙ eats k.Comma w j l (λ q. x.list_from item n (found ++ e ∷ []) (newlines q)) (pure (found ++ e ∷ [])) s
    ∙ ap (x.list_from item n (found ++ e ∷ [])) t ∙ r
    ∙ ap (λ all. done all o) (append_assoc found (e ∷ []) es)

several_complete : (item : Parser Expr) (e : Expr) (es : List Expr) (w : List ℕ) (i j l m o : Input) → item i ≡ Ok (e, j) → Spells k.Comma w j l → newlines l ≡ m → left m < left i
    → ((n : ℕ) (found : List Expr) → left m ≤ n → x.list_from item n found m ≡ Ok (found ++ es, o))
    → (n : ℕ) (found : List Expr) → left i ≤ n → x.list_from item n found i ≡ Ok (found ++ e ∷ es, o)
several_complete item e es w i j l m o h s t less rest zero found le = absurd (omega arith)
several_complete item e es w i j l m o h s t less rest (suc n) found le = several_is item n found e es w i j l m o h s t (rest n (found ++ e ∷ []) (omega arith))

-- ---- the list of a print

print_begun : (d : ℕ) (c : Kind) → c ≢ k.LeftParen → c ≢ k.Greater → x.print_list_by d (x.expression d) c ≡ x.begun d (x.expression d) (x.printed_from d (x.expression d))
print_begun d k.LeftParen h g = absurd (h refl)
print_begun d k.Greater h g = absurd (g refl)
print_begun d _ h g = refl

kind_not : (c : Kind) (i : Input) → sees c i ≡ false → kind i ≢ c
kind_not c i h e = let s : sees c i ≡ true = seen c i e in cc

print_opened : (d : ℕ) (e : Expr) (j : Input) (en : Enclosed) (m : Input) → and_then (x.opened en m) (x.finished d (x.expression d) true) ≡ Ok (e, j)
    → x.printed_opened d (x.expression d) en m ≡ x.printed_rest d (x.expression d) e j
unfolding x.printed_from x.printed_several
print_opened d e j (inside.One y) m h = then_ok (x.finished d (x.expression d) true (start.Base (tree.Group y)) m) (x.printed_rest d (x.expression d)) e j h
print_opened d e j (inside.Several es) m h =
    let a = and_then_ok (x.opened (inside.Several es) m) (x.finished d (x.expression d) true) (e, j) h in
    let b = and_then_ok (expect k.In m) _ a.0 a.1 in
    let at = (expect_ok k.In m b.0 b.1).is_kind in
    ap (λ t. cond t (and_then (x.opened (inside.Several es) m) (x.printed_from d (x.expression d))) (and_then (not_redirected true m) (λ _. pure es))) (seen k.In m at)
    ∙ sym (bind_assoc (x.opened (inside.Several es) m) (x.finished d (x.expression d) true) (x.printed_rest d (x.expression d)))
    ∙ then_ok (and_then (x.opened (inside.Several es) m) (x.finished d (x.expression d) true)) (x.printed_rest d (x.expression d)) e j h

print_paren : (d : ℕ) (e : Expr) (j : Input) (o : Outcome Enclosed) → and_then (and_then o x.opened) (x.finished d (x.expression d) true) ≡ Ok (e, j)
    → and_then o (x.printed_opened d (x.expression d)) ≡ x.printed_rest d (x.expression d) e j
print_paren d e j (Ok p) h = print_opened d e j p.0 p.1 h
print_paren d e j (Err r) h = cc

-- a list whose first expression is read as a whole one
print_first : (d : ℕ) (e : Expr) (i j : Input) → x.whole d (x.expression d) true i ≡ Ok (e, j) → kind i ≢ k.Greater → x.print_list d (x.expression d) i ≡ x.printed_rest d (x.expression d) e j
unfolding x.print_list x.whole x.opening x.printed_from
print_first d e i j h ne = go (sees k.LeftParen i) refl
  where
    go : (b : Bool) → sees k.LeftParen i ≡ b → x.print_list_by d (x.expression d) (kind i) i ≡ x.printed_rest d (x.expression d) e j
    go true s =
        let at : kind i ≡ k.LeftParen = sees_kind k.LeftParen i s in
        let same : and_then (x.opening_by d (x.expression d) (kind i) i) (x.finished d (x.expression d) true) ≡ and_then (x.opening_by d (x.expression d) k.LeftParen i) (x.finished d (x.expression d) true) = ap (λ c. and_then (x.opening_by d (x.expression d) c i) (x.finished d (x.expression d) true)) at in
        by_kind (x.print_list_by d (x.expression d)) k.LeftParen i at ∙ print_paren d e j (x.enclosed d (x.expression d) i) (sym same ∙ h)
    go false s =
        ap (λ q. q i) (print_begun d (kind i) (kind_not k.LeftParen i s) ne)
        ∙ sym (bind_assoc (x.opening d (x.expression d) i) (x.finished d (x.expression d) true) (x.printed_rest d (x.expression d)))
        ∙ then_ok (and_then (x.opening d (x.expression d) i) (x.finished d (x.expression d) true)) (x.printed_rest d (x.expression d)) e j h

print_one : (d : ℕ) (e : Expr) (i j : Input) → x.whole d (x.expression d) true i ≡ Ok (e, j) → kind i ≢ k.Greater → kind j ≢ k.Comma → x.print_list d (x.expression d) i ≡ Ok (e ∷ [], j)
unfolding x.printed_rest
print_one d e i j h ne off = print_first d e i j h ne ∙ leaves k.Comma j (λ m. x.list (x.whole d (x.expression d) true) (e ∷ []) (newlines m)) (pure (e ∷ [])) off

print_more : (d : ℕ) (e : Expr) (es : List Expr) (w : List ℕ) (i j l m o : Input) → x.whole d (x.expression d) true i ≡ Ok (e, j) → kind i ≢ k.Greater → Spells k.Comma w j l → newlines l ≡ m
    → x.list_from (x.whole d (x.expression d) true) (left m) (e ∷ []) m ≡ Ok (e ∷ es, o) → x.print_list d (x.expression d) i ≡ Ok (e ∷ es, o)
unfolding x.printed_rest x.list
print_more d e es w i j l m o h ne s t g =
    print_first d e i j h ne
    ∙ eats k.Comma w j l (λ q. x.list (x.whole d (x.expression d) true) (e ∷ []) (newlines q)) (pure (e ∷ [])) s
    ∙ ap (x.list (x.whole d (x.expression d) true) (e ∷ [])) t ∙ g

print_group_is : (d : ℕ) (es : List Expr) (i q : Input) → kind i ≡ k.LeftParen → x.enclosed d (x.expression d) i ≡ Ok (inside.Several es, q) → ends (kind q) ≡ true → x.print_list d (x.expression d) i ≡ Ok (es, q)
unfolding x.print_list x.printed_several
print_group_is d es i q at h en =
    by_kind (x.print_list_by d (x.expression d)) k.LeftParen i at
    ∙ then_ok (x.enclosed d (x.expression d) i) (x.printed_opened d (x.expression d)) (inside.Several es) q h
    ∙ ap (λ t. cond t (and_then (x.opened (inside.Several es) q) (x.printed_from d (x.expression d))) (and_then (not_redirected true q) (λ _. pure es))) (not_seen k.In q (apart ends (kind q) k.In en refl))
    ∙ then_ok (not_redirected true q) (λ _. pure es) tt q (redirected_none d (x.expression d) true q (apart ends (kind q) k.Greater en refl))

-- ---- all rules together

-- what the parser reads, by what stands behind it
abbrev pub Complete : ℕ → Phrase → Input → Input → Type 0
Complete d (Whole p e) i j = ends (kind j) ≡ true → x.whole d (x.expression d) p i ≡ Ok (e, j)
Complete d (Test p b n e) i j = n ≤ 2 → behind b n (kind j) ≡ true → x.begun d (x.expression d) (x.junction d (x.expression d) p n) i ≡ Ok (found_as b e, j)
Complete d (Further p b n es) i j = (kind i ≡ table.mark (suc n)) × (n ≤ 1 → behind b (suc n) (kind j) ≡ true → (turns : ℕ) (found : List Expr) → left i ≤ turns
    → x.further_from (suc n) (x.begun d (x.expression d) (x.junction d (x.expression d) p n)) turns found i ≡ Ok (found_as b (tree.Logic (table.logic (suc n)) (found ++ es)), j))
Complete d (Member p e) i j = stops (kind j) ≡ true → x.begun d (x.expression d) (x.operand d (x.expression d) p) i ≡ x.member e j
Complete d (Level p n e) i j = ReadsLevel d p n e i j
Complete d (Links p zero xs) i j = Unit {0}
Complete d (Links p (suc n) xs) i j = ReadsLinks d p n xs i j
Complete d (Unary e) i j = ReadsUnary d e i j
Complete d (Power e) i j = ReadsUnary d e i j
Complete d (Postfix e) i j = ReadsPostfix d e i j
Complete d (Dollar e) i j = kind j ≢ k.LeftBracket → x.dollar d (x.expression d) i ≡ Ok (e, j)
Complete d (Primary e) i j = Reads d e i j
Complete d (APlace y) i j = ReadsPlace d y i j
Complete d (Arguments es) i j = (kind i ≡ k.LeftParen) × (x.arguments d (x.expression d) i ≡ Ok (es, j))
Complete d (Listed p es) i j = (n : ℕ) (found : List Expr) → left i ≤ n → ends (kind j) ≡ true → kind j ≢ k.Comma → x.list_from (x.whole d (x.expression d) p) n found i ≡ Ok (found ++ es, j)
Complete d (PrintList es) i j = ends (kind j) ≡ true → kind j ≢ k.Comma → x.print_list d (x.expression d) i ≡ Ok (es, j)

-- a list in brackets, from its first expression on
bracket_list : (d : ℕ) (es : List Expr) (w : List ℕ) (c : Kind) (i j l : Input) → Complete d (Listed false es) i j → Spells c w j l → ends c ≡ true → c ≢ k.Comma → x.list (x.expression (suc d) want.Whole) [] i ≡ Ok (es, j)
bracket_list d es w c i j l h s en ne =
    list_is d [] es es i j (h (left i) [] (omega arith) (ap ends s.is_kind ∙ en) (λ q. ne (sym s.is_kind ∙ q)))

enclosed_list : (d : ℕ) (e : Expr) (es : List Expr) (u v w : List ℕ) (i j l m n o q : Input) → Spells k.LeftParen u i j → x.whole d (x.expression d) false j ≡ Ok (e, l) → Spells k.Comma v l m → newlines m ≡ n
    → Complete d (Listed false es) n o → Spells k.RightParen w o q → x.enclosed (suc d) (x.expression (suc d)) i ≡ Ok (inside.Several (e ∷ es), q)
enclosed_list d e es u v w i j l m n o q s h c t g r =
    enclosed_several d e es u v w i j l m n o q s h c t
    (list_is d (e ∷ []) es (e ∷ es) n o (g (left n) (e ∷ []) (omega arith) (ap ends r.is_kind) (λ z. (let no : k.RightParen ≡ k.Comma = sym r.is_kind ∙ z in cc)))) r

last_is : (d : ℕ) (p b : Bool) (n : ℕ) (e : Expr) (w : List ℕ) (i j l m : Input) → Spells (table.mark (suc n)) w i j → Newlines j l → begins (kind l) ≡ true → left l ≤ left j → Complete d (Test p b n e) l m → Complete d (Further p b n (e ∷ [])) i m
last_is d p b n e w i j l m s t fr less h = (
  s.is_kind,
  λ small en turns found fuel.
      let operand = x.begun d (x.expression d) (x.junction d (x.expression d) p n) in
      let a = spells_shrink (table.mark (suc n)) w i j (mark_not_end (suc n)) s in
      further_some n operand turns found b e w i j l m _ (omega arith) s (newlines_exact j l (not_newline l fr) t) (h (omega arith) (less_behind b n (kind m) en))
      (λ q same. further_last n operand q found b e m small en),
)

further_is : (d : ℕ) (p b : Bool) (n : ℕ) (e : Expr) (es : List Expr) (w : List ℕ) (i j l m o : Input) → Spells (table.mark (suc n)) w i j → Newlines j l → begins (kind l) ≡ true → left m < left j → Complete d (Test p false n e) l m
    → Complete d (Further p b n es) m o → Complete d (Further p b n (e ∷ es)) i o
further_is d p b n e es w i j l m o s t fr less h g = (
  s.is_kind,
  λ small en turns found fuel.
      let operand = x.begun d (x.expression d) (x.junction d (x.expression d) p n) in
      let a = spells_shrink (table.mark (suc n)) w i j (mark_not_end (suc n)) s in
      further_some n operand turns found false e w i j l m _ (omega arith) s (newlines_exact j l (not_newline l fr) t) (h (omega arith) (ap (behind false n) g.0 ∙ mark_behind n small))
      (λ q same. g.1 small en q (found ++ e ∷ []) (omega arith) ∙ ap (λ ys. done (found_as b (tree.Logic (table.logic (suc n)) ys)) o) (append_assoc found (e ∷ []) es)),
)

pub complete : {d : ℕ} {f : Phrase} {i j : Input} → Derives d f i j → Complete d f i j
complete (test {d = d} {p = p} {b = b} {e = e} {i = i} {j = j} g) = λ en.
    whole_is d (x.expression d) p (found_as b e) e i j j (complete g (omega arith) (ends_behind b 2 (kind j) en)) (chosen_none d (x.expression d) p (found_as b e) j (apart ends (kind j) k.Question en refl)) en
complete (choice {d = d} {p = p} {e = e} {f = f} {g = r} {v = v} {w = w} {i = i} {j = j} {l = l} {m = m} {n = n} {o = o} g s h t a) = λ en.
    choice_is d p e f r v w i j l m n o (complete g (omega arith) (ap asks s.is_kind)) s (complete h (ap ends t.is_kind)) t (complete a en) en
complete (lone {d = d} {n = n} {p = p} {b = b} {e = e} {i = i} {j = j} g) = λ small h.
    lone_is d (x.expression d) p n (found_as b e) i j (complete g (omega arith) (less_behind b n (kind j) h)) (behind_not_mark b n (kind j) (omega arith) h)
complete (joint {d = d} {n = n} {p = p} {b = b} {e = e} {f = f} {es = es} {i = i} {j = j} {l = l} g h) = λ small en.
    (let r = complete h in
    joint_is d (x.expression d) p n e i j _ (complete g (omega arith) (ap (behind false n) r.0 ∙ mark_behind n (omega arith))) r.0 (r.1 (omega arith) en (left j) (e ∷ []) (omega arith)))
complete (last {d = d} {n = n} {p = p} {b = b} {e = e} {w = w} {i = i} {j = j} {l = l} {m = m} s t g) = last_is d p b n e w i j l m s t (fronts g) (newlines_shrink j l t) (complete g)
complete (further {d = d} {n = n} {p = p} {b = b} {e = e} {es = es} {w = w} {i = i} {j = j} {l = l} {m = m} {o = o} s t g h) =
    let a = newlines_shrink j l t in
    let c = shrinks g in
    further_is d p b n e es w i j l m o s t (fronts g) (omega arith) (complete g) (complete h)
complete (assign {d = d} {p = p} {c = c} {how = how} {x = y} {e = e} {w = w} {i = i} {j = j} {l = l} {m = m} g s a h) = λ small en. assign_is d p c how y e w i j l m (complete g) s a (complete h en)
complete (contains {d = d} {p = p} {e = e} {ns = ns} {i = i} {j = j} {l = l} g s) = λ small en. contains_is d p e ns i j l (complete g) s en
complete (operated {d = d} {p = p} {e = e} {i = i} {j = j} g) = λ st. operated_is d p e i j (complete g) st
complete (listed_in {d = d} {p = p} {e = e} {f = f} {es = es} {u = u} {v = v} {w = w} {x = y} {i = i} {j = j} {l = l} {m = m} {n = n} {o = o} s (several {w = c} {j = q} {l = r} {m = z} g a t h) b c1 c2) = λ st.
    listed_in_is (suc d) p (e ∷ f ∷ es) w y i m n o s.is_kind (enclosed_list d e (f ∷ es) u c v i j q r z l m s (complete g (ap ends a.is_kind)) a (newlines_exact r z (not_newline _ (fronts h)) t) (complete h) b) c1 c2
complete (chain {d = d} {n = n} {p = p} {e = e} {xs = xs} {i = i} {j = j} {l = l} g h) = chain_reads d p n e xs i j l (complete g) (complete h)
complete (no_more {n = zero}) = tt
complete {i = i} (no_more {d = d} {n = suc n} {p = p}) = no_more_reads d p n i
complete (joined {d = d} {n = n} {p = p} {o = o} {e = e} {xs = xs} {i = i} {j = j} {l = l} {m = m} s g h alone) =
    joined_reads d p n o e xs i j l m alone (joins_shrink p (suc n) o i j s) (shrinks g) s (complete g) (complete h)
complete (tight {d = d} {p = p} {e = e} {i = i} {j = j} g) = tight_reads d p e i j (complete g)
complete (unsigned g) = complete g
complete (signed {d = d} {c = c} {w = w} {s = s} {e = e} {i = i} {j = j} {l = l} t h g) = signed_reads d c w s e i j l t h (complete g)
complete (base {d = d} {e = e} {i = i} {j = j} g) = base_reads d e i j (complete g)
complete (raised {d = d} {e = e} {f = f} {w = w} {i = i} {j = j} {l = l} {m = m} g s h) = raised_reads d w e f i j l m (complete g) s (complete h)
complete (unchanged b g) = let r = complete g in r.as_postfix b
complete (bare {d = d} {x = y} {i = i} {j = j} g free) = bare_reads d y i j (complete g) free
complete (changed_after {d = d} {c = c} {how = how} {x = y} {w = w} {i = i} {j = j} {l = l} g s e) = after_reads d c how y w i j l (complete g) s e
complete (changed_before {d = d} {c = c} {how = how} {x = y} {w = w} {i = i} {j = j} {l = l} s e g) = before_reads d c how y w i j l s e (complete g)
complete {d = d} {i = i} {j = j} (named {w = w} s) = record { begins_so = ap table.begins_place s.is_kind; reads = λ ne. named_is d w i j s ne }
complete (element {d = d} {es = es} {v = u} {w = v} {x = w} {i = i} {j = j} {l = l} {m = m} {n = n} s t g r) =
    record { begins_so = ap table.begins_place s.is_kind; reads = λ ne. element_is d es u v w i j l m n s t (bracket_list d es w k.RightBracket l m n (complete g) r refl (λ q. cc)) r }
complete (field {d = d} {e = e} {w = w} {i = i} {j = j} {l = l} s g) = record { begins_so = ap table.begins_place s.is_kind; reads = λ ne. field_is d e w i j l s (complete g ne) }
complete (dollar_before {d = d} {c = c} {how = how} {x = y} {w = w} {i = i} {j = j} {l = l} s e g) = λ ne. (let r = complete g in dollar_before_is d c how y w i j l s e (r.reads ne))
complete (dollar {d = d} {e = e} {i = i} {j = j} free g) = λ ne. dollar_is d e i j free (complete g) ne
complete (of_place {d = d} {x = y} {i = i} {j = j} g) = place_reads d y i j (complete g)
complete {d = d} {i = i} {j = j} (number {n = n} {w = w} s e) = number_reads d n w i j s e
complete {d = d} {i = i} {j = j} (text {w = w} s) = text_reads d w i j s
complete {d = d} {i = i} {j = j} (ere {w = w} s) = ere_reads d w i j s
complete (group {d = d} {e = e} {v = v} {w = w} {i = i} {j = j} {l = l} {m = m} s g t) = group_reads d e v w i j l m s (complete g (ap ends t.is_kind)) t
complete (call {d = d} {es = es} {w = w} {i = i} {j = j} {l = l} s g) = let h = complete g in call_reads d es w i j l s h.1
complete (builtin {d = d} {f = f} {es = es} {w = w} {i = i} {j = j} {l = l} s e g t) = let h = complete g in builtin_reads d f es w i j l s e h.0 h.1 t
complete {d = d} {i = i} {j = j} (bare_length {w = w} s e ne) = bare_length_reads d w i j s e ne
complete (no_argument {d = d} {v = v} {w = w} {i = i} {j = j} {l = l} s t) = (s.is_kind, arguments_none d v w i j l s t)
complete (some_arguments {d = d} {es = es} {v = v} {w = w} {i = i} {j = j} {l = l} {m = m} s g t) =
    (s.is_kind, arguments_some d es v w i j l m s (apart begins (kind j) k.RightParen (fronts g) refl) (bracket_list d es w k.RightParen j l m (complete g) t refl (λ q. cc)) t)
complete {d = d} {i = i} {j = j} (getline {w = w} s b ne) = getline_reads d w i j s b ne
complete (getline_to {d = d} {x = y} {w = w} {i = i} {j = j} {l = l} s g free ne) = getline_to_reads d y w i j l s (complete g) free ne
complete (one {d = d} {p = p} {e = e} {i = i} {j = j} g) = λ n found le en ne.
    let a = some_left i (apart begins (kind i) k.EndOfText (fronts g) refl) in
    one_is (x.whole d (x.expression d) p) n found e i j (omega arith) (complete g en) ne
complete (several {d = d} {p = p} {e = e} {es = es} {w = w} {i = i} {j = j} {l = l} {m = m} {n = o} g s t h) = λ n found le en ne.
    let a = shrinks g in
    let b = spells_shrink k.Comma w j l (λ q. cc) s in
    let c = newlines_shrink l m t in
    several_complete (x.whole d (x.expression d) p) e es w i j l m o (complete g (ap ends s.is_kind)) s (newlines_exact l m (not_newline _ (fronts h)) t) (omega arith) (λ q f small. complete h q f small en ne) n found le
complete (print_list {d = d} (one {e = e} {i = i} {j = j} g)) = λ en ne. print_one d e i j (complete g en) (apart begins (kind i) k.Greater (fronts g) refl) ne
complete (print_list {d = d} (several {e = e} {es = es} {w = w} {i = i} {j = j} {l = l} {m = m} {n = o} g s t h)) = λ en ne.
    print_more d e es w i j l m o (complete g (ap ends s.is_kind)) (apart begins (kind i) k.Greater (fronts g) refl) s (newlines_exact l m (not_newline _ (fronts h)) t) (complete h (left m) (e ∷ []) (omega arith) en ne)
complete (print_group {d = d} {e = e} {f = f} {es = es} {v = u} {w = w} {i = i} {j = j} {l = l} {m = m} s (several {w = c} {j = q} {l = r} {m = z} g a t h) b) = λ en ne.
    print_group_is (suc d) (e ∷ f ∷ es) i m s.is_kind (enclosed_list d e (f ∷ es) u c w i j q r z l m s (complete g (ap ends a.is_kind)) a (newlines_exact r z (not_newline _ (fronts h)) t) (complete h) b) en

-- ---- what the calls answer

pub whole_complete : (d : ℕ) (p : Bool) (e : Expr) (i j : Input) → Derives d (Whole p e) i j → ends (kind j) ≡ true → x.expression (suc d) (x.whole_of p) i ≡ Ok (e, j)
whole_complete d p e i j g en = whole_of_is d p i ∙ complete g en

pub place_complete : (d : ℕ) (y : Place) (i j : Input) → Derives d (APlace y) i j → kind j ≢ k.LeftBracket → x.lone_place (suc d) i ≡ Ok (y, j)
unfolding x.lone_place
place_complete d y i j g ne = let r = complete g in r.reads ne

pub printed_complete : (d : ℕ) (es : List Expr) (i j : Input) → Derives d (PrintList es) i j → ends (kind j) ≡ true → kind j ≢ k.Comma → x.printed (suc d) i ≡ Ok (es, j)
unfolding x.printed
printed_complete d es i j g en ne = complete g en ne
