-- How an operand becomes an expression: what goes on behind it, and what does not.
use Rattle.std.proofs.Common.{◌≡◌, ◌≢◌, ℕ, zero, suc, ◌<◌, ◌≤◌, Bool, true, false, not, ◌&&◌, ◌||◌, cond, List, [], ◌∷◌, ◌++◌, Option, Some, None, Ok, Err, refl, sym, ap, ◌∙◌, append_assoc, append-nil, arith}
use Rattle.rawk_keywords.specs.declared.token.Kind.{Kind}
use Rattle.rawk_keywords.specs.declared.token.Kind.TheVariants as k
use Rattle.rawk_lexer.specs.Lex.{kind, next, left}
use Rattle.rawk_parsing.specs.declared.refusal.RefusalKind.TheVariants as refused
use Rattle.rawk_parsing.specs.declared.parse_error.ParseError.TheVariants.{Here}
use Rattle.rawk_expression.specs.declared.grammar.Wanted.{Wanted}
use Rattle.rawk_expression.specs.declared.operands.Start.{Start}
use Rattle.rawk_expression.specs.declared.operands.Start.TheVariants as start
use Rattle.rawk_expression.specs.declared.junctions.Operand.{Operand}
use Rattle.rawk_parsing.specs.declared.tree.Name.{Name}
use Rattle.rawk_parsing.specs.declared.tree.Expr.{Expr}
use Rattle.rawk_parsing.specs.declared.tree.Expr.TheVariants as tree
use Rattle.rawk_parsing.specs.declared.tree.Link.{Link}
use Rattle.rawk_parsing.specs.Parser.{Input, Outcome, Parser, and_then, ◌>>=◌, ◌>>◌, pure, newlines, name_at, bare_name, not_redirected}
use Rattle.rawk_parsing.specs.Tables as table
use Rattle.rawk_expression.specs.Expression as x
use Rattle.rawk_parsing.specs.Tokens.{Spells, Arrays, no_array, array}
use Rattle.rawk_parsing.specs.Steps.{done}
use Rattle.rawk_expression.specs.Follow.{apart, bare_name_is, behind, behind_not_mark, eats, ends, leaves, not_seen, seen, then_ok}
use Rattle.rawk_expression.specs.Fronts.{spells_shrink}

-- an operand of `&&` as it is found, by whether it ends in an assignment
abbrev pub found_as : Bool → Expr → Operand
found_as b e = record { tree = e; is_open = b }

pub bind_assoc : {A B C : Type 0} (o : Outcome A) (f : A → Parser B) (g : B → Parser C) → and_then (and_then o f) g ≡ and_then o (λ a. f a >>= g)
bind_assoc (Ok p) f g = refl
bind_assoc (Err e) f g = refl

-- ---- levels

pub stop : (p : Bool) (level : ℕ) (operand : Parser Expr) (n : ℕ) (found : List Link) (j : Input) → table.joins p level (kind j) ≡ None → x.links_from p level operand n found j ≡ Ok (found, j)
unfolding x.links_from
stop p level operand zero found j h = refl
stop p level operand (suc n) found j h = ap (λ q. x.linked level operand (x.links_from p level operand n) found q j) h

abbrev pub start_of : Option Expr → Start
start_of None = start.Nothing
start_of (Some e) = start.Base e

-- ---- `in`

pub no_arrays_from : (n : ℕ) (found : List Name) (j : Input) → kind j ≢ k.In → x.arrays_from n found j ≡ Ok (found, j)
unfolding x.arrays_from
no_arrays_from zero found j ne = refl
no_arrays_from (suc n) found j ne = leaves k.In j _ (pure found) ne

more_arrays : (n : ℕ) (found ns : List Name) (v w : List ℕ) (i j l m : Input) → 0 < n → Spells k.In v i j → Spells k.Name w j l
    → ((turns : ℕ) → n ≡ suc turns → x.arrays_from turns (found ++ name_at j ∷ []) l ≡ Ok ((found ++ name_at j ∷ []) ++ ns, m)) → x.arrays_from n found i ≡ Ok (found ++ name_at j ∷ ns, m)
unfolding x.arrays_from
more_arrays zero found ns v w i j l m some s t rest = absurd (omega arith)
more_arrays (suc n) found ns v w i j l m some s t rest =
    eats k.In v i j (bare_name >>= (λ a. x.arrays_from n (found ++ a ∷ []))) (pure found) s
    ∙ then_ok (bare_name j) (λ a. x.arrays_from n (found ++ a ∷ [])) (name_at j) l (bare_name_is w j l t)
    ∙ rest n refl ∙ ap (λ q. done q m) (append_assoc found (name_at j ∷ []) ns)

arrays_from_is : (n : ℕ) (found ns : List Name) (i j : Input) → Arrays ns i j → left i ≤ n → kind j ≢ k.In → x.arrays_from n found i ≡ Ok (found ++ ns, j)
arrays_from_is n found ns i j no_array le ne = no_arrays_from n found i ne ∙ ap (λ q. done q i) (sym (append-nil found))
arrays_from_is n found ns i m (array {ns = os} {v = v} {w = w} {j = j} {l = l} s t g) le ne =
    let a = spells_shrink k.In v i j (λ q. cc) s in
    let b = spells_shrink k.Name w j l (λ q. cc) t in
    more_arrays n found os v w i j l m (omega arith) s t (λ turns e. arrays_from_is turns (found ++ name_at j ∷ []) os l m g (omega arith) ne)

pub member_is : (e : Expr) (ns : List Name) (i j : Input) → Arrays ns i j → kind j ≢ k.In → x.member e i ≡ Ok (found_as false (x.contained e ns), j)
unfolding x.member x.arrays
member_is e ns i j g ne = then_ok (x.arrays i) (λ ns. pure (x.closed (x.contained e ns))) ns j (arrays_from_is (left i) [] ns i j g (omega arith) ne)

pub arrays_front : (f : Kind → Bool) (ns : List Name) (i j : Input) → Arrays ns i j → f k.In ≡ true → f (kind j) ≡ true → f (kind i) ≡ true
arrays_front f ns i j no_array h g = g
arrays_front f ns i j (array s t r) h g = ap f s.is_kind ∙ h

-- ---- `&&` and `||`

pub further_none : (n : ℕ) (operand : Parser Operand) (turns : ℕ) (found : List Expr) (j : Input) → kind j ≢ table.mark (suc n) → x.further_from (suc n) operand turns found j ≡ Ok (found_as false (tree.Logic (table.logic (suc n)) found), j)
unfolding x.further_from
further_none n operand zero found j ne = refl
further_none n operand (suc turns) found j ne = leaves (table.mark (suc n)) j (λ m. and_then (operand (newlines m)) (x.tested (suc n) (x.further_from (suc n) operand turns) found)) (pure (found_as false (tree.Logic (table.logic (suc n)) found))) ne

-- one operand more, and then what goes on
pub further_some : (n : ℕ) (operand : Parser Operand) (turns : ℕ) (found : List Expr) (b : Bool) (e : Expr) (w : List ℕ) (i j l m : Input) (r : Outcome Operand) → 0 < turns → Spells (table.mark (suc n)) w i j → newlines j ≡ l → operand l ≡ Ok (found_as b e, m)
    → ((q : ℕ) → turns ≡ suc q → x.tested (suc n) (x.further_from (suc n) operand q) found (found_as b e) m ≡ r) → x.further_from (suc n) operand turns found i ≡ r
unfolding x.further_from
further_some n operand zero found b e w i j l m r some s t h rest = absurd (omega arith)
further_some n operand (suc turns) found b e w i j l m r some s t h rest =
    eats (table.mark (suc n)) w i j (λ q. and_then (operand (newlines q)) (x.tested (suc n) (x.further_from (suc n) operand turns) found)) (pure (found_as false (tree.Logic (table.logic (suc n)) found))) s
    ∙ then_ok (operand (newlines j)) (x.tested (suc n) (x.further_from (suc n) operand turns) found) (found_as b e) m (ap operand t ∙ h)
    ∙ rest turns refl

-- the last operand; only behind one that is no assignment an operator could come
pub further_last : (n : ℕ) (operand : Parser Operand) (turns : ℕ) (found : List Expr) (b : Bool) (e : Expr) (m : Input) → n ≤ 1 → behind b (suc n) (kind m) ≡ true
    → x.tested (suc n) (x.further_from (suc n) operand turns) found (found_as b e) m ≡ Ok (found_as b (tree.Logic (table.logic (suc n)) (found ++ e ∷ [])), m)
further_last n operand turns found true e m small h = refl
further_last n operand turns found false e m small h = further_none n operand turns (found ++ e ∷ []) m (behind_not_mark false n (kind m) small h)

joined_none : (n : ℕ) (operand : Parser Operand) (o : Operand) (j : Input) → kind j ≢ table.mark (suc n) → x.joined (suc n) operand o j ≡ Ok (o, j)
unfolding x.joined
joined_none n operand o j ne =
    ap (λ b. cond (o.is_open || not b) (Ok (o, j)) (x.further (suc n) operand o.tree j)) (not_seen (table.mark (suc n)) j ne) ∙ go o.is_open
  where
    go : (b : Bool) → cond (b || true) (Ok (o, j)) (x.further (suc n) operand o.tree j) ≡ Ok (o, j)
    go true = refl
    go false = refl

joined_some : (n : ℕ) (operand : Parser Operand) (e : Expr) (j : Input) → kind j ≡ table.mark (suc n) → x.joined (suc n) operand (found_as false e) j ≡ x.further_from (suc n) operand (left j) (e ∷ []) j
unfolding x.joined x.further
joined_some n operand e j at = ap (λ b. cond (not b) (Ok (found_as false e, j)) (x.further (suc n) operand e j)) (seen (table.mark (suc n)) j at)

module _ (room : ℕ) (deeper : Wanted → Parser Expr) where
  pub raised_none : (e : Expr) (j : Input) → kind j ≢ k.Caret → x.raised room deeper e j ≡ Ok (e, j)
  unfolding x.raised
  raised_none e j ne = leaves k.Caret j _ (pure e) ne

  pub unary_postfix : (e : Expr) (i j : Input) → table.sign (kind i) ≡ None → x.postfix room deeper i ≡ Ok (e, j) → x.unary room deeper None i ≡ x.raised room deeper e j
  unary_postfix e i j s h =
      ap (λ q. x.unary_by room deeper q i) s ∙ then_ok (x.postfix room deeper i) (x.raised room deeper) e j h

  pub operand_start : (p : Bool) (head : Option Expr) (m : Input) → x.operand room deeper p (start_of head) m ≡ and_then (x.level room deeper p head 5 m) x.member
  operand_start p None m = refl
  operand_start p (Some e) m = refl

  -- operands of a level are read from their begin on
  begun_up : (p : Bool) (n : ℕ) (i : Input)
      → x.begun room deeper (x.junction room deeper p (suc n)) i ≡ and_then (x.begun room deeper (x.junction room deeper p n) i) (x.joined (suc n) (x.begun room deeper (x.junction room deeper p n)))
  unfolding x.junction
  begun_up p n i = sym (bind_assoc (x.opening room deeper i) (x.junction room deeper p n) (x.joined (suc n) (x.begun room deeper (x.junction room deeper p n))))

  pub lone_is : (p : Bool) (n : ℕ) (o : Operand) (i j : Input) → x.begun room deeper (x.junction room deeper p n) i ≡ Ok (o, j) → kind j ≢ table.mark (suc n) → x.begun room deeper (x.junction room deeper p (suc n)) i ≡ Ok (o, j)
  lone_is p n o i j h ne =
      begun_up p n i
      ∙ then_ok (x.begun room deeper (x.junction room deeper p n) i) (x.joined (suc n) (x.begun room deeper (x.junction room deeper p n))) o j h
      ∙ joined_none n (x.begun room deeper (x.junction room deeper p n)) o j ne

  pub joint_is : (p : Bool) (n : ℕ) (e : Expr) (i j : Input) (r : Outcome Operand) → x.begun room deeper (x.junction room deeper p n) i ≡ Ok (found_as false e, j) → kind j ≡ table.mark (suc n)
      → x.further_from (suc n) (x.begun room deeper (x.junction room deeper p n)) (left j) (e ∷ []) j ≡ r → x.begun room deeper (x.junction room deeper p (suc n)) i ≡ r
  joint_is p n e i j r h at rest =
      begun_up p n i
      ∙ then_ok (x.begun room deeper (x.junction room deeper p n) i) (x.joined (suc n) (x.begun room deeper (x.junction room deeper p n))) (found_as false e) j h
      ∙ joined_some n (x.begun room deeper (x.junction room deeper p n)) e j at ∙ rest

  pub chosen_none : (p : Bool) (o : Operand) (j : Input) → kind j ≢ k.Question → x.chosen room deeper p o j ≡ Ok (o.tree, j)
  unfolding x.chosen
  chosen_none p o j ne =
      ap (λ b. cond (o.is_open || not b) (Ok (o.tree, j)) (x.choice room deeper p o.tree (next j))) (not_seen k.Question j ne) ∙ go o.is_open
    where
      go : (b : Bool) → cond (b || true) (Ok (o.tree, j)) (x.choice room deeper p o.tree (next j)) ≡ Ok (o.tree, j)
      go true = refl
      go false = refl

  abbrev pub refusing : Input → Outcome (Unit {0})
  refusing j = Err (Here refused.LeftOut (left j))

  pub redirected_none : (p : Bool) (j : Input) → kind j ≢ k.Greater → not_redirected p j ≡ Ok (tt, j)
  unfolding not_redirected
  redirected_none p j ne = ap (λ b. cond (p && b) (refusing j) (done tt j)) (not_seen k.Greater j ne) ∙ go p
    where
      go : (b : Bool) → cond (b && false) (refusing j) (done tt j) ≡ done tt j
      go true = refl
      go false = refl

  -- a whole expression from its test on
  pub whole_is : (p : Bool) (o : Operand) (e : Expr) (i m j : Input) → x.begun room deeper (x.junction room deeper p 2) i ≡ Ok (o, m) → x.chosen room deeper p o m ≡ Ok (e, j) → ends (kind j) ≡ true → x.whole room deeper p i ≡ Ok (e, j)
  unfolding x.whole x.finished
  whole_is p o e i m j h g en =
      sym (bind_assoc (x.opening room deeper i) (x.junction room deeper p 2) (λ t. x.chosen room deeper p t >>= (λ y. not_redirected p >> pure y)))
      ∙ then_ok (x.begun room deeper (x.junction room deeper p 2) i) (λ t. x.chosen room deeper p t >>= (λ y. not_redirected p >> pure y)) o m h
      ∙ then_ok (x.chosen room deeper p o m) (λ y. not_redirected p >> pure y) e j g
      ∙ then_ok (not_redirected p j) (λ _. pure e) tt j (redirected_none p j (apart ends (kind j) k.Greater en refl))
