-- The parser of programs reads all that is derived.
use Rattle.std.proofs.Common.{◌≡◌, ◌≢◌, ℕ, zero, suc, ◌+◌, ◌<◌, ◌≤◌, Bool, true, false, cond, ◌⊎◌, inl, inr, List, [], ◌∷◌, ◌++◌, length, Result, Ok, Err, refl, sym, ap, ◌∙◌, append_assoc, append-nil, arith}
use Rattle.rawk_keywords.specs.declared.token.Kind.{Kind}
use Rattle.rawk_keywords.specs.declared.token.Kind.TheVariants as k
use Rattle.rawk_lexer.specs.Moves.{some_left}
use Rattle.rawk_lexer.specs.Lex.{kind, next, spelling, left}
use Rattle.rawk_expression.specs.declared.grammar.Wanted.TheVariants as want
use Rattle.rawk_parsing.specs.declared.parse_error.ParseError.{ParseError}
use Rattle.rawk_parsing.specs.declared.parse_error.ParseError.TheVariants as refused
use Rattle.rawk_parsing.specs.declared.tree.Expr.{Expr}
use Rattle.rawk_parsing.specs.declared.tree.Name.{Name}
use Rattle.rawk_parsing.specs.Parser.{Input, Outcome, Parses, and_then, ◌>>=◌, ◌>>◌, pure, expect, sees, newlines, name, name_at, bare_name}
use Rattle.rawk_expression.specs.Expression.{expression}
use Rattle.rawk_parsing.specs.Tokens.{Spells, Newlines}
use Rattle.rawk_expression.specs.Grammar.{Whole, Derives}
use Rattle.rawk_expression.specs.Follow.{ends, apart, not_seen, seen, expect_is, bare_name_is, by_kind, newlines_exact}
use Rattle.rawk_expression.specs.Fronts.{begins as starts_expression, spells_shrink, shrinks, newlines_shrink, not_newline, fronts}
use Rattle.rawk_expression.specs.Complete.{whole_complete}
use Rattle.rawk_parsing.specs.Steps.{done}
use Rattle.rawk_grammar.specs.declared.context.Owner.TheVariants as owner
use Rattle.rawk_grammar.specs.declared.tree.Pattern.{Pattern}
use Rattle.rawk_grammar.specs.declared.tree.Pattern.TheVariants as guard
use Rattle.rawk_grammar.specs.declared.tree.Action.{Action}
use Rattle.rawk_grammar.specs.declared.tree.Action.TheVariants as does
use Rattle.rawk_grammar.specs.declared.tree.Item.{Item}
use Rattle.rawk_grammar.specs.declared.tree.Item.TheVariants as item
use Rattle.rawk_grammar.specs.declared.tree.Stmt.{Stmt}
use Rattle.rawk_grammar.specs.Context.{of}
use Rattle.rawk_grammar.specs.Items as x
use Rattle.rawk_grammar.specs.Statement as statement
use Rattle.rawk_grammar.specs.Programs.{Patterns, when, range, Names, one, several, Parameters, no_parameter, parameters, Parts, begin, ending, always, rule, bare_rule, function, Separates, nothing, a_semicolon, a_newline, Texts, finish, part}
use Rattle.rawk_grammar.specs.Texts.{IsText, IsItems}
use Rattle.rawk_grammar.proofs.Steps.{go_on, on_true, on_false, eats, leaves}
use Rattle.rawk_grammar.proofs.Complete.{action_complete}
use Rattle.rawk_grammar.proofs.Depths.{within}

-- ---- rules

pub record Patterned (d : ℕ) (p : Pattern) (i j : Input) : Type 0 where
  pub first : starts_expression (kind i) ≡ true
  pub less : left j < left i
  pub read : ends (kind j) ≡ true → kind j ≢ k.Comma → x.pattern (suc d) i ≡ Ok (p, j)

when_is : (d : ℕ) (e : Expr) (i j : Input) → Derives d (Whole false e) i j → ends (kind j) ≡ true → kind j ≢ k.Comma → x.pattern (suc d) i ≡ Ok (guard.When (left i) e, j)
unfolding x.pattern
when_is d e i j h en ne =
    go_on (expression (suc d) want.Whole i) _ e j _ (whole_complete d false e i j h en)
    (leaves k.Comma j (λ m. and_then (expression (suc d) want.Whole (newlines m)) (λ f. pure (guard.Range (left i) e f))) (pure (guard.When (left i) e)) _ ne refl)

range_is : (d : ℕ) (e f : Expr) (w : List ℕ) (i j l m n : Input) → Derives d (Whole false e) i j → Spells k.Comma w j l → Newlines l m → Derives d (Whole false f) m n → ends (kind n) ≡ true
    → x.pattern (suc d) i ≡ Ok (guard.Range (left i) e f, n)
unfolding x.pattern
range_is d e f w i j l m n h s ns g en =
    go_on (expression (suc d) want.Whole i) _ e j _ (whole_complete d false e i j h (ap ends s.is_kind))
    (eats k.Comma w j l (λ m. and_then (expression (suc d) want.Whole (newlines m)) (λ f. pure (guard.Range (left i) e f))) (pure (guard.When (left i) e)) _ s
    (go_on (expression (suc d) want.Whole (newlines l)) (λ f. pure (guard.Range (left i) e f)) f n _ (ap (expression (suc d) want.Whole) (newlines_exact l m (not_newline _ (fronts g)) ns) ∙ whole_complete d false f m n g en) refl))

patterned : {d : ℕ} {p : Pattern} {i j : Input} → Patterns d p i j → Patterned d p i j
patterned (when {d = d} {e = e} {i = i} {j = j} h) = (let a = shrinks h in record { first = fronts h; less = omega arith; read = λ en ne. when_is d e i j h en ne })
patterned (range {d = d} {e = e} {f = f} {w = w} {i = i} {j = j} {l = l} {m = m} {n = n} h s ns g) =
    let a = shrinks h in
    let b = spells_shrink k.Comma w j l (λ q. cc) s in
    let c = newlines_shrink l m ns in
    let z = shrinks g in
    record { first = fronts h; less = omega arith; read = λ en ne. range_is d e f w i j l m n h s ns g en }

pattern_ends : (c : Kind) → x.ends_pattern c ≡ true → ends c ≡ true
pattern_ends k.EndOfText h = refl
pattern_ends k.Semicolon h = refl
pattern_ends k.Newline h = refl
pattern_ends _ h = cc

missing_is : (d : ℕ) (i : Input) → x.ends_pattern (kind i) ≡ true → x.optional_action d i ≡ Ok (does.Missing (length i), i)
unfolding x.optional_action
missing_is d i h = on_false (sees k.LeftBrace i) _ _ _ (not_seen k.LeftBrace i (apart x.ends_pattern (kind i) k.LeftBrace h refl)) (on_true (x.ends_pattern (kind i)) _ _ _ h refl)

given_is : (d : ℕ) (ss : List Stmt) (i j : Input) → kind i ≡ k.LeftBrace → statement.action d (of owner.Rule) i ≡ Ok (ss, j) → x.optional_action d i ≡ Ok (does.Given ss, j)
unfolding x.optional_action
given_is d ss i j e h = on_true (sees k.LeftBrace i) _ _ _ (seen k.LeftBrace i e) (go_on (statement.action d (of owner.Rule) i) (λ ss. pure (does.Given ss)) ss j _ h refl)

rule_is : (d : ℕ) (p : Pattern) (a : Action) (i j l : Input) → x.pattern (suc d) i ≡ Ok (p, j) → x.optional_action d j ≡ Ok (a, l) → x.rule (suc d) d i ≡ Ok (item.Rule p a, l)
unfolding x.rule
rule_is d p a i j l h g = go_on (x.pattern (suc d) i) _ p j _ h (go_on (x.optional_action d j) (λ a. pure (item.Rule p a)) a l _ g refl)

-- ---- functions

pub record Listed (ns : List Name) (i j : Input) : Type 0 where
  pub first : kind i ≡ k.Name
  pub less : left j < left i
  pub read : (n : ℕ) (found : List Name) → left i ≤ n → kind j ≢ k.Comma → x.names_from n found i ≡ Ok (found ++ ns, j)

one_is : (n : ℕ) (found : List Name) (w : List ℕ) (i j : Input) → 0 < n → Spells k.Name w i j → kind j ≢ k.Comma → x.names_from n found i ≡ Ok (found ++ name_at i ∷ [], j)
unfolding x.names_from
one_is zero found w i j some s ne = absurd (omega arith)
one_is (suc n) found w i j some s ne =
    go_on (bare_name i) _ (name_at i) j _ (bare_name_is w i j s) (leaves k.Comma j (λ m. x.names_from n (found ++ name_at i ∷ []) (newlines m)) (pure (found ++ name_at i ∷ [])) _ ne refl)

several_is : (n : ℕ) (found : List Name) (ns : List Name) (v w : List ℕ) (i j l m o : Input) → 0 < n → Spells k.Name v i j → Spells k.Comma w j l → newlines l ≡ m
    → ((n' : ℕ) → n ≡ suc n' → x.names_from n' (found ++ name_at i ∷ []) m ≡ Ok ((found ++ name_at i ∷ []) ++ ns, o)) → x.names_from n found i ≡ Ok (found ++ name_at i ∷ ns, o)
unfolding x.names_from
several_is zero found ns v w i j l m o some s t same rest = absurd (omega arith)
several_is (suc n) found ns v w i j l m o some s t same rest =
    go_on (bare_name i) _ (name_at i) j _ (bare_name_is v i j s)
    (eats k.Comma w j l (λ m. x.names_from n (found ++ name_at i ∷ []) (newlines m)) (pure (found ++ name_at i ∷ [])) _ t
    (ap (x.names_from n (found ++ name_at i ∷ [])) same ∙ rest n refl ∙ ap (λ v. done v o) (append_assoc found (name_at i ∷ []) ns)))

listed : {ns : List Name} {i j : Input} → Names ns i j → Listed ns i j
listed (one {w = w} {i = i} {j = j} s) =
    let a = spells_shrink k.Name w i j (λ q. cc) s in
    record { first = s.is_kind; less = a; read = λ n found fuel ne. one_is n found w i j (omega arith) s ne }
listed (several {ns = ns} {v = v} {w = w} {i = i} {j = j} {l = l} {m = m} {n = o} s t nl h) =
    let g = listed h in
    let a = spells_shrink k.Name v i j (λ q. cc) s in
    let b = spells_shrink k.Comma w j l (λ q. cc) t in
    let c = newlines_shrink l m nl in
    let z = g.less in
    record {
      first = s.is_kind;
      less = omega arith;
      read = λ n found fuel ne. several_is n found ns v w i j l m o (omega arith) s t (newlines_exact l m (λ q. (let no : k.Name ≡ k.Newline = sym g.first ∙ q in cc)) nl) (λ n' e. g.read n' (found ++ name_at i ∷ []) (omega arith) ne);
    }

pub record Bound (ns : List Name) (i j : Input) : Type 0 where
  pub less : left j < left i
  pub read : x.parameters i ≡ Ok (ns, j)

none_is : (v w : List ℕ) (i j l : Input) → Spells k.LeftParen v i j → Spells k.RightParen w j l → x.parameters i ≡ Ok ([], l)
unfolding x.parameters
none_is v w i j l s t =
    go_on (expect k.LeftParen i) _ tt j _ (expect_is k.LeftParen v i j s) (eats k.RightParen w j l (pure []) (x.names >>= (λ ns. expect k.RightParen >> pure ns)) _ t refl)

some_is : (ns : List Name) (v w : List ℕ) (i j l m : Input) → Spells k.LeftParen v i j → Listed ns j l → Spells k.RightParen w l m → x.parameters i ≡ Ok (ns, m)
unfolding x.parameters x.names
some_is ns v w i j l m s g t =
    go_on (expect k.LeftParen i) _ tt j _ (expect_is k.LeftParen v i j s)
    (leaves k.RightParen j (pure []) (x.names >>= (λ ns. expect k.RightParen >> pure ns)) _ (λ q. (let no : k.Name ≡ k.RightParen = sym g.first ∙ q in cc))
    (go_on (x.names_from (left j) [] j) _ ns l _ (g.read (left j) [] (omega arith) (λ q. (let no : k.RightParen ≡ k.Comma = sym t.is_kind ∙ q in cc))) (go_on (expect k.RightParen l) (λ _. pure ns) tt m _ (expect_is k.RightParen w l m t) refl)))

bound : {ns : List Name} {i j : Input} → Parameters ns i j → Bound ns i j
bound (no_parameter {v = v} {w = w} {i = i} {j = j} {l = l} s t) =
    let a = spells_shrink k.LeftParen v i j (λ q. cc) s in
    let b = spells_shrink k.RightParen w j l (λ q. cc) t in
    record { less = omega arith; read = none_is v w i j l s t }
bound (parameters {ns = ns} {v = v} {w = w} {i = i} {j = j} {l = l} {m = m} s h t) =
    let g = listed h in
    let a = spells_shrink k.LeftParen v i j (λ q. cc) s in
    let b = spells_shrink k.RightParen w l m (λ q. cc) t in
    let c = g.less in
    record { less = omega arith; read = some_is ns v w i j l m s g t }

name_is : (w : List ℕ) (i j : Input) → Spells k.Name w i j ⊎ Spells k.FunctionName w i j → x.function_name i ≡ Ok (name_at i, j)
unfolding x.function_name name
name_is w i j (inl s) = by_kind x.function_name_by k.Name i s.is_kind ∙ ap (λ m. done (name_at i) m) s.is_next
name_is w i j (inr s) = by_kind x.function_name_by k.FunctionName i s.is_kind ∙ ap (λ m. done (name_at i) m) s.is_next

name_less : (w : List ℕ) (i j : Input) → Spells k.Name w i j ⊎ Spells k.FunctionName w i j → left j < left i
name_less w i j (inl s) = spells_shrink k.Name w i j (λ q. cc) s
name_less w i j (inr s) = spells_shrink k.FunctionName w i j (λ q. cc) s

definition_is : (d place : ℕ) (ns : List Name) (ss : List Stmt) (w : List ℕ) (j l m n o : Input) → Spells k.Name w j l ⊎ Spells k.FunctionName w j l → Bound ns l m → Newlines m n → kind n ≡ k.LeftBrace
    → statement.action d (of owner.Function) n ≡ Ok (ss, o) → x.definition d place j ≡ Ok (item.Function place (name_at j) ns ss, o)
unfolding x.definition
definition_is d place ns ss w j l m n o s g nl e h =
    go_on (x.function_name j) _ (name_at j) l _ (name_is w j l s)
    (go_on (x.parameters l) _ ns m _ g.read
    (go_on (statement.action d (of owner.Function) (newlines m)) (λ body. pure (item.Function place (name_at j) ns body)) ss o _
    (ap (statement.action d (of owner.Function)) (newlines_exact m n (λ q. (let no : k.LeftBrace ≡ k.Newline = sym e ∙ q in cc)) nl) ∙ h) refl))

-- ---- items

abbrev begins_item : Kind → Bool
begins_item k.BeginKeyword = true
begins_item k.EndKeyword = true
begins_item k.LeftBrace = true
begins_item k.Function = true
begins_item c = starts_expression c

rule_begins : (c : Kind) → starts_expression c ≡ true → begins_item c ≡ true
rule_begins k.BeginKeyword h = refl
rule_begins k.EndKeyword h = refl
rule_begins k.LeftBrace h = refl
rule_begins k.Function h = refl
rule_begins _ h = h

item_parts : (c : Kind) → begins_item c ≡ true → x.separates c ≡ false
item_parts k.Semicolon h = cc
item_parts k.Newline h = cc
item_parts _ h = refl

by_rule : (depth room place : ℕ) (c : Kind) (i : Input) → starts_expression c ≡ true → x.item_by depth room place c i ≡ x.rule depth room i
by_rule depth room place k.BeginKeyword i h = cc
by_rule depth room place k.EndKeyword i h = cc
by_rule depth room place k.LeftBrace i h = cc
by_rule depth room place k.Function i h = cc
by_rule depth room place _ i h = refl

pub record Parted (d : ℕ) (y : Item) (i j : Input) : Type 0 where
  pub first : begins_item (kind i) ≡ true
  pub read : x.item (suc d) d i ≡ Ok (y, j)

keyword_is : (d : ℕ) (c : Kind) (y : Item) (w : List ℕ) (i j : Input) (r : Outcome Item) → Spells c w i j → x.item_by (suc d) d (left i) c i ≡ r → x.item (suc d) d i ≡ r
unfolding x.item
keyword_is d c y w i j r s h = by_kind (x.item_by (suc d) d (left i)) c i s.is_kind ∙ h

always_is : (d : ℕ) (ss : List Stmt) (i j : Input) → kind i ≡ k.LeftBrace → statement.action d (of owner.Rule) i ≡ Ok (ss, j) → x.item (suc d) d i ≡ Ok (item.Always (left i) ss, j)
unfolding x.item
always_is d ss i j e h = by_kind (x.item_by (suc d) d (left i)) k.LeftBrace i e ∙ go_on (statement.action d (of owner.Rule) i) (λ ss. pure (item.Always (left i) ss)) ss j _ h refl

ruled_is : (d : ℕ) (p : Pattern) (a : Action) (i j l : Input) → Patterned d p i j → ends (kind j) ≡ true → kind j ≢ k.Comma → x.optional_action d j ≡ Ok (a, l) → x.item (suc d) d i ≡ Ok (item.Rule p a, l)
unfolding x.item
ruled_is d p a i j l g en ne h = by_rule (suc d) d (left i) (kind i) i g.first ∙ rule_is d p a i j l (g.read en ne) h

parted : {d : ℕ} {y : Item} {i j : Input} → Parts d y i j → Parted d y i j
parted (begin {d = d} {ss = ss} {w = w} {i = i} {j = j} {l = l} s h) =
    let g = action_complete (of owner.BeginOrEnd) d ss j l h in
    record {
      first = ap begins_item s.is_kind;
      read = keyword_is d k.BeginKeyword (item.Begin ss) w i j _ s (go_on (statement.action d (of owner.BeginOrEnd) (next i)) (λ ss. pure (item.Begin ss)) ss l _ (ap (statement.action d (of owner.BeginOrEnd)) s.is_next ∙ g.2) refl);
    }
parted (ending {d = d} {ss = ss} {w = w} {i = i} {j = j} {l = l} s h) =
    let g = action_complete (of owner.BeginOrEnd) d ss j l h in
    record {
      first = ap begins_item s.is_kind;
      read = keyword_is d k.EndKeyword (item.End ss) w i j _ s (go_on (statement.action d (of owner.BeginOrEnd) (next i)) (λ ss. pure (item.End ss)) ss l _ (ap (statement.action d (of owner.BeginOrEnd)) s.is_next ∙ g.2) refl);
    }
parted (always {d = d} {ss = ss} {i = i} {j = j} h) =
    let g = action_complete (of owner.Rule) d ss i j h in
    record { first = ap begins_item g.0; read = always_is d ss i j g.0 g.2 }
parted (rule {d = d} {p = p} {ss = ss} {i = i} {j = j} {l = l} h t) =
    let g = patterned h in
    let r = action_complete (of owner.Rule) d ss j l t in
    record {
      first = rule_begins (kind i) g.first;
      read = ruled_is d p (does.Given ss) i j l g (ap ends r.0) (λ q. (let no : k.LeftBrace ≡ k.Comma = sym r.0 ∙ q in cc)) (given_is d ss j l r.0 r.2);
    }
parted (bare_rule {d = d} {p = p} {i = i} {j = j} h e) =
    let g = patterned h in
    record {
      first = rule_begins (kind i) g.first;
      read = ruled_is d p (does.Missing (length j)) i j j g (pattern_ends (kind j) e) (apart x.ends_pattern (kind j) k.Comma e refl) (missing_is d j e);
    }
parted (function {d = d} {ns = ns} {ss = ss} {v = v} {w = w} {i = i} {j = j} {l = l} {m = m} {n = n} {o = o} s t p nl h) =
    let r = action_complete (of owner.Function) d ss n o h in
    record {
      first = ap begins_item s.is_kind;
      read = keyword_is d k.Function (item.Function (left i) (name_at j) ns ss) v i j _ s (ap (x.definition d (left i)) s.is_next ∙ definition_is d (left i) ns ss w j l m n o t (bound p) nl r.0 r.2);
    }

part_less : {d : ℕ} {y : Item} {i j : Input} → Parts d y i j → left j < left i
part_less (begin {d = d} {ss = ss} {w = w} {i = i} {j = j} {l = l} s h) =
    let a = spells_shrink k.BeginKeyword w i j (λ q. cc) s in
    let b = (action_complete (of owner.BeginOrEnd) d ss j l h).1 in
    omega arith
part_less (ending {d = d} {ss = ss} {w = w} {i = i} {j = j} {l = l} s h) =
    let a = spells_shrink k.EndKeyword w i j (λ q. cc) s in
    let b = (action_complete (of owner.BeginOrEnd) d ss j l h).1 in
    omega arith
part_less (always {d = d} {ss = ss} {i = i} {j = j} h) = (action_complete (of owner.Rule) d ss i j h).1
part_less (rule {d = d} {p = p} {ss = ss} {i = i} {j = j} {l = l} h t) =
    let a = (patterned h).less in
    let b = (action_complete (of owner.Rule) d ss j l t).1 in
    omega arith
part_less (bare_rule h e) = (patterned h).less
part_less (function {d = d} {ns = ns} {ss = ss} {v = v} {w = w} {i = i} {j = j} {l = l} {m = m} {n = n} {o = o} s t p nl h) =
    let a1 = spells_shrink k.Function v i j (λ q. cc) s in
    let a2 = name_less w j l t in
    let a3 = (bound p).less in
    let a4 = newlines_shrink m n nl in
    let a5 = (action_complete (of owner.Function) d ss n o h).1 in
    omega arith

-- ---- programs

separates_shrink : (i j : Input) → Separates i j → left j ≤ left i
separates_shrink i j nothing = omega arith
separates_shrink i l (a_semicolon {j = j} s t) = let a = spells_shrink k.Semicolon _ i j (λ q. cc) s in let b = separates_shrink j l t in omega arith
separates_shrink i l (a_newline {j = j} s t) = let a = spells_shrink k.Newline _ i j (λ q. cc) s in let b = separates_shrink j l t in omega arith

joined : {i j l : Input} → Separates i j → Separates j l → Separates i l
joined nothing t = t
joined (a_semicolon s r) t = a_semicolon s (joined r t)
joined (a_newline s r) t = a_newline s (joined r t)

one_more : (n : ℕ) (c : Kind) (w : List ℕ) (i j l : Input) → x.separates c ≡ true → c ≢ k.EndOfText → left i ≤ n → Spells c w i j → ((n : ℕ) → left j ≤ n → x.separators_from n j ≡ l) → x.separators_from n i ≡ l
unfolding x.separators_from
one_more zero c w i j l q ne le s rest = absurd (let a = spells_shrink c w i j ne s in omega arith)
one_more (suc n) c w i j l q ne le s rest =
    let a = spells_shrink c w i j ne s in
    on_true (x.separates (kind i)) _ _ _ (ap x.separates s.is_kind ∙ q) (ap (x.separators_from n) s.is_next ∙ rest n (omega arith))

separators_exact_from : (n : ℕ) (i j : Input) → left i ≤ n → x.separates (kind j) ≡ false → Separates i j → x.separators_from n i ≡ j
unfolding x.separators_from
separators_exact_from zero i j le h nothing = refl
separators_exact_from (suc n) i j le h nothing = on_false (x.separates (kind i)) _ _ _ h refl
separators_exact_from n i l le h (a_semicolon {w = w} {j = j} s t) = one_more n k.Semicolon w i j l refl (λ q. cc) le s (λ n' le'. separators_exact_from n' j l le' h t)
separators_exact_from n i l le h (a_newline {w = w} {j = j} s t) = one_more n k.Newline w i j l refl (λ q. cc) le s (λ n' le'. separators_exact_from n' j l le' h t)

separators_exact : (i j : Input) → x.separates (kind j) ≡ false → Separates i j → x.separators i ≡ j
unfolding x.separators
separators_exact i j h s = separators_exact_from (left i) i j (omega arith) h s

finish_is : (d n : ℕ) (found : List Item) (i j : Input) → x.separators i ≡ j → kind j ≡ k.EndOfText → x.items_from (suc d) d (suc n) found i ≡ Ok (found ++ [], j)
unfolding x.items_from
finish_is d n found i j sep e =
    ap (λ l. cond (sees k.EndOfText l) (done found l) (and_then (x.item (suc d) d l) (λ p. x.items_from (suc d) d n (found ++ p ∷ [])))) sep
    ∙ on_true (sees k.EndOfText j) _ _ _ (seen k.EndOfText j e) (ap (λ v. done v j) (sym (append-nil found)))

item_is : (d n : ℕ) (found : List Item) (p : Item) (i j l : Input) (r : Outcome (List Item)) → x.separators i ≡ j → kind j ≢ k.EndOfText → x.item (suc d) d j ≡ Ok (p, l) → x.items_from (suc d) d n (found ++ p ∷ []) l ≡ r
    → x.items_from (suc d) d (suc n) found i ≡ r
unfolding x.items_from
item_is d n found p i j l r sep ne h rest =
    ap (λ l. cond (sees k.EndOfText l) (done found l) (and_then (x.item (suc d) d l) (λ p. x.items_from (suc d) d n (found ++ p ∷ [])))) sep
    ∙ on_false (sees k.EndOfText j) _ _ _ (not_seen k.EndOfText j ne) (go_on (x.item (suc d) d j) (λ p. x.items_from (suc d) d n (found ++ p ∷ [])) p l _ h rest)

end_is : (d : ℕ) (found : List Item) (i j : Input) → x.separators i ≡ j → kind j ≡ k.EndOfText → x.items_from (suc d) d zero found i ≡ Ok (found ++ [], next j)
unfolding x.items_from
end_is d found i j sep e =
    ap (expect k.EndOfText >> pure found) sep
    ∙ go_on (expect k.EndOfText j) (λ _. pure found) tt (next j) _ (expect_is k.EndOfText (spelling j) j (next j) (record { is_kind = e; is_word = refl; is_next = refl })) (ap (λ v. done v (next j)) (sym (append-nil found)))

-- what the parser of items finds from there on
abbrev Found : ℕ → ℕ → List Item → List Item → Input → Type 0
Found d n found xs i = (j : Input) × (x.items_from (suc d) d n found i ≡ Ok (found ++ xs, j))

ended : (d n : ℕ) (found : List Item) (i j : Input) → Separates i j → kind j ≡ k.EndOfText → Found d n found [] i
ended d zero found i j s e = (next j, end_is d found i j (separators_exact i j (ap x.separates e) s) e)
ended d (suc n) found i j s e = (j, finish_is d n found i j (separators_exact i j (ap x.separates e) s) e)

further : (d n : ℕ) (found : List Item) (y : Item) (ys : List Item) (i j l : Input) → Separates i j → Parted d y j l → left j ≤ n → ((m : ℕ) → left j ≤ suc m → Found d m (found ++ y ∷ []) ys l) → Found d n found (y ∷ ys) i
further d zero found y ys i j l s g le rest = absurd (let a = some_left j (apart begins_item (kind j) k.EndOfText g.first refl) in omega arith)
further d (suc n) found y ys i j l s g le rest =
    let r = rest n le in
    (r.0, item_is d n found y i j l _ (separators_exact i j (item_parts (kind j) g.first) s) (apart begins_item (kind j) k.EndOfText g.first refl) g.read (r.1 ∙ ap (λ v. done v r.0) (append_assoc found (y ∷ []) ys)))

-- the number counts the turns from behind the separators on
whole_from : {d : ℕ} {ys : List Item} {i : Input} → Texts d ys i → (g : Input) → Separates g i → (n : ℕ) (found : List Item) → left i ≤ n → Found d n found ys g
whole_from (finish {d = d} {i = i} {j = j} s e) g t n found le = ended d n found g j (joined t s) e
whole_from (part {d = d} {x = y} {xs = ys} {i = i} {j = j} {l = l} s h r) g t n found le =
    let a = separates_shrink i j s in
    let b = part_less h in
    further d n found y ys g j l (joined t s) (parted h) (omega arith) (λ m le'. whole_from r l nothing m (found ++ y ∷ []) (omega arith))

whole_program : (depth : ℕ) (ys : List Item) (i : Input) → IsText depth ys i → (j : Input) × (x.program depth i ≡ Ok (ys, j))
unfolding x.program x.items
whole_program zero ys i h = absurd h
whole_program (suc d) ys i h = whole_from h i nothing (left i) [] (omega arith)

same_first : (o : Outcome (List Item)) (p q : List Item × Input) → o ≡ Ok p → o ≡ Ok q → p.0 ≡ q.0
same_first o p q h g = let e : p ≡ q = cc in ap (λ r. r.0) e

pub read_from : (depth : ℕ) (r : Result (List Item) ParseError) (text new : Input) → Parses (x.program depth text) r new → (items : List Item) → IsText depth items text → IsItems items r
read_from depth (Ok found) text new h items t = let g = whole_program depth items text t in same_first (x.program depth text) (found, new) (items, g.0) h g.1
read_from depth (Err refused.OutOfMemory) text new h items t = refl
read_from depth (Err (refused.Here kind place)) text new h items t =
    let g = whole_program depth items text t in
    let no : x.program depth text ≡ Err (refused.Here kind place) = h (λ q. cc) in
    cc

pub one_program : (depth other : ℕ) (a b : List Item) (text : List ℕ) → IsText depth a text → IsText other b text → a ≡ b
one_program depth other a b text g h =
    let p = whole_program (depth + other) a text (within depth (depth + other) a text (omega arith) g) in
    let q = whole_program (depth + other) b text (within other (depth + other) b text (omega arith) h) in
    same_first (x.program (depth + other) text) (a, p.0) (b, q.0) p.1 q.1
