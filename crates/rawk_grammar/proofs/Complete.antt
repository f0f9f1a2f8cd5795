-- The parser of statements reads all that is derived.
use Rattle.std.proofs.Common.{◌≡◌, ◌≢◌, ℕ, zero, suc, ◌<◌, ◌≤◌, Bool, true, false, cond, ◌==◌, List, [], ◌∷◌, ◌++◌, Option, Some, None, Ok, refl, sym, ap, ◌∙◌, append_assoc, append-nil, arith}
use Rattle.rawk_keywords.specs.declared.token.Kind.{Kind}
use Rattle.rawk_keywords.specs.declared.token.Kind.TheVariants as k
use Rattle.rawk_lexer.specs.Lex.{kind, next, spelling, left}
use Rattle.rawk_expression.specs.declared.grammar.Wanted.TheVariants as want
use Rattle.rawk_parsing.specs.declared.tree.Expr.{Expr}
use Rattle.rawk_parsing.specs.declared.tree.Expr.TheVariants as expr
use Rattle.rawk_parsing.specs.declared.tree.Place.{Place}
use Rattle.rawk_parsing.specs.declared.tree.Place.TheVariants as spot
use Rattle.rawk_parsing.specs.Parser.{Input, Outcome, Parser, and_then, ◌>>=◌, pure, too_deep, expect, sees, newlines, name_at, name}
use Rattle.rawk_expression.specs.Expression as parser
use Rattle.rawk_expression.specs.Expression.{expression, lone_place, printed}
use Rattle.rawk_parsing.specs.Tables.{change}
use Rattle.rawk_parsing.specs.Tokens as token
use Rattle.rawk_parsing.specs.Tokens.{Spells, Newlines}
use Rattle.rawk_expression.specs.Grammar.{Whole, Level, Derives, test as is_test, lone, contains, operated, chain, no_more, tight, unsigned, base, bare, named}
use Rattle.rawk_parsing.specs.Steps.{done, sees_kind, spells}
use Rattle.rawk_grammar.specs.declared.context.Context.{Context}
use Rattle.rawk_grammar.specs.declared.tree.Act.{Act}
use Rattle.rawk_grammar.specs.declared.tree.Act.TheVariants as act
use Rattle.rawk_grammar.specs.declared.tree.Branch.{Branch}
use Rattle.rawk_grammar.specs.declared.tree.Condition.{Condition}
use Rattle.rawk_grammar.specs.declared.tree.Head.{Head}
use Rattle.rawk_grammar.specs.declared.tree.Jump.{Jump}
use Rattle.rawk_grammar.specs.declared.tree.Jump.TheVariants as jumps
use Rattle.rawk_grammar.specs.declared.tree.Stmt.{Stmt}
use Rattle.rawk_grammar.specs.declared.tree.Stmt.TheVariants as tree
use Rattle.rawk_grammar.specs.Context.{looped, allows}
use Rattle.rawk_grammar.specs.Statement.{branch_of, simple_at, condition_at, head_of}
use Rattle.rawk_grammar.specs.Statement as x
use Rattle.rawk_grammar.specs.Grammar.{Ends, semicolon, newline, brace, Acts, evaluate, print_record, print, printf, delete, Jumps, next_record, break_loop, continue_loop, exit, exit_with, return, return_with, Encloses, parentheses, Simply, no_part, part, Tests, no_test, test, Heads, head, Phrase, One, Many, Action, Chain, States, empty, simple, jump, none, more, action, block, choice, last, otherwise, else_if, while_loop, do_loop, count_loop, member_loop}
use Rattle.rawk_expression.specs.Follow.{ends, apart, not_seen, seen, expect_is, by_kind, newlines_exact}
use Rattle.rawk_expression.specs.Fronts.{begins as starts_expression, spells_shrink, shrinks, newlines_shrink, fronts}
use Rattle.rawk_expression.specs.Complete.{whole_complete, place_complete, printed_complete}
use Rattle.rawk_grammar.proofs.NoElse.{unseen}
use Rattle.rawk_grammar.proofs.Steps.{both, not_zero, go_on, on_true, on_false, eats, leaves, all_true}

abbrev begins_act : Kind → Bool
begins_act k.Print = true
begins_act k.Printf = true
begins_act k.Delete = true
begins_act c = starts_expression c

abbrev begins_jump : Kind → Bool
begins_jump k.Next = true
begins_jump k.Break = true
begins_jump k.Continue = true
begins_jump k.Exit = true
begins_jump k.Return = true
begins_jump _ = false

-- the tokens that open a construct
abbrev opens : Kind → Bool
opens k.LeftBrace = true
opens k.If = true
opens k.While = true
opens k.Do = true
opens k.For = true
opens _ = false

-- what begins a statement
abbrev begins : Kind → Bool
begins k.Semicolon = true
begins k.LeftBrace = true
begins k.If = true
begins k.While = true
begins k.Do = true
begins k.For = true
begins k.Next = true
begins k.Break = true
begins k.Continue = true
begins k.Exit = true
begins k.Return = true
begins c = begins_act c

-- ---- ends

end_is : (i j : Input) → Ends i j → x.end i ≡ Ok (tt, j)
unfolding x.end
end_is i j (semicolon s) = by_kind x.end_by k.Semicolon i s.is_kind ∙ ap (λ m. done tt m) s.is_next
end_is i j (newline s) = by_kind x.end_by k.Newline i s.is_kind ∙ ap (λ m. done tt m) s.is_next
end_is i j (brace e) = by_kind x.end_by k.RightBrace i e

ends_closes : (i j : Input) → Ends i j → x.closes (kind i) ≡ true
ends_closes i j (semicolon s) = ap x.closes s.is_kind
ends_closes i j (newline s) = ap x.closes s.is_kind
ends_closes i j (brace e) = ap x.closes e

ends_less : (i j : Input) → Ends i j → left j ≤ left i
ends_less i j (semicolon s) = (let a = spells_shrink k.Semicolon _ i j (λ q. cc) s in omega arith)
ends_less i j (newline s) = (let a = spells_shrink k.Newline _ i j (λ q. cc) s in omega arith)
ends_less i j (brace e) = omega arith

closes_bare : (c : Kind) → x.closes c ≡ true → x.is_bare c ≡ true
closes_bare k.RightParen h = refl
closes_bare _ h = h

bare_ends : (c : Kind) → x.is_bare c ≡ true → ends c ≡ true
bare_ends k.RightParen h = refl
bare_ends k.Semicolon h = refl
bare_ends k.Newline h = refl
bare_ends k.RightBrace h = refl
bare_ends _ h = cc

begins_not_bare : (c : Kind) → starts_expression c ≡ true → x.is_bare c ≡ false
begins_not_bare k.RightParen h = cc
begins_not_bare k.Semicolon h = cc
begins_not_bare k.Newline h = cc
begins_not_bare k.RightBrace h = cc
begins_not_bare _ h = refl

begins_not_closes : (c : Kind) → starts_expression c ≡ true → x.closes c ≡ false
begins_not_closes k.Semicolon h = cc
begins_not_closes k.Newline h = cc
begins_not_closes k.RightBrace h = cc
begins_not_closes _ h = refl

-- ---- simple statements

evaluated : (d : ℕ) (a : Kind) (i : Input) → starts_expression a ≡ true → x.act_by d a i ≡ and_then (expression d want.Whole i) (λ e. pure (act.Evaluate e))
evaluated d k.Print i h = cc
evaluated d k.Printf i h = cc
evaluated d k.Delete i h = cc
evaluated d _ i h = refl

expression_acts : (c : Kind) → starts_expression c ≡ true → begins_act c ≡ true
expression_acts k.Print h = refl
expression_acts k.Printf h = refl
expression_acts k.Delete h = refl
expression_acts _ h = h

no_list : (d : ℕ) (j : Input) → x.is_bare (kind j) ≡ true → x.optional_list d j ≡ Ok ([], j)
unfolding x.optional_list
no_list d j h = on_true (x.is_bare (kind j)) _ _ _ h refl

a_list : (d : ℕ) (es : List Expr) (j l : Input) → starts_expression (kind j) ≡ true → printed d j ≡ Ok (es, l) → x.optional_list d j ≡ Ok (es, l)
unfolding x.optional_list
a_list d es j l b h = on_false (x.is_bare (kind j)) _ _ _ (begins_not_bare (kind j) b) h

deleted_is : (d : ℕ) (y : Place) (j l : Input) → kind j ≡ k.Name → lone_place d j ≡ Ok (y, l) → x.deleted d j ≡ Ok (act.Delete y, l)
unfolding x.deleted
deleted_is d y j l e h = on_true (sees k.Name j) _ _ _ (seen k.Name j e) (go_on (lone_place d j) (λ p. pure (act.Delete p)) y l _ h refl)

pub record Acted (d : ℕ) (a : Act) (i j : Input) : Type 0 where
  pub first : begins_act (kind i) ≡ true
  pub less : left j < left i
  pub read : x.is_bare (kind j) ≡ true → x.act_by (suc d) (kind i) i ≡ Ok (a, j)

acted : {d : ℕ} {a : Act} {i j : Input} → Acts d a i j → Acted d a i j
acted (evaluate {d = d} {e = e} {i = i} {j = j} h) = record {
  first = expression_acts (kind i) (fronts h);
  less = shrinks h;
  read = λ b. evaluated (suc d) (kind i) i (fronts h) ∙ go_on (expression (suc d) want.Whole i) (λ e. pure (act.Evaluate e)) e j _ (whole_complete d false e i j h (bare_ends (kind j) b)) refl;
}
acted (print_record {d = d} {w = w} {i = i} {j = j} s) = record {
  first = ap begins_act s.is_kind;
  less = (let a = spells_shrink k.Print w i j (λ q. cc) s in omega arith);
  read = λ b. by_kind (x.act_by (suc d)) k.Print i s.is_kind ∙ go_on (x.optional_list (suc d) (next i)) (λ es. pure (act.Print es)) [] j _ (ap (x.optional_list (suc d)) s.is_next ∙ no_list (suc d) j b) refl;
}
acted (print {d = d} {es = es} {w = w} {i = i} {j = j} {l = l} s h) = record {
  first = ap begins_act s.is_kind;
  less = (let a = spells_shrink k.Print w i j (λ q. cc) s in let b = shrinks h in omega arith);
  read = λ b. by_kind (x.act_by (suc d)) k.Print i s.is_kind ∙ go_on (x.optional_list (suc d) (next i)) (λ es. pure (act.Print es)) es l _ (ap (x.optional_list (suc d)) s.is_next ∙ a_list (suc d) es j l (fronts h) (printed_complete d es j l h (bare_ends (kind l) b) (apart x.is_bare (kind l) k.Comma b refl))) refl;
}
acted (printf {d = d} {es = es} {w = w} {i = i} {j = j} {l = l} s h) = record {
  first = ap begins_act s.is_kind;
  less = (let a = spells_shrink k.Printf w i j (λ q. cc) s in let b = shrinks h in omega arith);
  read = λ b. by_kind (x.act_by (suc d)) k.Printf i s.is_kind ∙ go_on (printed (suc d) (next i)) (λ es. pure (act.Printf es)) es l _ (ap (printed (suc d)) s.is_next ∙ printed_complete d es j l h (bare_ends (kind l) b) (apart x.is_bare (kind l) k.Comma b refl)) refl;
}
acted (delete {d = d} {x = y} {w = w} {i = i} {j = j} {l = l} s e h) = record {
  first = ap begins_act s.is_kind;
  less = (let a = spells_shrink k.Delete w i j (λ q. cc) s in let b = shrinks h in omega arith);
  read = λ b. by_kind (x.act_by (suc d)) k.Delete i s.is_kind ∙ ap (x.deleted (suc d)) s.is_next ∙ deleted_is (suc d) y j l e (place_complete d y j l h (apart x.is_bare (kind l) k.LeftBracket b refl));
}

simple_is : (d : ℕ) (a : Act) (i j : Input) → Acted d a i j → x.is_bare (kind j) ≡ true → x.simple (suc d) i ≡ Ok (simple_at (left i) a, j)
unfolding x.simple
simple_is d a i j g b = go_on (x.act_by (suc d) (kind i) i) (λ a. pure (simple_at (left i) a)) a j _ (g.read b) refl

ended_is : (d : ℕ) (a : Act) (i j l : Input) → Acted d a i j → Ends j l → x.ended (suc d) i ≡ Ok (tree.Simple (simple_at (left i) a), l)
unfolding x.ended
ended_is d a i j l g s =
    go_on (x.simple (suc d) i) _ (simple_at (left i) a) j _ (simple_is d a i j g (closes_bare (kind j) (ends_closes j l s)))
    (go_on (x.end j) (λ _. pure (tree.Simple (simple_at (left i) a))) tt l _ (end_is j l s) refl)

-- ---- jumps

no_value : (d : ℕ) (j : Input) → x.closes (kind j) ≡ true → x.optional_value d j ≡ Ok (None, j)
unfolding x.optional_value
no_value d j h = on_true (x.closes (kind j)) _ _ _ h refl

a_value : (d : ℕ) (e : Expr) (i j : Input) → Derives d (Whole false e) i j → x.closes (kind j) ≡ true → x.optional_value (suc d) i ≡ Ok (Some e, j)
unfolding x.optional_value
a_value d e i j h b =
    on_false (x.closes (kind i)) _ _ _ (begins_not_closes (kind i) (fronts h))
    (go_on (expression (suc d) want.Whole i) (λ e. pure (Some e)) e j _ (whole_complete d false e i j h (bare_ends (kind j) (closes_bare (kind j) b))) refl)

pub record Jumped (c : Context) (d : ℕ) (y : Jump) (i j : Input) : Type 0 where
  pub first : begins_jump (kind i) ≡ true
  pub less : left j < left i
  pub allowed : allows c (kind i) ≡ true
  pub read : x.closes (kind j) ≡ true → x.jump_by (suc d) (kind i) i ≡ Ok (y, j)

jumped : {c : Context} {d : ℕ} {y : Jump} {i j : Input} → Jumps c d y i j → Jumped c d y i j
jumped (next_record {c = c} {d = d} {w = w} {i = i} {j = j} p s) = record {
  first = ap begins_jump s.is_kind;
  less = spells_shrink k.Next w i j (λ q. cc) s;
  allowed = ap (allows c) s.is_kind ∙ p;
  read = λ b. by_kind (x.jump_by (suc d)) k.Next i s.is_kind ∙ ap (λ m. done jumps.Next m) s.is_next;
}
jumped (break_loop {c = c} {d = d} {w = w} {i = i} {j = j} p s) = record {
  first = ap begins_jump s.is_kind;
  less = spells_shrink k.Break w i j (λ q. cc) s;
  allowed = ap (allows c) s.is_kind ∙ p;
  read = λ b. by_kind (x.jump_by (suc d)) k.Break i s.is_kind ∙ ap (λ m. done jumps.Break m) s.is_next;
}
jumped (continue_loop {c = c} {d = d} {w = w} {i = i} {j = j} p s) = record {
  first = ap begins_jump s.is_kind;
  less = spells_shrink k.Continue w i j (λ q. cc) s;
  allowed = ap (allows c) s.is_kind ∙ p;
  read = λ b. by_kind (x.jump_by (suc d)) k.Continue i s.is_kind ∙ ap (λ m. done jumps.Continue m) s.is_next;
}
jumped (exit {c = c} {d = d} {w = w} {i = i} {j = j} s) = record {
  first = ap begins_jump s.is_kind;
  less = spells_shrink k.Exit w i j (λ q. cc) s;
  allowed = ap (allows c) s.is_kind;
  read = λ b. by_kind (x.jump_by (suc d)) k.Exit i s.is_kind ∙ go_on (x.optional_value (suc d) (next i)) (λ e. pure (jumps.Exit e)) None j _ (ap (x.optional_value (suc d)) s.is_next ∙ no_value (suc d) j b) refl;
}
jumped (exit_with {c = c} {d = d} {e = e} {w = w} {i = i} {j = j} {l = l} s h) = record {
  first = ap begins_jump s.is_kind;
  less = (let a = spells_shrink k.Exit w i j (λ q. cc) s in let b = shrinks h in omega arith);
  allowed = ap (allows c) s.is_kind;
  read = λ b. by_kind (x.jump_by (suc d)) k.Exit i s.is_kind ∙ go_on (x.optional_value (suc d) (next i)) (λ e. pure (jumps.Exit e)) (Some e) l _ (ap (x.optional_value (suc d)) s.is_next ∙ a_value d e j l h b) refl;
}
jumped (return {c = c} {d = d} {w = w} {i = i} {j = j} p s) = record {
  first = ap begins_jump s.is_kind;
  less = spells_shrink k.Return w i j (λ q. cc) s;
  allowed = ap (allows c) s.is_kind ∙ p;
  read = λ b. by_kind (x.jump_by (suc d)) k.Return i s.is_kind ∙ go_on (x.optional_value (suc d) (next i)) (λ e. pure (jumps.Return e)) None j _ (ap (x.optional_value (suc d)) s.is_next ∙ no_value (suc d) j b) refl;
}
jumped (return_with {c = c} {d = d} {e = e} {w = w} {i = i} {j = j} {l = l} p s h) = record {
  first = ap begins_jump s.is_kind;
  less = (let a = spells_shrink k.Return w i j (λ q. cc) s in let b = shrinks h in omega arith);
  allowed = ap (allows c) s.is_kind ∙ p;
  read = λ b. by_kind (x.jump_by (suc d)) k.Return i s.is_kind ∙ go_on (x.optional_value (suc d) (next i)) (λ e. pure (jumps.Return e)) (Some e) l _ (ap (x.optional_value (suc d)) s.is_next ∙ a_value d e j l h b) refl;
}

placed_is : (c : Context) (d : ℕ) (y : Jump) (i j l : Input) → Jumped c d y i j → Ends j l → x.placed_jump (suc d) c i ≡ Ok (tree.Jump (left i) y, l)
unfolding x.placed_jump x.jump
placed_is c d y i j l g s =
    on_true (allows c (kind i)) _ _ _ g.allowed
    (go_on (x.jump_by (suc d) (kind i) i) _ y j _ (g.read (ends_closes j l s)) (go_on (x.end j) (λ _. pure (tree.Jump (left i) y)) tt l _ (end_is j l s) refl))

-- ---- heads

pub record Enclosed (d : ℕ) (t : Condition) (i j : Input) : Type 0 where
  pub less : left j < left i
  pub read : x.enclosed (suc d) i ≡ Ok (t, j)

enclosed_is : (d : ℕ) (e : Expr) (v w : List ℕ) (i j l m : Input) → Spells k.LeftParen v i j → Derives d (Whole false e) j l → Spells k.RightParen w l m → x.enclosed (suc d) i ≡ Ok (condition_at (left j) e, m)
unfolding x.enclosed
enclosed_is d e v w i j l m s h t =
    go_on (expect k.LeftParen i) _ tt j _ (expect_is k.LeftParen v i j s)
    (go_on (expression (suc d) want.Whole j) _ e l _ (whole_complete d false e j l h (ap ends t.is_kind)) (go_on (expect k.RightParen l) (λ _. pure (condition_at (left j) e)) tt m _ (expect_is k.RightParen w l m t) refl))

enclosed : {d : ℕ} {t : Condition} {i j : Input} → Encloses d t i j → Enclosed d t i j
enclosed (parentheses {d = d} {e = e} {v = v} {w = w} {i = i} {j = j} {l = l} {m = m} s h t) = record {
  less = (let a = spells_shrink k.LeftParen v i j (λ q. cc) s in let b = shrinks h in let c = spells_shrink k.RightParen w l m (λ q. cc) t in omega arith);
  read = enclosed_is d e v w i j l m s h t;
}

condition_is : (d : ℕ) (t : Condition) (i j l : Input) → Enclosed d t i j → Newlines j l → kind l ≢ k.Newline → x.condition (suc d) i ≡ Ok (t, l)
unfolding x.condition
condition_is d t i j l g ns ne = go_on (x.enclosed (suc d) i) _ t j _ g.read (ap (λ m. done t m) (newlines_exact j l ne ns))

part_is : (stop : Kind) (d : ℕ) (o : Option Stmt) (i j : Input) → x.is_bare stop ≡ true → begins_act stop ≡ false → Simply d o i j → kind j ≡ stop → x.optional_simple stop (suc d) i ≡ Ok (o, j)
unfolding x.optional_simple
part_is stop d o i j b n no_part e = on_true (sees stop i) _ _ _ (seen stop i e) refl
part_is stop d o i j b n (part {a = a} h) e =
    let g = acted h in
    on_false (sees stop i) _ _ _ (not_seen stop i (apart begins_act (kind i) stop g.first n)) (go_on (x.simple (suc d) i) (λ s. pure (Some (tree.Simple s))) (simple_at (left i) a) j _ (simple_is d a i j g (ap x.is_bare e ∙ b)) refl)

part_less : {d : ℕ} {o : Option Stmt} {i j : Input} → Simply d o i j → left j ≤ left i
part_less (no_part {d = d} {i = i}) = omega arith
part_less (part {d = d} {a = a} {i = i} {j = j} h) = let a = (acted h).less in omega arith

-- what a part of a head begins with is no newline
part_front : {d : ℕ} {o : Option Stmt} {i j : Input} (stop : Kind) → Simply d o i j → kind j ≡ stop → stop ≢ k.Newline → kind i ≢ k.Newline
part_front stop (no_part {d = d} {i = i}) e ne = λ q. ne (sym e ∙ q)
part_front stop (part {d = d} {a = a} {i = i} {j = j} h) e ne = apart begins_act (kind i) k.Newline (acted h).first refl

test_is : (d : ℕ) (o : Option Expr) (i j : Input) → Tests d o i j → kind j ≡ k.Semicolon → x.optional_test (suc d) i ≡ Ok (o, j)
unfolding x.optional_test
test_is d o i j no_test e = on_true (sees k.Semicolon i) _ _ _ (seen k.Semicolon i e) refl
test_is d o i j (test {e = y} h) e =
    on_false (sees k.Semicolon i) _ _ _ (not_seen k.Semicolon i (apart starts_expression (kind i) k.Semicolon (fronts h) refl))
    (go_on (expression (suc d) want.Whole i) (λ e. pure (Some e)) y j _ (whole_complete d false y i j h (ap ends e)) refl)

test_less : {d : ℕ} {o : Option Expr} {i j : Input} → Tests d o i j → left j ≤ left i
test_less (no_test {d = d} {i = i}) = omega arith
test_less (test {d = d} {e = e} {i = i} {j = j} h) = let a = shrinks h in omega arith

test_front : {d : ℕ} {o : Option Expr} {i j : Input} → Tests d o i j → kind j ≡ k.Semicolon → kind i ≢ k.Newline
test_front (no_test {d = d} {i = i}) e = λ q. (let no : k.Semicolon ≡ k.Newline = sym e ∙ q in cc)
test_front (test {d = d} {e = y} {i = i} {j = j} h) e = apart starts_expression (kind i) k.Newline (fronts h) refl

semicolon_is : (w : List ℕ) (i j l : Input) → Spells k.Semicolon w i j → Newlines j l → kind l ≢ k.Newline → x.semicolon i ≡ Ok (tt, l)
unfolding x.semicolon
semicolon_is w i j l s ns ne = go_on (expect k.Semicolon i) _ tt j _ (expect_is k.Semicolon w i j s) (ap (λ m. done tt m) (newlines_exact j l ne ns))

pub record Headed (d : ℕ) (h : Head) (i j : Input) : Type 0 where
  pub less : left j < left i
  pub read : x.head (suc d) i ≡ Ok (h, j)
  pub apart_in : x.sees_member i ≡ false

head_is : (d : ℕ) (first final : Option Stmt) (e : Option Expr) (u v w : List ℕ) (i j l m n o p q r : Input)
    → Simply d first i j → Spells k.Semicolon u j l → Newlines l m → Tests d e m n → Spells k.Semicolon v n o → Newlines o p
    → Simply d final p q → Spells k.RightParen w q r → x.head (suc d) i ≡ Ok (head_of first (left m) e final, r)
unfolding x.head
head_is d first final e u v w i j l m n o p q r f s ns t z nt g y =
    go_on (x.optional_simple k.Semicolon (suc d) i) _ first j _ (part_is k.Semicolon d first i j refl refl f s.is_kind)
    (go_on (x.semicolon j) _ tt m _ (semicolon_is u j l m s ns (test_front t z.is_kind))
    (go_on (x.optional_test (suc d) m) _ e n _ (test_is d e m n t z.is_kind)
    (go_on (x.semicolon n) _ tt p _ (semicolon_is v n o p z nt (part_front k.RightParen g y.is_kind (λ a. cc)))
    (go_on (x.optional_simple k.RightParen (suc d) p) _ final q _ (part_is k.RightParen d final p q refl refl g y.is_kind)
    (go_on (expect k.RightParen q) (λ _. pure (head_of first (left m) e final)) tt r _ (expect_is k.RightParen w q r y) refl)))))

-- the look-ahead of `for` finds what it looks for
member_seen : (t u v w : List ℕ) (i j l m n : Input) → Spells k.Name t i j → Spells k.In u j l → Spells k.Name v l m → Spells k.RightParen w m n → x.sees_member i ≡ true
unfolding x.sees_member
member_seen t u v w i j l m n a b c d =
    let e : next (next i) ≡ l = ap next a.is_next ∙ b.is_next in
    all_true (sees k.Name i) (sees k.In (next i)) (sees k.Name (next (next i))) (sees k.RightParen (next (next (next i))))
    (seen k.Name i a.is_kind) (seen k.In (next i) (ap kind a.is_next ∙ b.is_kind)) (seen k.Name (next (next i)) (ap kind e ∙ c.is_kind)) (seen k.RightParen (next (next (next i))) (ap kind (ap next e ∙ c.is_next) ∙ d.is_kind))

pub record Members (i : Input) : Type 0 where
  pub first : Spells k.Name (spelling i) i (next i)
  pub sign : Spells k.In (spelling (next i)) (next i) (next (next i))
  pub second : Spells k.Name (spelling (next (next i))) (next (next i)) (next (next (next i)))
  pub close : kind (next (next (next i))) ≡ k.RightParen

members : (i : Input) → x.sees_member i ≡ true → Members i
unfolding x.sees_member
members i h =
    let p = both (sees k.Name i) _ h in
    let q = both (sees k.In (next i)) _ p.1 in
    let r = both (sees k.Name (next (next i))) _ q.1 in
    record {
      first = spells k.Name i (sees_kind k.Name i p.0);
      sign = spells k.In (next i) (sees_kind k.In (next i) q.0);
      second = spells k.Name (next (next i)) (sees_kind k.Name (next (next i)) r.0);
      close = sees_kind k.RightParen (next (next (next i))) r.1;
    }

same_rest : {A : Type 0} (o : Outcome A) (p q : A × Input) → o ≡ Ok p → o ≡ Ok q → p.1 ≡ q.1
same_rest o p q h g = let e : p ≡ q = cc in ap (λ r. r.1) e

-- a name, `in` and a name are an expression
one_array : (d : ℕ) (i : Input) → Members i → Derives d (Whole false (expr.In (expr.Of (spot.Name (name_at i))) (name_at (next (next i)) ∷ []))) i (next (next (next i)))
unfolding parser.chained parser.contained
one_array d i g =
    let operand : Derives d (Level false 0 (expr.Of (spot.Name (name_at i)))) i (next i) = tight (unsigned (base (bare (named g.first) (ap change g.sign.is_kind)))) in
    let up : Derives d (Level false 5 (expr.Of (spot.Name (name_at i)))) i (next i) = chain (chain (chain (chain (chain operand no_more) no_more) no_more) no_more) no_more in
    is_test (lone (lone (contains (operated up) (token.array g.sign g.second token.no_array))))

-- a head that counts does not begin as one over an array: what ends before a semicolon does not end before a parenthesis
no_member : {d : ℕ} {o : Option Stmt} {i j : Input} → Simply d o i j → kind j ≡ k.Semicolon → Members i → ⊥
no_member (no_part {d = d} {i = i}) e g = let no : k.Semicolon ≡ k.Name = sym e ∙ g.first.is_kind in cc
no_member (part {d = d} {a = a} {i = i} {j = j} (print_record s)) e g = let no : k.Print ≡ k.Name = sym s.is_kind ∙ g.first.is_kind in cc
no_member (part {d = d} {a = a} {i = i} {j = j} (print s h)) e g = let no : k.Print ≡ k.Name = sym s.is_kind ∙ g.first.is_kind in cc
no_member (part {d = d} {a = a} {i = i} {j = j} (printf s h)) e g = let no : k.Printf ≡ k.Name = sym s.is_kind ∙ g.first.is_kind in cc
no_member (part {d = d} {a = a} {i = i} {j = j} (delete s t h)) e g = let no : k.Delete ≡ k.Name = sym s.is_kind ∙ g.first.is_kind in cc
no_member (part {d = d} {a = a} {i = i} {j = j} (evaluate {e = y} h)) e g =
    let z = next (next (next i)) in
    let other : Derives d (Whole false (expr.In (expr.Of (spot.Name (name_at i))) (name_at (next (next i)) ∷ []))) i z = one_array d i g in
    let a = whole_complete d false y i j h (ap ends e) in
    let b = whole_complete d false (expr.In (expr.Of (spot.Name (name_at i))) (name_at (next (next i)) ∷ [])) i z other (ap ends g.close) in
    let same : j ≡ z = same_rest (expression (suc d) want.Whole i) (y, j) (expr.In (expr.Of (spot.Name (name_at i))) (name_at (next (next i)) ∷ []), z) a b in
    let no : k.Semicolon ≡ k.RightParen = sym e ∙ ap kind same ∙ g.close in
    cc

no_members : (i : Input) → (Members i → ⊥) → x.sees_member i ≡ false
no_members i never = go (x.sees_member i) refl
  where
    go : (b : Bool) → x.sees_member i ≡ b → x.sees_member i ≡ false
    go true e = absurd (never (members i e))
    go false e = e

headed : {d : ℕ} {h : Head} {i j : Input} → Heads d h i j → Headed d h i j
headed (head {d = d} {first = first} {last = final} {e = e} {u = u} {v = v} {w = w} {i = i} {j = j} {l = l} {m = m} {n = n} {o = o} {p = p} {q = q} {r = r} f s ns t z nt g y) = record {
  less = (
      let a = part_less f in
      let b = spells_shrink k.Semicolon u j l (λ q. cc) s in
      let c = newlines_shrink l m ns in
      let a' = test_less t in
      let b' = spells_shrink k.Semicolon v n o (λ q. cc) z in
      let c' = newlines_shrink o p nt in
      let a'' = part_less g in
      let b'' = spells_shrink k.RightParen w q r (λ q. cc) y in
      omega arith);
  read = head_is d first final e u v w i j l m n o p q r f s ns t z nt g y;
  apart_in = no_members i (no_member f s.is_kind);
}

-- ---- `else`

an_else : (w : List ℕ) (m n o p : Input) → Newlines m n → Spells k.Else w n o → Newlines o p → kind p ≢ k.Newline → x.other m ≡ Ok (true, p)
unfolding x.other
an_else w m n o p ns s nt ne =
    let same : newlines m ≡ n = newlines_exact m n (λ q. (let no : k.Else ≡ k.Newline = sym s.is_kind ∙ q in cc)) ns in
    ap (λ q. cond (sees k.Else q) (done true (newlines (next q))) (done false m)) same
    ∙ on_true (sees k.Else n) _ _ _ (seen k.Else n s.is_kind) (ap (λ q. done true (newlines q)) s.is_next ∙ ap (λ q. done true q) (newlines_exact o p ne nt))

none_else : (m : Input) → sees k.Else (newlines m) ≡ false → x.other m ≡ Ok (false, m)
unfolding x.other
none_else m h = on_false (sees k.Else (newlines m)) _ _ _ h refl

-- ---- statements

statement_by : (c : Context) (d : ℕ) (i : Input) → x.statement (suc d) c i ≡ x.one_by d (x.statement d) c (suc d) (kind i) i
unfolding x.statement x.one
statement_by c d i = refl

by_act : (d : ℕ) (deeper : Context → Parser Stmt) (c : Context) (own : ℕ) (a : Kind) (i : Input) → begins_act a ≡ true → x.one_by d deeper c own a i ≡ x.ended own i
by_act d deeper c own k.Semicolon i h = cc
by_act d deeper c own k.LeftBrace i h = cc
by_act d deeper c own k.If i h = cc
by_act d deeper c own k.While i h = cc
by_act d deeper c own k.Do i h = cc
by_act d deeper c own k.For i h = cc
by_act d deeper c own k.Next i h = cc
by_act d deeper c own k.Break i h = cc
by_act d deeper c own k.Continue i h = cc
by_act d deeper c own k.Exit i h = cc
by_act d deeper c own k.Return i h = cc
by_act d deeper c own _ i h = refl

by_jump : (d : ℕ) (deeper : Context → Parser Stmt) (c : Context) (own : ℕ) (a : Kind) (i : Input) → begins_jump a ≡ true → x.one_by d deeper c own a i ≡ x.placed_jump own c i
by_jump d deeper c own k.Next i h = refl
by_jump d deeper c own k.Break i h = refl
by_jump d deeper c own k.Continue i h = refl
by_jump d deeper c own k.Exit i h = refl
by_jump d deeper c own k.Return i h = refl
by_jump d deeper c own _ i h = cc

by_opening : (d : ℕ) (deeper : Context → Parser Stmt) (c : Context) (own : ℕ) (a : Kind) (i : Input) → opens a ≡ true → x.one_by d deeper c own a i ≡ x.compound d deeper c i
by_opening d deeper c own k.LeftBrace i h = refl
by_opening d deeper c own k.If i h = refl
by_opening d deeper c own k.While i h = refl
by_opening d deeper c own k.Do i h = refl
by_opening d deeper c own k.For i h = refl
by_opening d deeper c own _ i h = cc

compound_is : (c : Context) (d : ℕ) (deeper : Context → Parser Stmt) (a : Kind) (w : List ℕ) (i j : Input) (r : Outcome Stmt) → Spells a w i j → x.compound_by (suc d) deeper c (left i) a j ≡ r → x.compound (suc d) deeper c i ≡ r
unfolding x.compound
compound_is c d deeper a w i j r s h =
    on_false (suc d == 0) _ _ _ (not_zero d) (ap (λ q. x.compound_by (suc d) deeper c (left i) q (next i)) s.is_kind ∙ ap (x.compound_by (suc d) deeper c (left i) a) s.is_next ∙ h)

opened_is : (c : Context) (d : ℕ) (a : Kind) (w : List ℕ) (i j : Input) (r : Outcome Stmt) → opens a ≡ true → Spells a w i j → x.compound_by (suc d) (x.statement (suc d)) c (left i) a j ≡ r → x.statement (suc (suc d)) c i ≡ r
opened_is c d a w i j r o s h =
    statement_by c (suc d) i ∙ by_opening (suc d) (x.statement (suc d)) c (suc (suc d)) (kind i) i (ap opens s.is_kind ∙ o) ∙ compound_is c d (x.statement (suc d)) a w i j r s h

pub record Stated (c : Context) (d : ℕ) (s : Stmt) (i j : Input) : Type 0 where
  pub first : begins (kind i) ≡ true
  pub less : left j < left i
  pub read : x.statement (suc d) c i ≡ Ok (s, j)

pub record Filled (c : Context) (d : ℕ) (ss : List Stmt) (i j : Input) : Type 0 where
  pub less : left j ≤ left i
  pub read : (n : ℕ) (found : List Stmt) (w : List ℕ) (m : Input) → left i ≤ n → Spells k.RightBrace w j m → x.block_from (suc d) (x.statement (suc d)) c n found i ≡ Ok (found ++ ss, m)

pub record Braced (c : Context) (d : ℕ) (ss : List Stmt) (i j : Input) : Type 0 where
  pub first : kind i ≡ k.LeftBrace
  pub less : left j < left i
  pub alone : x.action d c i ≡ Ok (ss, j)
  pub stated : x.statement (suc d) c i ≡ Ok (tree.Block ss, j)

pub record Chained (c : Context) (d : ℕ) (bs : List Branch) (r : Option Stmt) (i j : Input) : Type 0 where
  pub less : left j < left i
  pub stated : (w : List ℕ) (g : Input) → Spells k.If w g i → x.statement (suc d) c g ≡ Ok (tree.If bs r, j)
  pub read : (n : ℕ) (found : List Branch) → left i ≤ n → x.chain_from d (x.statement d) c n found i ≡ Ok (tree.If (found ++ bs) r, j)

-- what the parser does at a phrase
Completes : Context → ℕ → Phrase → Input → Input → Type 0
Completes c d (One s) i j = Stated c d s i j
Completes c d (Many ss) i j = Filled c d ss i j
Completes c d (Action ss) i j = Braced c d ss i j
Completes c d (Chain bs r) i j = Chained c d bs r i j

act_begins : (a : Kind) → begins_act a ≡ true → begins a ≡ true
act_begins k.Semicolon h = refl
act_begins k.LeftBrace h = refl
act_begins k.If h = refl
act_begins k.While h = refl
act_begins k.Do h = refl
act_begins k.For h = refl
act_begins k.Next h = refl
act_begins k.Break h = refl
act_begins k.Continue h = refl
act_begins k.Exit h = refl
act_begins k.Return h = refl
act_begins _ h = h

jump_begins : (a : Kind) → begins_jump a ≡ true → begins a ≡ true
jump_begins k.Next h = refl
jump_begins k.Break h = refl
jump_begins k.Continue h = refl
jump_begins k.Exit h = refl
jump_begins k.Return h = refl
jump_begins _ h = cc

closed_is : (c : Context) (d n : ℕ) (found : List Stmt) (w : List ℕ) (i j m : Input) → 0 < n → newlines i ≡ j → Spells k.RightBrace w j m → x.block_from (suc d) (x.statement (suc d)) c n found i ≡ Ok (found ++ [], m)
unfolding x.block_from
closed_is c d zero found w i j m some nl s = absurd (omega arith)
closed_is c d (suc n) found w i j m some nl s =
    ap (λ q. cond (sees k.RightBrace q) (done found (next q)) (and_then (x.statement (suc d) c q) (λ s. x.block_from (suc d) (x.statement (suc d)) c n (found ++ s ∷ [])))) nl
    ∙ on_true (sees k.RightBrace j) _ _ _ (seen k.RightBrace j s.is_kind) (ap (λ q. done found q) s.is_next ∙ ap (λ v. done v m) (sym (append-nil found)))

more_is : (c : Context) (d n : ℕ) (found : List Stmt) (s : Stmt) (ss : List Stmt) (i j l m : Input) → newlines i ≡ j → kind j ≢ k.RightBrace → x.statement (suc d) c j ≡ Ok (s, l)
    → x.block_from (suc d) (x.statement (suc d)) c n (found ++ s ∷ []) l ≡ Ok ((found ++ s ∷ []) ++ ss, m) → x.block_from (suc d) (x.statement (suc d)) c (suc n) found i ≡ Ok (found ++ s ∷ ss, m)
unfolding x.block_from
more_is c d n found s ss i j l m nl ne h rest =
    ap (λ q. cond (sees k.RightBrace q) (done found (next q)) (and_then (x.statement (suc d) c q) (λ s. x.block_from (suc d) (x.statement (suc d)) c n (found ++ s ∷ [])))) nl
    ∙ on_false (sees k.RightBrace j) _ _ _ (not_seen k.RightBrace j ne) (go_on (x.statement (suc d) c j) (λ s. x.block_from (suc d) (x.statement (suc d)) c n (found ++ s ∷ [])) s l _ h (rest ∙ ap (λ v. done v m) (append_assoc found (s ∷ []) ss)))

moved : (c : Context) (d n : ℕ) (found : List Stmt) (s : Stmt) (ss : List Stmt) (i j l m o : Input) (w : List ℕ) → Newlines i j → Stated c d s j l → Filled c d ss l m → left i ≤ n → Spells k.RightBrace w m o
    → x.block_from (suc d) (x.statement (suc d)) c n found i ≡ Ok (found ++ s ∷ ss, o)
moved c d zero found s ss i j l m o w ns g r fuel b = absurd (let a = newlines_shrink i j ns in let b = g.less in omega arith)
moved c d (suc n) found s ss i j l m o w ns g r fuel b =
    let a = newlines_shrink i j ns in
    let e = g.less in
    more_is c d n found s ss i j l o (newlines_exact i j (apart begins (kind j) k.Newline g.first refl) ns) (apart begins (kind j) k.RightBrace g.first refl) g.read (r.read n (found ++ s ∷ []) w o (omega arith) b)

braced : (c : Context) (d : ℕ) (ss : List Stmt) (v w : List ℕ) (i j l m : Input) → Spells k.LeftBrace v i j → Filled c d ss j l → Spells k.RightBrace w l m → Braced c (suc d) ss i m
unfolding x.action x.block
braced c d ss v w i j l m s g t =
    let a = spells_shrink k.LeftBrace v i j (λ q. cc) s in
    let b = g.less in
    let e = spells_shrink k.RightBrace w l m (λ q. cc) t in
    let inside = g.read (left j) [] w m (omega arith) t in
    record {
      first = s.is_kind;
      less = omega arith;
      alone = go_on (expect k.LeftBrace i) _ tt j _ (expect_is k.LeftBrace v i j s) (ap (λ b. cond b too_deep (x.block (suc d) (x.statement (suc d)) c) j) (not_zero d) ∙ inside);
      stated = opened_is c d k.LeftBrace v i j _ refl s (go_on (x.block (suc d) (x.statement (suc d)) c j) (λ ss. pure (tree.Block ss)) ss m _ inside refl);
    }

no_newline : (c : Context) (d : ℕ) (s : Stmt) (i j : Input) → Stated c d s i j → kind i ≢ k.Newline
no_newline c d s i j g = apart begins (kind i) k.Newline g.first refl

branch_is : (c : Context) (d : ℕ) (t : Condition) (st : Stmt) (i j l m : Input) → Enclosed d t i j → Newlines j l → Stated c d st l m → x.branch (suc d) (x.statement (suc d)) c i ≡ Ok (branch_of t st, m)
unfolding x.branch
branch_is c d t st i j l m g ns b =
    go_on (x.condition (suc d) i) _ t l _ (condition_is d t i j l g ns (no_newline c d st l m b)) (go_on (x.statement (suc d) c l) (λ s. pure (branch_of t s)) st m _ b.read refl)

-- a chain whose reading is known, as a statement
chained : (c : Context) (d : ℕ) (bs : List Branch) (r : Option Stmt) (i j : Input) → left j < left i
    → ((n : ℕ) (found : List Branch) → left i ≤ suc n → x.chain_from (suc d) (x.statement (suc d)) c (suc n) found i ≡ Ok (tree.If (found ++ bs) r, j))
    → Chained c (suc d) bs r i j
unfolding x.chain
chained c d bs r i j less read = record {
  less = less;
  stated = λ w g s. opened_is c d k.If w g i _ refl s (reads (left i) [] (omega arith));
  read = reads;
}
  where
    reads : (n : ℕ) (found : List Branch) → left i ≤ n → x.chain_from (suc d) (x.statement (suc d)) c n found i ≡ Ok (tree.If (found ++ bs) r, j)
    reads zero found fuel = absurd (omega arith)
    reads (suc n) found fuel = read n found fuel

last_is : (c : Context) (d n : ℕ) (found : List Branch) (t : Condition) (st : Stmt) (i j l m : Input) → Enclosed d t i j → Newlines j l → Stated c d st l m → sees k.Else (newlines m) ≡ false
    → x.chain_from (suc d) (x.statement (suc d)) c (suc n) found i ≡ Ok (tree.If (found ++ branch_of t st ∷ []) None, m)
unfolding x.chain_from
last_is c d n found t st i j l m g ns b clear =
    go_on (x.branch (suc d) (x.statement (suc d)) c i) _ (branch_of t st) m _ (branch_is c d t st i j l m g ns b) (go_on (x.other m) _ false m _ (none_else m clear) refl)

otherwise_is : (c : Context) (d k' : ℕ) (found : List Branch) (t : Condition) (st so : Stmt) (w : List ℕ) (i j l m n o p q : Input) → Enclosed d t i j → Newlines j l → Stated c d st l m → Newlines m n → Spells k.Else w n o → Newlines o p → kind p ≢ k.If → Stated c d so p q
    → x.chain_from (suc d) (x.statement (suc d)) c (suc k') found i ≡ Ok (tree.If (found ++ branch_of t st ∷ []) (Some so), q)
unfolding x.chain_from
otherwise_is c d k' found t st so w i j l m n o p q g ns b nt s nu other h =
    go_on (x.branch (suc d) (x.statement (suc d)) c i) _ (branch_of t st) m _ (branch_is c d t st i j l m g ns b)
    (go_on (x.other m) _ true p _ (an_else w m n o p nt s nu (no_newline c d so p q h))
    (leaves k.If p (x.chain_from (suc d) (x.statement (suc d)) c k' (found ++ branch_of t st ∷ [])) (x.statement (suc d) c >>= (λ s. pure (tree.If (found ++ branch_of t st ∷ []) (Some s)))) _ other
    (go_on (x.statement (suc d) c p) (λ s. pure (tree.If (found ++ branch_of t st ∷ []) (Some s))) so q _ h.read refl)))

else_if_is : (c : Context) (d k' : ℕ) (found : List Branch) (t : Condition) (st : Stmt) (bs : List Branch) (r : Option Stmt) (v w : List ℕ) (i j l m n o p q z : Input) → Enclosed d t i j → Newlines j l → Stated c d st l m → Newlines m n → Spells k.Else v n o → Newlines o p → Spells k.If w p q
    → x.chain_from (suc d) (x.statement (suc d)) c k' (found ++ branch_of t st ∷ []) q ≡ Ok (tree.If ((found ++ branch_of t st ∷ []) ++ bs) r, z)
    → x.chain_from (suc d) (x.statement (suc d)) c (suc k') found i ≡ Ok (tree.If (found ++ branch_of t st ∷ bs) r, z)
unfolding x.chain_from
else_if_is c d k' found t st bs r v w i j l m n o p q z g ns b nt s nu y rest =
    go_on (x.branch (suc d) (x.statement (suc d)) c i) _ (branch_of t st) m _ (branch_is c d t st i j l m g ns b)
    (go_on (x.other m) _ true p _ (an_else v m n o p nt s nu (λ a. (let no : k.If ≡ k.Newline = sym y.is_kind ∙ a in cc)))
    (eats k.If w p q (x.chain_from (suc d) (x.statement (suc d)) c k' (found ++ branch_of t st ∷ [])) (x.statement (suc d) c >>= (λ s. pure (tree.If (found ++ branch_of t st ∷ []) (Some s)))) _ y
    (rest ∙ ap (λ a. done (tree.If a r) z) (append_assoc found (branch_of t st ∷ []) bs))))

while_is : (c : Context) (d : ℕ) (t : Condition) (st : Stmt) (i j l m : Input) → Enclosed d t i j → Newlines j l → Stated (looped c) d st l m → x.while_loop (suc d) (x.statement (suc d)) c i ≡ Ok (tree.While t st, m)
unfolding x.while_loop
while_is c d t st i j l m g ns b =
    go_on (x.condition (suc d) i) _ t l _ (condition_is d t i j l g ns (no_newline (looped c) d st l m b)) (go_on (x.statement (suc d) (looped c) l) (λ s. pure (tree.While t s)) st m _ b.read refl)

do_is : (c : Context) (d : ℕ) (t : Condition) (st : Stmt) (w : List ℕ) (j l m n o p q : Input) → Newlines j l → Stated (looped c) d st l m → Newlines m n → Spells k.While w n o → Enclosed d t o p → Ends p q → x.do_loop (suc d) (x.statement (suc d)) c j ≡ Ok (tree.Do st t, q)
unfolding x.do_loop
do_is c d t st w j l m n o p q ns b nt s g e =
    go_on (x.statement (suc d) (looped c) (newlines j)) _ st m _ (ap (x.statement (suc d) (looped c)) (newlines_exact j l (no_newline (looped c) d st l m b) ns) ∙ b.read)
    (go_on (expect k.While (newlines m)) _ tt o _ (ap (expect k.While) (newlines_exact m n (λ a. (let no : k.While ≡ k.Newline = sym s.is_kind ∙ a in cc)) nt) ∙ expect_is k.While w n o s)
    (go_on (x.enclosed (suc d) o) _ t p _ g.read (go_on (x.end p) (λ _. pure (tree.Do st t)) tt q _ (end_is p q e) refl)))

count_is : (c : Context) (d place : ℕ) (h : Head) (st : Stmt) (w : List ℕ) (j l m n o : Input) → Spells k.LeftParen w j l → Headed d h l m → Newlines m n → Stated (looped c) d st n o → x.for_loop (suc d) (x.statement (suc d)) c place j ≡ Ok (tree.For h st, o)
unfolding x.for_loop x.count_loop
count_is c d place h st w j l m n o s g ns b =
    go_on (expect k.LeftParen j) _ tt l _ (expect_is k.LeftParen w j l s)
    (on_false (x.sees_member l) _ _ _ g.apart_in
    (go_on (x.head (suc d) l) _ h m _ g.read
    (go_on (x.statement (suc d) (looped c) (newlines m)) (λ body. pure (tree.For h body)) st o _ (ap (x.statement (suc d) (looped c)) (newlines_exact m n (no_newline (looped c) d st n o b) ns) ∙ b.read) refl)))

member_is : (c : Context) (d place : ℕ) (st : Stmt) (u v w t y : List ℕ) (j l m n o p q r : Input)
    → Spells k.LeftParen u j l → Spells k.Name v l m → Spells k.In w m n → Spells k.Name t n o → Spells k.RightParen y o p → Newlines p q → Stated (looped c) d st q r
    → x.for_loop (suc d) (x.statement (suc d)) c place j ≡ Ok (tree.ForIn place (name_at l) (name_at n) st, r)
unfolding x.for_loop x.member_loop name
member_is c d place st u v w t y j l m n o p q r a b e f g ns h =
    let second : next (next l) ≡ n = ap next b.is_next ∙ e.is_next in
    let behind : next (next (next (next l))) ≡ p = ap (λ z. next (next z)) second ∙ ap next f.is_next ∙ g.is_next in
    go_on (expect k.LeftParen j) _ tt l _ (expect_is k.LeftParen u j l a)
    (on_true (x.sees_member l) _ _ _ (member_seen v w t y l m n o p b e f g)
    (go_on (x.statement (suc d) (looped c) (newlines (next (next (next (next l)))))) (λ body. pure (tree.ForIn place (name_at l) (name_at (next (next l))) body)) st r _
    (ap (λ z. x.statement (suc d) (looped c) (newlines z)) behind ∙ ap (x.statement (suc d) (looped c)) (newlines_exact p q (no_newline (looped c) d st q r h) ns) ∙ h.read)
    (ap (λ z. done (tree.ForIn place (name_at l) (name_at z) st) r) second)))

complete : {c : Context} {d : ℕ} {f : Phrase} {i j : Input} → States c d f i j → Completes c d f i j
unfolding Completes
complete (empty {c = c} {d = d} {w = w} {i = i} {j = j} s) = record {
  first = ap begins s.is_kind;
  less = spells_shrink k.Semicolon w i j (λ q. cc) s;
  read = statement_by c d i ∙ by_kind (x.one_by d (x.statement d) c (suc d)) k.Semicolon i s.is_kind ∙ ap (λ m. done tree.Empty m) s.is_next;
}
complete (simple {c = c} {d = d} {a = a} {i = i} {j = j} {l = l} h s) =
    let g = acted h in
    let e = ends_less j l s in
    let b = g.less in
    record {
      first = act_begins (kind i) g.first;
      less = omega arith;
      read = statement_by c d i ∙ by_act d (x.statement d) c (suc d) (kind i) i g.first ∙ ended_is d a i j l g s;
    }
complete (jump {c = c} {d = d} {x = y} {i = i} {j = j} {l = l} h s) =
    let g = jumped h in
    let e = ends_less j l s in
    let b = g.less in
    record {
      first = jump_begins (kind i) g.first;
      less = omega arith;
      read = statement_by c d i ∙ by_jump d (x.statement d) c (suc d) (kind i) i g.first ∙ placed_is c d y i j l g s;
    }
complete (none {c = c} {d = d} {i = i} {j = j} ns) =
    let a = newlines_shrink i j ns in
    record {
      less = a;
      read = λ n found w m fuel s.
          let some = spells_shrink k.RightBrace w j m (λ q. cc) s in
          closed_is c d n found w i j m (omega arith) (newlines_exact i j (λ q. (let no : k.RightBrace ≡ k.Newline = sym s.is_kind ∙ q in cc)) ns) s;
    }
complete (more {c = c} {d = d} {s = s} {ss = ss} {i = i} {j = j} {l = l} {m = m} ns h t) =
    let g = complete h in
    let r = complete t in
    let a = newlines_shrink i j ns in
    let b = g.less in
    let e = r.less in
    record {
      less = omega arith;
      read = λ n found w o fuel y. moved c d n found s ss i j l m o w ns g r fuel y;
    }
complete (action {c = c} {d = d} {ss = ss} {v = v} {w = w} {i = i} {j = j} {l = l} {m = m} s h t) = braced c d ss v w i j l m s (complete h) t
complete (block {c = c} {d = d} {ss = ss} {i = i} {j = j} h) =
    let g = complete h in
    record { first = ap begins g.first; less = g.less; read = g.stated }
complete (choice {c = c} {d = d} {bs = bs} {r = r} {w = w} {i = i} {j = j} {l = l} s h) =
    let g = complete h in
    let a = spells_shrink k.If w i j (λ q. cc) s in
    let b = g.less in
    record { first = ap begins s.is_kind; less = omega arith; read = g.stated w i s }
complete (last {c = c} {d = d} {t = t} {s = st} {i = i} {j = j} {l = l} {m = m} h ns b free) =
    let g = enclosed h in
    let r = complete b in
    let a = g.less in
    let a' = newlines_shrink j l ns in
    let a'' = r.less in
    chained c d (branch_of t st ∷ []) None i m (omega arith) (λ n found fuel. last_is c d n found t st i j l m g ns r (unseen m free))
complete (otherwise {c = c} {d = d} {t = t} {s = st} {r = so} {w = w} {i = i} {j = j} {l = l} {m = m} {n = n} {o = o} {p = p} {q = q} h ns b nt s nu other e) =
    let g = enclosed h in
    let r = complete b in
    let z = complete e in
    let a1 = g.less in
    let a2 = newlines_shrink j l ns in
    let a3 = r.less in
    let a4 = newlines_shrink m n nt in
    let a5 = spells_shrink k.Else w n o (λ q. cc) s in
    let a6 = newlines_shrink o p nu in
    let a7 = z.less in
    chained c d (branch_of t st ∷ []) (Some so) i q (omega arith) (λ k' found fuel. otherwise_is c d k' found t st so w i j l m n o p q g ns r nt s nu other z)
complete (else_if {c = c} {d = d} {t = t} {s = st} {bs = bs} {r = y} {v = v} {w = w} {i = i} {j = j} {l = l} {m = m} {n = n} {o = o} {p = p} {q = q} {z = z} h ns b nt s nu e f) =
    let g = enclosed h in
    let r = complete b in
    let rest = complete f in
    let a1 = g.less in
    let a2 = newlines_shrink j l ns in
    let a3 = r.less in
    let a4 = newlines_shrink m n nt in
    let a5 = spells_shrink k.Else v n o (λ q. cc) s in
    let a6 = newlines_shrink o p nu in
    let a7 = spells_shrink k.If w p q (λ q. cc) e in
    let a8 = rest.less in
    chained c d (branch_of t st ∷ bs) y i z (omega arith)
    (λ k' found fuel. else_if_is c d k' found t st bs y v w i j l m n o p q z g ns r nt s nu e (rest.read k' (found ++ branch_of t st ∷ []) (omega arith)))
complete (while_loop {c = c} {d = d} {t = t} {s = st} {w = w} {i = i} {j = j} {l = l} {m = m} {n = n} s h ns b) =
    let g = enclosed h in
    let r = complete b in
    let a1 = spells_shrink k.While w i j (λ q. cc) s in
    let a2 = g.less in
    let a3 = newlines_shrink l m ns in
    let a4 = r.less in
    record { first = ap begins s.is_kind; less = omega arith; read = opened_is c d k.While w i j _ refl s (while_is c d t st j l m n g ns r) }
complete (do_loop {c = c} {d = d} {t = t} {s = st} {v = v} {w = w} {i = i} {j = j} {l = l} {m = m} {n = n} {o = o} {p = p} {q = q} s ns b nt e h f) =
    let g = enclosed h in
    let r = complete b in
    let a1 = spells_shrink k.Do v i j (λ q. cc) s in
    let a2 = newlines_shrink j l ns in
    let a3 = r.less in
    let a4 = newlines_shrink m n nt in
    let a5 = spells_shrink k.While w n o (λ q. cc) e in
    let a6 = g.less in
    let a7 = ends_less p q f in
    record { first = ap begins s.is_kind; less = omega arith; read = opened_is c d k.Do v i j _ refl s (do_is c d t st w j l m n o p q ns r nt e g f) }
complete (count_loop {c = c} {d = d} {h = h} {s = st} {v = v} {w = w} {i = i} {j = j} {l = l} {m = m} {n = n} {o = o} s e f ns b) =
    let g = headed f in
    let r = complete b in
    let a1 = spells_shrink k.For v i j (λ q. cc) s in
    let a2 = spells_shrink k.LeftParen w j l (λ q. cc) e in
    let a3 = g.less in
    let a4 = newlines_shrink m n ns in
    let a5 = r.less in
    record { first = ap begins s.is_kind; less = omega arith; read = opened_is c d k.For v i j _ refl s (count_is c d (left i) h st w j l m n o e g ns r) }
complete (member_loop {c = c} {d = d} {s = st} {t = t} {u = u} {v = v} {w = w} {x = z} {y = y} {i = i} {j = j} {l = l} {m = m} {n = n} {o = o} {p = p} {q = q} {r = r} s a b e f g ns h) =
    let body = complete h in
    let a1 = spells_shrink k.For t i j (λ q. cc) s in
    let a2 = spells_shrink k.LeftParen u j l (λ q. cc) a in
    let a3 = spells_shrink k.Name v l m (λ q. cc) b in
    let a4 = spells_shrink k.In w m n (λ q. cc) e in
    let a5 = spells_shrink k.Name z n o (λ q. cc) f in
    let a6 = spells_shrink k.RightParen y o p (λ q. cc) g in
    let a7 = newlines_shrink p q ns in
    let a8 = body.less in
    record { first = ap begins s.is_kind; less = omega arith; read = opened_is c d k.For t i j _ refl s (member_is c d (left i) st u v w z y j l m n o p q r a b e f g ns body) }

pub action_complete : (c : Context) (d : ℕ) (ss : List Stmt) (i j : Input) → States c d (Action ss) i j → (kind i ≡ k.LeftBrace) × (left j < left i) × (x.action d c i ≡ Ok (ss, j))
unfolding Completes
action_complete c d ss i j h = let g = complete h in (g.first, g.less, g.alone)
