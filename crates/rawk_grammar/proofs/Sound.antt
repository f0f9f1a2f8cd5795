-- What the parser of statements reads is derived by the grammar.
use Rattle.std.proofs.Common.{◌≡◌, ℕ, zero, suc, Bool, true, false, cond, ◌⊎◌, inl, inr, List, [], ◌∷◌, ◌++◌, Option, Some, None, Ok, Err, refl, sym, ap, subst, ◌∙◌, append_assoc, append-nil}
use Rattle.rawk_keywords.specs.declared.token.Kind.{Kind}
use Rattle.rawk_keywords.specs.declared.token.Kind.TheVariants as k
use Rattle.rawk_lexer.specs.Lex.{kind, next, spelling, left}
use Rattle.rawk_expression.specs.declared.grammar.Wanted.TheVariants as want
use Rattle.rawk_parsing.specs.declared.refusal.RefusalKind.TheVariants as refused
use Rattle.rawk_parsing.specs.declared.parse_error.ParseError.TheVariants.{Here}
use Rattle.rawk_parsing.specs.declared.tree.Expr.{Expr}
use Rattle.rawk_parsing.specs.Parser.{Input, Parser, and_then, ◌>>=◌, pure, refuse, too_deep, eat, expect, sees, after, newlines, name}
use Rattle.rawk_expression.specs.Expression.{expression, lone_place, printed}
use Rattle.rawk_parsing.specs.Tokens.{Spells, Newlines}
use Rattle.rawk_expression.specs.Sound.{whole_derived, place_derived, printed_derived}
use Rattle.rawk_parsing.specs.Steps.{and_then_ok, cond_ok, done, at_ok, not_ok, sees_kind, spells, eaten, kept, expect_ok, newlines_are}
use Rattle.rawk_grammar.specs.declared.context.Context.{Context}
use Rattle.rawk_grammar.specs.declared.tree.Act.{Act}
use Rattle.rawk_grammar.specs.declared.tree.Act.TheVariants as act
use Rattle.rawk_grammar.specs.declared.tree.Simple.{Simple}
use Rattle.rawk_grammar.specs.declared.tree.Jump.{Jump}
use Rattle.rawk_grammar.specs.declared.tree.Jump.TheVariants as jumps
use Rattle.rawk_grammar.specs.declared.tree.Condition.{Condition}
use Rattle.rawk_grammar.specs.declared.tree.Head.{Head}
use Rattle.rawk_grammar.specs.declared.tree.Branch.{Branch}
use Rattle.rawk_grammar.specs.declared.tree.Stmt.{Stmt}
use Rattle.rawk_grammar.specs.declared.tree.Stmt.TheVariants as tree
use Rattle.rawk_grammar.specs.Context.{looped, is_function, allows}
use Rattle.rawk_grammar.specs.Statement.{branch_of, simple_at}
use Rattle.rawk_grammar.specs.Statement as x
use Rattle.rawk_grammar.specs.Grammar.{Ends, semicolon, newline, brace, Acts, evaluate, print_record, print, printf, delete, Jumps, next_record, break_loop, continue_loop, exit, exit_with, return, return_with, Encloses, parentheses, Simply, no_part, part, Tests, no_test, test, Heads, head, NoElse, One, Many, Action, Chain, States, empty, simple, jump, none, more, action, block, choice, last, otherwise, else_if, while_loop, do_loop, count_loop, member_loop}
use Rattle.rawk_expression.specs.Follow.{seen, newlines_exact}
use Rattle.rawk_grammar.proofs.Steps.{both, not_zero}

end_by_sound : (i : Input) (r : Unit {0} × Input) (c : Kind) → kind i ≡ c → x.end_by c i ≡ Ok r → Ends i r.1
end_by_sound i r k.Semicolon e h = at_ok (λ _ j. Ends i j) _ _ r (semicolon (spells k.Semicolon i e)) h
end_by_sound i r k.Newline e h = at_ok (λ _ j. Ends i j) _ _ r (newline (spells k.Newline i e)) h
end_by_sound i r k.RightBrace e h = at_ok (λ _ j. Ends i j) _ _ r (brace e) h
end_by_sound i r _ e h = not_ok _ r h

end_sound : (i : Input) (r : Unit {0} × Input) → x.end i ≡ Ok r → Ends i r.1
unfolding x.end
end_sound i r h = end_by_sound i r (kind i) refl h

-- ---- simple statements

list_sound : (d : ℕ) (w : List ℕ) (i j : Input) (r : List Expr × Input) → Spells k.Print w i j → x.optional_list (suc d) j ≡ Ok r → Acts d (act.Print r.0) i r.1
unfolding x.optional_list
list_sound d w i j r s h = go (x.is_bare (kind j)) h
  where
    go : (b : Bool) → cond b (done [] j) (printed (suc d) j) ≡ Ok r → Acts d (act.Print r.0) i r.1
    go true h = at_ok (λ es l. Acts d (act.Print es) i l) _ _ r (print_record s) h
    go false h = print s (printed_derived d j r h)

deleted_sound : (d : ℕ) (w : List ℕ) (i j : Input) (r : Act × Input) → Spells k.Delete w i j → x.deleted (suc d) j ≡ Ok r → Acts d r.0 i r.1
unfolding x.deleted
deleted_sound d w i j r s h = go (sees k.Name j) refl h
  where
    go : (b : Bool) → sees k.Name j ≡ b → cond b (and_then (lone_place (suc d) j) (λ p. pure (act.Delete p))) (refuse j) ≡ Ok r → Acts d r.0 i r.1
    go true e h =
        let a = and_then_ok (lone_place (suc d) j) _ r h in
        at_ok (λ y l. Acts d y i l) _ _ r (delete s (sees_kind k.Name j e) (place_derived d j a.0 a.1)) a.2
    go false e h = not_ok _ r h

act_by_sound : (d : ℕ) (i : Input) (r : Act × Input) (c : Kind) → kind i ≡ c → x.act_by (suc d) c i ≡ Ok r → Acts d r.0 i r.1
act_by_sound d i r k.Print e h =
    let a = and_then_ok (x.optional_list (suc d) (next i)) _ r h in
    at_ok (λ y l. Acts d y i l) _ _ r (list_sound d _ i (next i) a.0 (spells k.Print i e) a.1) a.2
act_by_sound d i r k.Printf e h =
    let a = and_then_ok (printed (suc d) (next i)) _ r h in
    at_ok (λ y l. Acts d y i l) _ _ r (printf (spells k.Printf i e) (printed_derived d _ a.0 a.1)) a.2
act_by_sound d i r k.Delete e h = deleted_sound d _ i (next i) r (spells k.Delete i e) h
act_by_sound d i r _ e h =
    let a = and_then_ok (expression (suc d) want.Whole i) _ r h in
    at_ok (λ y l. Acts d y i l) _ _ r (evaluate (whole_derived d false i a.0 a.1)) a.2

-- what is read is a simple statement at its place
abbrev Simples : ℕ → Simple → Input → Input → Type 0
Simples d s i j = (a : Act) × (simple_at (left i) a ≡ s) × Acts d a i j

simple_sound : (d : ℕ) (i : Input) (r : Simple × Input) → x.simple (suc d) i ≡ Ok r → Simples d r.0 i r.1
unfolding x.simple
simple_sound d i r h =
    let p = and_then_ok (x.act_by (suc d) (kind i) i) _ r h in
    at_ok (λ s l. Simples d s i l) _ _ r (p.0.0, refl, act_by_sound d i p.0 (kind i) refl p.1) p.2

ended_sound : (c : Context) (d : ℕ) (i : Input) (r : Stmt × Input) → x.ended (suc d) i ≡ Ok r → States c d (One r.0) i r.1
unfolding x.ended
ended_sound c d i r h =
    let p = and_then_ok (x.simple (suc d) i) _ r h in
    let q = and_then_ok (x.end p.0.1) _ r p.2 in
    let s = simple_sound d i p.0 p.1 in
    let g : States c d (One (tree.Simple p.0.0)) i q.0.1 = subst (λ z. States c d (One (tree.Simple z)) i q.0.1) s.1 (simple s.2 (end_sound p.0.1 q.0 q.1)) in
    at_ok (λ y l. States c d (One y) i l) _ _ r g q.2

-- ---- jumps

value_sound : (d : ℕ) (i : Input) (r : Option Expr × Input) → x.optional_value (suc d) i ≡ Ok r → Tests d r.0 i r.1
unfolding x.optional_value
value_sound d i r h = go (x.closes (kind i)) h
  where
    go : (b : Bool) → cond b (done None i) (and_then (expression (suc d) want.Whole i) (λ e. pure (Some e))) ≡ Ok r → Tests d r.0 i r.1
    go true h = at_ok (λ o j. Tests d o i j) _ _ r no_test h
    go false h =
        let a = and_then_ok (expression (suc d) want.Whole i) _ r h in
        at_ok (λ o j. Tests d o i j) _ _ r (test (whole_derived d false i a.0 a.1)) a.2

exits : {c : Context} {d : ℕ} {o : Option Expr} {w : List ℕ} {i j l : Input} → Spells k.Exit w i j → Tests d o j l → Jumps c d (jumps.Exit o) i l
exits s no_test = exit s
exits s (test h) = exit_with s h

returns : {c : Context} {d : ℕ} {o : Option Expr} {w : List ℕ} {i j l : Input} → is_function c.owner ≡ true → Spells k.Return w i j → Tests d o j l → Jumps c d (jumps.Return o) i l
returns p s no_test = return p s
returns p s (test h) = return_with p s h

jump_by_sound : (c : Context) (d : ℕ) (i : Input) (r : Jump × Input) (a : Kind) → kind i ≡ a → allows c a ≡ true → x.jump_by (suc d) a i ≡ Ok r → Jumps c d r.0 i r.1
jump_by_sound c d i r k.Next e p h = at_ok (λ y j. Jumps c d y i j) _ _ r (next_record p (spells k.Next i e)) h
jump_by_sound c d i r k.Break e p h = at_ok (λ y j. Jumps c d y i j) _ _ r (break_loop p (spells k.Break i e)) h
jump_by_sound c d i r k.Continue e p h = at_ok (λ y j. Jumps c d y i j) _ _ r (continue_loop p (spells k.Continue i e)) h
jump_by_sound c d i r k.Exit e p h =
    let a = and_then_ok (x.optional_value (suc d) (next i)) _ r h in
    at_ok (λ y j. Jumps c d y i j) _ _ r (exits (spells k.Exit i e) (value_sound d _ a.0 a.1)) a.2
jump_by_sound c d i r k.Return e p h =
    let a = and_then_ok (x.optional_value (suc d) (next i)) _ r h in
    at_ok (λ y j. Jumps c d y i j) _ _ r (returns p (spells k.Return i e) (value_sound d _ a.0 a.1)) a.2
jump_by_sound c d i r _ e p h = not_ok _ r h

jump_sound : (c : Context) (d : ℕ) (i : Input) (r : Stmt × Input) → allows c (kind i) ≡ true → x.jump (suc d) i ≡ Ok r → States c d (One r.0) i r.1
unfolding x.jump
jump_sound c d i r p h =
    let a = and_then_ok (x.jump_by (suc d) (kind i) i) _ r h in
    let b = and_then_ok (x.end a.0.1) _ r a.2 in
    at_ok (λ y j. States c d (One y) i j) _ _ r (jump (jump_by_sound c d i a.0 (kind i) refl p a.1) (end_sound a.0.1 b.0 b.1)) b.2

placed_sound : (c : Context) (d : ℕ) (i : Input) (r : Stmt × Input) → x.placed_jump (suc d) c i ≡ Ok r → States c d (One r.0) i r.1
unfolding x.placed_jump
placed_sound c d i r h = go (allows c (kind i)) refl h
  where
    go : (b : Bool) → allows c (kind i) ≡ b → cond b (x.jump (suc d) i) (Err (Here refused.Misplaced (left i))) ≡ Ok r → States c d (One r.0) i r.1
    go true p h = jump_sound c d i r p h
    go false p h = not_ok _ r h

-- ---- heads

enclosed_sound : (d : ℕ) (i : Input) (r : Condition × Input) → x.enclosed (suc d) i ≡ Ok r → Encloses d r.0 i r.1
unfolding x.enclosed
enclosed_sound d i r h =
    let a = and_then_ok (expect k.LeftParen i) _ r h in
    let b = and_then_ok (expression (suc d) want.Whole a.0.1) _ r a.2 in
    let c = and_then_ok (expect k.RightParen b.0.1) _ r b.2 in
    at_ok (λ t j. Encloses d t i j) _ _ r (parentheses (expect_ok k.LeftParen i a.0 a.1) (whole_derived d false a.0.1 b.0 b.1) (expect_ok k.RightParen b.0.1 c.0 c.1)) c.2

-- a condition, and the newlines behind it
abbrev Conditions : ℕ → Condition → Input → Input → Type 0
Conditions d t i j = (m : Input) × Encloses d t i m × Newlines m j

condition_sound : (d : ℕ) (i : Input) (r : Condition × Input) → x.condition (suc d) i ≡ Ok r → Conditions d r.0 i r.1
unfolding x.condition
condition_sound d i r h =
    let a = and_then_ok (x.enclosed (suc d) i) _ r h in
    at_ok (λ t j. Conditions d t i j) _ _ r (a.0.1, enclosed_sound d i a.0 a.1, newlines_are a.0.1) a.2

part_sound : (stop : Kind) (d : ℕ) (i : Input) (r : Option Stmt × Input) → x.optional_simple stop (suc d) i ≡ Ok r → Simply d r.0 i r.1
unfolding x.optional_simple
part_sound stop d i r h = go (sees stop i) h
  where
    go : (b : Bool) → cond b (done None i) (and_then (x.simple (suc d) i) (λ s. pure (Some (tree.Simple s)))) ≡ Ok r → Simply d r.0 i r.1
    go true h = at_ok (λ o j. Simply d o i j) _ _ r no_part h
    go false h =
        let a = and_then_ok (x.simple (suc d) i) _ r h in
        let s = simple_sound d i a.0 a.1 in
        let g : Simply d (Some (tree.Simple a.0.0)) i a.0.1 = subst (λ z. Simply d (Some (tree.Simple z)) i a.0.1) s.1 (part s.2) in
        at_ok (λ o j. Simply d o i j) _ _ r g a.2

test_sound : (d : ℕ) (i : Input) (r : Option Expr × Input) → x.optional_test (suc d) i ≡ Ok r → Tests d r.0 i r.1
unfolding x.optional_test
test_sound d i r h = go (sees k.Semicolon i) h
  where
    go : (b : Bool) → cond b (done None i) (and_then (expression (suc d) want.Whole i) (λ e. pure (Some e))) ≡ Ok r → Tests d r.0 i r.1
    go true h = at_ok (λ o j. Tests d o i j) _ _ r no_test h
    go false h =
        let a = and_then_ok (expression (suc d) want.Whole i) _ r h in
        at_ok (λ o j. Tests d o i j) _ _ r (test (whole_derived d false i a.0 a.1)) a.2

abbrev Semicolons : Input → Input → Type 0
Semicolons i j = (m : Input) × Spells k.Semicolon (spelling i) i m × Newlines m j

semicolon_sound : (i : Input) (r : Unit {0} × Input) → x.semicolon i ≡ Ok r → Semicolons i r.1
unfolding x.semicolon
semicolon_sound i r h =
    let a = and_then_ok (expect k.Semicolon i) _ r h in
    at_ok (λ _ j. Semicolons i j) _ _ r (a.0.1, expect_ok k.Semicolon i a.0 a.1, newlines_are a.0.1) a.2

head_sound : (d : ℕ) (i : Input) (r : Head × Input) → x.head (suc d) i ≡ Ok r → Heads d r.0 i r.1
unfolding x.head
head_sound d i r h =
    let a = and_then_ok (x.optional_simple k.Semicolon (suc d) i) _ r h in
    let b = and_then_ok (x.semicolon a.0.1) _ r a.2 in
    let t = and_then_ok (x.optional_test (suc d) b.0.1) _ r b.2 in
    let u = and_then_ok (x.semicolon t.0.1) _ r t.2 in
    let v = and_then_ok (x.optional_simple k.RightParen (suc d) u.0.1) _ r u.2 in
    let w = and_then_ok (expect k.RightParen v.0.1) _ r v.2 in
    let s = semicolon_sound a.0.1 b.0 b.1 in
    let z = semicolon_sound t.0.1 u.0 u.1 in
    at_ok (λ y j. Heads d y i j) _ _ r (head (part_sound k.Semicolon d i a.0 a.1) s.1 s.2 (test_sound d b.0.1 t.0 t.1) z.1 z.2 (part_sound k.RightParen d u.0.1 v.0 v.1) (expect_ok k.RightParen v.0.1 w.0 w.1)) w.2

-- an `else` and the newlines around it, or none
Others : Bool → Input → Input → Type 0
Others true i j = (n : Input) × (o : Input) × Newlines i n × Spells k.Else (spelling n) n o × Newlines o j
Others false i j = (i ≡ j) × NoElse i

no_else : (i : Input) → sees k.Else (newlines i) ≡ false → NoElse i
no_else i e j ns at = absurd (
    let same : newlines i ≡ j = newlines_exact i j (λ q. (let no : k.Else ≡ k.Newline = sym at ∙ q in cc)) ns in
    let s : sees k.Else (newlines i) ≡ true = seen k.Else (newlines i) (ap kind same ∙ at) in
    let no : true ≡ false = sym s ∙ e in
    cc)

other_sound : (i : Input) (r : Bool × Input) → x.other i ≡ Ok r → Others r.0 i r.1
unfolding x.other Others
other_sound i r h = go (sees k.Else (newlines i)) refl h
  where
    go : (b : Bool) → sees k.Else (newlines i) ≡ b → cond b (done true (newlines (next (newlines i)))) (done false i) ≡ Ok r → Others r.0 i r.1
    go true e h =
        at_ok (λ b j. Others b i j) _ _ r (newlines i, next (newlines i), newlines_are i, spells k.Else (newlines i) (sees_kind k.Else (newlines i) e), newlines_are (next (newlines i))) h
    go false e h = at_ok (λ b j. Others b i j) _ _ r (refl, no_else i e) h

-- ---- rules that open a construct

abbrev IsSound : ℕ → (Context → Parser Stmt) → Type 0
IsSound d deeper = (c : Context) (i : Input) (r : Stmt × Input) → deeper c i ≡ Ok r → States c d (One r.0) i r.1

-- statements, then a closing brace
abbrev Closed : Context → ℕ → List Stmt → Input → Input → Type 0
Closed c d ss i m = (j : Input) × States c d (Many ss) i j × Spells k.RightBrace (spelling j) j m

-- a branch
abbrev Branches : Context → ℕ → Branch → Input → Input → Type 0
Branches c d b i m = (t : Condition) × (s : Stmt) × (j : Input) × (branch_of t s ≡ b) × Conditions d t i j × States c d (One s) j m

-- branches
abbrev Chains : Context → ℕ → List Branch → Stmt → Input → Input → Type 0
Chains c d found s i j = (bs : List Branch) × (r : Option Stmt) × (tree.If (found ++ bs) r ≡ s) × States c (suc d) (Chain bs r) i j

module _ (d : ℕ) (deeper : Context → Parser Stmt) (sound : IsSound d deeper) (c : Context) where
  block_from_sound : (n : ℕ) (found : List Stmt) (i : Input) (r : List Stmt × Input) → x.block_from (suc d) deeper c n found i ≡ Ok r → (ss : List Stmt) × (found ++ ss ≡ r.0) × Closed c d ss i r.1
  unfolding x.block_from
  block_from_sound zero found i r h = not_ok _ r h
  block_from_sound (suc n) found i r h = go (sees k.RightBrace (newlines i)) refl (λ f j. block_from_sound n f j r) h
    where
      go : (b : Bool) → sees k.RightBrace (newlines i) ≡ b → ((f : List Stmt) (j : Input) → x.block_from (suc d) deeper c n f j ≡ Ok r → (ss : List Stmt) × (f ++ ss ≡ r.0) × Closed c d ss j r.1)
          → cond b (done found (next (newlines i))) (and_then (deeper c (newlines i)) (λ s. x.block_from (suc d) deeper c n (found ++ s ∷ []))) ≡ Ok r → (ss : List Stmt) × (found ++ ss ≡ r.0) × Closed c d ss i r.1
      go true e rest h =
          at_ok (λ y m. (ss : List Stmt) × (found ++ ss ≡ y) × Closed c d ss i m) _ _ r ([], append-nil found, (newlines i, none (newlines_are i), spells k.RightBrace (newlines i) (sees_kind k.RightBrace (newlines i) e))) h
      go false e rest h =
          let a = and_then_ok (deeper c (newlines i)) _ r h in
          let t = rest (found ++ a.0.0 ∷ []) a.0.1 a.2 in
          (a.0.0 ∷ t.0, sym (append_assoc found (a.0.0 ∷ []) t.0) ∙ t.1, (t.2.0, more (newlines_are i) (sound c _ a.0 a.1) t.2.1, t.2.2))

  block_sound : (i : Input) (r : List Stmt × Input) → x.block (suc d) deeper c i ≡ Ok r → Closed c d r.0 i r.1
  unfolding x.block
  block_sound i r h =
      let t = block_from_sound (left i) [] i r h in
      let same : t.0 ≡ r.0 = t.1 in
      subst (λ ss. Closed c d ss i r.1) same t.2

  pub branch_sound : (i : Input) (r : Branch × Input) → x.branch (suc d) deeper c i ≡ Ok r → Branches c d r.0 i r.1
  unfolding x.branch
  branch_sound i r h =
      let a = and_then_ok (x.condition (suc d) i) _ r h in
      let b = and_then_ok (deeper c a.0.1) _ r a.2 in
      at_ok (λ y m. Branches c d y i m) _ _ r (a.0.0, b.0.0, a.0.1, refl, condition_sound d i a.0 a.1, sound c a.0.1 b.0 b.1) b.2

  -- a branch with no `else`
  last_branch : (b : Branch) (i j m : Input) → Branches c d b i j → Others false j m → States c (suc d) (Chain (b ∷ []) None) i m
  unfolding Others
  last_branch b i j m g o =
      subst (λ q. States c (suc d) (Chain (b ∷ []) None) i q) o.0 (subst (λ y. States c (suc d) (Chain (y ∷ []) None) i j) g.3 (last g.4.1 g.4.2 g.5 o.1))

  -- a branch, and an `else` with another body
  two_branches : (b : Branch) (s : Stmt) (i j m n : Input) → Branches c d b i j → Others true j m → sees k.If m ≡ false → States c d (One s) m n → States c (suc d) (Chain (b ∷ []) (Some s)) i n
  unfolding Others
  two_branches b s i j m n g o e h =
      subst (λ y. States c (suc d) (Chain (y ∷ []) (Some s)) i n) g.3 (otherwise g.4.1 g.4.2 g.5 o.2 o.3 o.4 (λ q. (let s : sees k.If m ≡ true = seen k.If m q in let no : true ≡ false = sym s ∙ e in cc)) h)

  -- a branch, `else` and further branches
  more_branches : (b : Branch) (bs : List Branch) (r : Option Stmt) (i j m n o : Input) → Branches c d b i j → Others true j m → Spells k.If (spelling m) m n → States c (suc d) (Chain bs r) n o → States c (suc d) (Chain (b ∷ bs) r) i o
  unfolding Others
  more_branches b bs r i j m n o g e s h = subst (λ y. States c (suc d) (Chain (y ∷ bs) r) i o) g.3 (else_if g.4.1 g.4.2 g.5 e.2 e.3 e.4 s h)

  chain_from_sound : (n : ℕ) (found : List Branch) (i : Input) (r : Stmt × Input) → x.chain_from (suc d) deeper c n found i ≡ Ok r → Chains c d found r.0 i r.1
  unfolding x.chain_from
  chain_from_sound zero found i r h = not_ok _ r h
  chain_from_sound (suc n) found i r h =
      let a = and_then_ok (x.branch (suc d) deeper c i) _ r h in
      let o = and_then_ok (x.other a.0.1) _ r a.2 in
      go a.0.0 a.0.1 o.0.0 o.0.1 (branch_sound i a.0 a.1) (other_sound a.0.1 o.0 o.1) (λ f j. chain_from_sound n f j r) o.2
    where
      again : (b : Branch) (j m : Input) → Branches c d b i j → Others true j m → ((f : List Branch) (q : Input) → x.chain_from (suc d) deeper c n f q ≡ Ok r → Chains c d f r.0 q r.1)
          → ((sees k.If m ≡ true) × (x.chain_from (suc d) deeper c n (found ++ b ∷ []) (after k.If m) ≡ Ok r))
          ⊎ ((sees k.If m ≡ false) × (and_then (deeper c (after k.If m)) (λ s. pure (tree.If (found ++ b ∷ []) (Some s))) ≡ Ok r))
          → Chains c d found r.0 i r.1
      again b j m g e rest (inl w) =
          let t = rest (found ++ b ∷ []) (after k.If m) w.1 in
          (b ∷ t.0, t.1, sym (ap (λ bs. tree.If bs t.1) (append_assoc found (b ∷ []) t.0)) ∙ t.2, more_branches b t.0 t.1 i j m (after k.If m) r.1 g e (eaten k.If m w.0) t.3)
      again b j m g e rest (inr w) =
          let a = and_then_ok (deeper c (after k.If m)) _ r w.1 in
          let s : States c d (One a.0.0) m a.0.1 = kept (λ q. States c d (One a.0.0) q a.0.1) k.If m w.0 (sound c (after k.If m) a.0 a.1) in
          at_ok (λ y q. Chains c d found y i q) _ _ r (b ∷ [], Some a.0.0, refl, two_branches b a.0.0 i j m a.0.1 g e w.0 s) a.2

      go : (b : Branch) (j : Input) (has : Bool) (m : Input) → Branches c d b i j → Others has j m → ((f : List Branch) (q : Input) → x.chain_from (suc d) deeper c n f q ≡ Ok r → Chains c d f r.0 q r.1)
          → cond has (eat k.If >>= (λ t. cond t (x.chain_from (suc d) deeper c n (found ++ b ∷ [])) (deeper c >>= (λ s. pure (tree.If (found ++ b ∷ []) (Some s)))))) (pure (tree.If (found ++ b ∷ []) None)) m ≡ Ok r
          → Chains c d found r.0 i r.1
      go b j true m g e rest h =
          again b j m g e rest (cond_ok (sees k.If m) (x.chain_from (suc d) deeper c n (found ++ b ∷ [])) (deeper c >>= (λ s. pure (tree.If (found ++ b ∷ []) (Some s)))) (after k.If m) (Ok r) h)
      go b j false m g e rest h = at_ok (λ y q. Chains c d found y i q) _ _ r (b ∷ [], None, refl, last_branch b i j m g e) h

  chain_sound : (w : List ℕ) (g i : Input) (r : Stmt × Input) → Spells k.If w g i → x.chain (suc d) deeper c i ≡ Ok r → States c (suc d) (One r.0) g r.1
  unfolding x.chain
  chain_sound w g i r s h =
      let t = chain_from_sound (left i) [] i r h in
      let same : tree.If t.0 t.1 ≡ r.0 = t.2 in
      subst (λ y. States c (suc d) (One y) g r.1) same (choice s t.3)

  while_sound : (w : List ℕ) (g i : Input) (r : Stmt × Input) → Spells k.While w g i → x.while_loop (suc d) deeper c i ≡ Ok r → States c (suc d) (One r.0) g r.1
  unfolding x.while_loop
  while_sound w g i r s h =
      let a = and_then_ok (x.condition (suc d) i) _ r h in
      let b = and_then_ok (deeper (looped c) a.0.1) _ r a.2 in
      let t = condition_sound d i a.0 a.1 in
      at_ok (λ y j. States c (suc d) (One y) g j) _ _ r (while_loop s t.1 t.2 (sound (looped c) a.0.1 b.0 b.1)) b.2

  do_sound : (w : List ℕ) (g i : Input) (r : Stmt × Input) → Spells k.Do w g i → x.do_loop (suc d) deeper c i ≡ Ok r → States c (suc d) (One r.0) g r.1
  unfolding x.do_loop
  do_sound w g i r s h =
      let a = and_then_ok (deeper (looped c) (newlines i)) _ r h in
      let b = and_then_ok (expect k.While (newlines a.0.1)) _ r a.2 in
      let t = and_then_ok (x.enclosed (suc d) b.0.1) _ r b.2 in
      let u = and_then_ok (x.end t.0.1) _ r t.2 in
      at_ok (λ y j. States c (suc d) (One y) g j) _ _ r (do_loop s (newlines_are i) (sound (looped c) (newlines i) a.0 a.1) (newlines_are a.0.1) (expect_ok k.While (newlines a.0.1) b.0 b.1) (enclosed_sound d b.0.1 t.0 t.1) (end_sound t.0.1 u.0 u.1)) u.2

  member_sound : (v w : List ℕ) (f g i : Input) (r : Stmt × Input) → Spells k.For v f g → Spells k.LeftParen w g i → x.sees_member i ≡ true → x.member_loop (suc d) deeper c (left f) i ≡ Ok r → States c (suc d) (One r.0) f r.1
  unfolding x.member_loop x.sees_member name
  member_sound v w f g i r s t q h =
      let i1 = next i in
      let i2 = next i1 in
      let i3 = next i2 in
      let i4 = next i3 in
      let p = both (sees k.Name i) _ q in
      let p1 = both (sees k.In i1) _ p.1 in
      let p2 = both (sees k.Name i2) _ p1.1 in
      let a = and_then_ok (deeper (looped c) (newlines i4)) _ r h in
      at_ok (λ y j. States c (suc d) (One y) f j) _ _ r (member_loop s t (spells k.Name i (sees_kind k.Name i p.0)) (spells k.In i1 (sees_kind k.In i1 p1.0)) (spells k.Name i2 (sees_kind k.Name i2 p2.0)) (spells k.RightParen i3 (sees_kind k.RightParen i3 p2.1)) (newlines_are i4) (sound (looped c) (newlines i4) a.0 a.1)) a.2

  count_sound : (v w : List ℕ) (f g i : Input) (r : Stmt × Input) → Spells k.For v f g → Spells k.LeftParen w g i → x.count_loop (suc d) deeper c i ≡ Ok r → States c (suc d) (One r.0) f r.1
  unfolding x.count_loop
  count_sound v w f g i r s t h =
      let a = and_then_ok (x.head (suc d) i) _ r h in
      let b = and_then_ok (deeper (looped c) (newlines a.0.1)) _ r a.2 in
      at_ok (λ y j. States c (suc d) (One y) f j) _ _ r (count_loop s t (head_sound d i a.0 a.1) (newlines_are a.0.1) (sound (looped c) (newlines a.0.1) b.0 b.1)) b.2

  for_sound : (v : List ℕ) (f i : Input) (r : Stmt × Input) → Spells k.For v f i → x.for_loop (suc d) deeper c (left f) i ≡ Ok r → States c (suc d) (One r.0) f r.1
  unfolding x.for_loop
  for_sound v f i r s h = let a = and_then_ok (expect k.LeftParen i) _ r h in go a.0.1 (expect_ok k.LeftParen i a.0 a.1) (x.sees_member a.0.1) refl a.2
    where
      go : (j : Input) → Spells k.LeftParen (spelling i) i j → (b : Bool) → x.sees_member j ≡ b → cond b (x.member_loop (suc d) deeper c (left f) j) (x.count_loop (suc d) deeper c j) ≡ Ok r → States c (suc d) (One r.0) f r.1
      go j t true e h = member_sound v (spelling i) f i j r s t e h
      go j t false e h = count_sound v (spelling i) f i j r s t h

  -- the tokens that open a construct
  abbrev Opens : Kind → Type 0
  Opens k.LeftBrace = Unit {0}
  Opens k.If = Unit {0}
  Opens k.While = Unit {0}
  Opens k.Do = Unit {0}
  Opens k.For = Unit {0}
  Opens _ = ⊥

  by_sound : (i : Input) (r : Stmt × Input) (a : Kind) → kind i ≡ a → Opens a → x.compound_by (suc d) deeper c (left i) a (next i) ≡ Ok r → States c (suc d) (One r.0) i r.1
  by_sound i r k.LeftBrace e o h =
      let a = and_then_ok (x.block (suc d) deeper c (next i)) _ r h in
      let g = block_sound (next i) a.0 a.1 in
      at_ok (λ y j. States c (suc d) (One y) i j) _ _ r (block (action (spells k.LeftBrace i e) g.1 g.2)) a.2
  by_sound i r k.If e o h = chain_sound _ i _ r (spells k.If i e) h
  by_sound i r k.While e o h = while_sound _ i _ r (spells k.While i e) h
  by_sound i r k.Do e o h = do_sound _ i _ r (spells k.Do i e) h
  by_sound i r k.For e o h = for_sound _ i _ r (spells k.For i e) h
  by_sound i r _ e o h = absurd o

  compound_sound : (i : Input) (r : Stmt × Input) (a : Kind) → kind i ≡ a → Opens a → x.compound (suc d) deeper c i ≡ Ok r → States c (suc d) (One r.0) i r.1
  unfolding x.compound
  compound_sound i r a e o h =
      let g : x.compound_by (suc d) deeper c (left i) (kind i) (next i) ≡ Ok r = sym (ap (λ b. cond b (too_deep (next i)) (x.compound_by (suc d) deeper c (left i) (kind i) (next i))) (not_zero d)) ∙ h in
      by_sound i r a e o (sym (ap (λ q. x.compound_by (suc d) deeper c (left i) q (next i)) e) ∙ g)

  one_by_sound : (i : Input) (r : Stmt × Input) (a : Kind) → kind i ≡ a → x.one_by (suc d) deeper c (suc (suc d)) a i ≡ Ok r → States c (suc d) (One r.0) i r.1
  one_by_sound i r k.Semicolon e h = at_ok (λ y j. States c (suc d) (One y) i j) _ _ r (empty (spells k.Semicolon i e)) h
  one_by_sound i r k.LeftBrace e h = compound_sound i r k.LeftBrace e tt h
  one_by_sound i r k.If e h = compound_sound i r k.If e tt h
  one_by_sound i r k.While e h = compound_sound i r k.While e tt h
  one_by_sound i r k.Do e h = compound_sound i r k.Do e tt h
  one_by_sound i r k.For e h = compound_sound i r k.For e tt h
  one_by_sound i r k.Next e h = placed_sound c (suc d) i r h
  one_by_sound i r k.Break e h = placed_sound c (suc d) i r h
  one_by_sound i r k.Continue e h = placed_sound c (suc d) i r h
  one_by_sound i r k.Exit e h = placed_sound c (suc d) i r h
  one_by_sound i r k.Return e h = placed_sound c (suc d) i r h
  one_by_sound i r _ e h = ended_sound c (suc d) i r h

-- where no construct may be opened
abbrev Nowhere : ℕ → Type 0
Nowhere d = (deeper : Context → Parser Stmt) (c : Context) (i : Input) (r : Stmt × Input) → x.compound 0 deeper c i ≡ Ok r → States c d (One r.0) i r.1

nowhere : (d : ℕ) → Nowhere d
unfolding x.compound
nowhere d deeper c i r h = not_ok _ r h

none_by_sound : (deeper : Context → Parser Stmt) (c : Context) (i : Input) (r : Stmt × Input) (a : Kind) → kind i ≡ a → x.one_by 0 deeper c 1 a i ≡ Ok r → States c 0 (One r.0) i r.1
none_by_sound deeper c i r k.Semicolon e h = at_ok (λ y j. States c 0 (One y) i j) _ _ r (empty (spells k.Semicolon i e)) h
none_by_sound deeper c i r k.LeftBrace e h = nowhere 0 deeper c i r h
none_by_sound deeper c i r k.If e h = nowhere 0 deeper c i r h
none_by_sound deeper c i r k.While e h = nowhere 0 deeper c i r h
none_by_sound deeper c i r k.Do e h = nowhere 0 deeper c i r h
none_by_sound deeper c i r k.For e h = nowhere 0 deeper c i r h
none_by_sound deeper c i r k.Next e h = placed_sound c 0 i r h
none_by_sound deeper c i r k.Break e h = placed_sound c 0 i r h
none_by_sound deeper c i r k.Continue e h = placed_sound c 0 i r h
none_by_sound deeper c i r k.Exit e h = placed_sound c 0 i r h
none_by_sound deeper c i r k.Return e h = placed_sound c 0 i r h
none_by_sound deeper c i r _ e h = ended_sound c 0 i r h

pub statement_sound : (d : ℕ) → IsSound d (x.statement (suc d))
unfolding x.statement x.one
statement_sound zero c i r h = none_by_sound (x.statement 0) c i r (kind i) refl h
statement_sound (suc d) c i r h = one_by_sound d (x.statement (suc d)) (statement_sound d) c i r (kind i) refl h

pub action_sound : (d : ℕ) (c : Context) (i : Input) (r : List Stmt × Input) → x.action d c i ≡ Ok r → States c d (Action r.0) i r.1
unfolding x.action
action_sound zero c i r h = let a = and_then_ok (expect k.LeftBrace i) _ r h in not_ok _ r a.2
action_sound (suc d) c i r h =
    let a = and_then_ok (expect k.LeftBrace i) _ r h in
    let g : x.block (suc d) (x.statement (suc d)) c a.0.1 ≡ Ok r = sym (ap (λ b. cond b too_deep (x.block (suc d) (x.statement (suc d)) c) a.0.1) (not_zero d)) ∙ a.2 in
    let t = block_sound d (x.statement (suc d)) (statement_sound d) c a.0.1 r g in
    action (expect_ok k.LeftBrace i a.0 a.1) t.1 t.2
