-- What the parser of programs reads is derived by the grammar.
use Rattle.std.proofs.Common.{◌≡◌, ℕ, zero, suc, Bool, true, false, cond, ◌⊎◌, inl, inr, List, [], ◌∷◌, ◌++◌, length, Result, Ok, Err, IfOk, refl, sym, ap, subst, ◌∙◌, append_assoc, append-nil}
use Rattle.rawk_keywords.specs.declared.token.Kind.{Kind}
use Rattle.rawk_keywords.specs.declared.token.Kind.TheVariants as k
use Rattle.rawk_lexer.specs.Lex.{kind, next, spelling, left}
use Rattle.rawk_expression.specs.declared.grammar.Wanted.TheVariants as want
use Rattle.rawk_parsing.specs.declared.parse_error.ParseError.{ParseError}
use Rattle.rawk_parsing.specs.declared.tree.Expr.{Expr}
use Rattle.rawk_parsing.specs.declared.tree.Name.{Name}
use Rattle.rawk_parsing.specs.Parser.{Input, Parses, and_then, ◌>>=◌, ◌>>◌, pure, refuse, expect, sees, after, newlines, name, name_at, bare_name}
use Rattle.rawk_expression.specs.Expression.{expression}
use Rattle.rawk_parsing.specs.Tokens.{Spells}
use Rattle.rawk_expression.specs.Grammar.{Derives, Whole}
use Rattle.rawk_expression.specs.Sound.{whole_derived}
use Rattle.rawk_parsing.specs.Steps.{and_then_ok, cond_ok, done, at_ok, not_ok, sees_kind, spells, eaten, kept, keeps, expect_ok, bare_name_ok, newlines_are}
use Rattle.rawk_grammar.specs.declared.context.Owner.TheVariants as owner
use Rattle.rawk_grammar.specs.declared.tree.Pattern.{Pattern}
use Rattle.rawk_grammar.specs.declared.tree.Pattern.TheVariants as guard
use Rattle.rawk_grammar.specs.declared.tree.Action.{Action}
use Rattle.rawk_grammar.specs.declared.tree.Action.TheVariants as does
use Rattle.rawk_grammar.specs.declared.tree.Item.{Item}
use Rattle.rawk_grammar.specs.declared.tree.Item.TheVariants as item
use Rattle.rawk_grammar.specs.Context.{of}
use Rattle.rawk_grammar.specs.Items as x
use Rattle.rawk_grammar.specs.Statement as statement
use Rattle.rawk_grammar.specs.Grammar.{States, Action as Block}
use Rattle.rawk_grammar.specs.Programs.{Patterns, when, range, Names, one, several, Parameters, no_parameter, parameters, Parts, begin, ending, always, rule, bare_rule, function, Separates, nothing, a_semicolon, a_newline, Texts, finish, part}
use Rattle.rawk_grammar.specs.Texts.{IsText}
use Rattle.rawk_grammar.proofs.Sound.{action_sound}

pattern_sound : (d : ℕ) (i : Input) (r : Pattern × Input) → x.pattern (suc d) i ≡ Ok r → Patterns d r.0 i r.1
unfolding x.pattern
pattern_sound d i r h =
    let a = and_then_ok (expression (suc d) want.Whole i) _ r h in
    go a.0.0 a.0.1 (whole_derived d false i a.0 a.1) (cond_ok (sees k.Comma a.0.1) (λ m. and_then (expression (suc d) want.Whole (newlines m)) (λ e. pure (guard.Range (left i) a.0.0 e))) (pure (guard.When (left i) a.0.0)) (after k.Comma a.0.1) (Ok r) a.2)
  where
    go : (e : Expr) (j : Input) → Derives d (Whole false e) i j
        → ((sees k.Comma j ≡ true) × (and_then (expression (suc d) want.Whole (newlines (after k.Comma j))) (λ f. pure (guard.Range (left i) e f)) ≡ Ok r)) ⊎ ((sees k.Comma j ≡ false) × (pure (guard.When (left i) e) (after k.Comma j) ≡ Ok r))
        → Patterns d r.0 i r.1
    go e j g (inl w) =
        let a = and_then_ok (expression (suc d) want.Whole (newlines (after k.Comma j))) _ r w.1 in
        at_ok (λ p m. Patterns d p i m) _ _ r (range g (eaten k.Comma j w.0) (newlines_are (after k.Comma j)) (whole_derived d false (newlines (after k.Comma j)) a.0 a.1)) a.2
    go e j g (inr w) = at_ok (λ p m. Patterns d p i m) _ _ r (keeps (λ m. Patterns d (guard.When (left i) e) i m) k.Comma j w.0 (when g)) w.1

-- an action, or none
Does : ℕ → Action → Input → Input → Type 0
Does d (does.Given ss) i j = States (of owner.Rule) d (Block ss) i j
Does d (does.Missing n) i j = (i ≡ j) × (n ≡ length i) × (x.ends_pattern (kind i) ≡ true)

optional_sound : (d : ℕ) (i : Input) (r : Action × Input) → x.optional_action d i ≡ Ok r → Does d r.0 i r.1
unfolding x.optional_action Does
optional_sound d i r h = go (sees k.LeftBrace i) (x.ends_pattern (kind i)) refl h
  where
    go : (b c : Bool) → x.ends_pattern (kind i) ≡ c → cond b (and_then (statement.action d (of owner.Rule) i) (λ ss. pure (does.Given ss))) (cond c (done (does.Missing (length i)) i) (refuse i)) ≡ Ok r → Does d r.0 i r.1
    go true c e h =
        let a = and_then_ok (statement.action d (of owner.Rule) i) _ r h in
        at_ok (λ y j. Does d y i j) _ _ r (action_sound d (of owner.Rule) i a.0 a.1) a.2
    go false true e h = at_ok (λ y j. Does d y i j) _ _ r (refl, refl, e) h
    go false false e h = not_ok _ r h

rule_of : (d : ℕ) (p : Pattern) (a : Action) (i j l : Input) → Patterns d p i j → Does d a j l → Parts d (item.Rule p a) i l
unfolding Does
rule_of d p (does.Given ss) i j l g h = rule g h
rule_of d p (does.Missing n) i j l g h =
    let a : Parts d (item.Rule p (does.Missing (length j))) i l = subst (λ q. Parts d (item.Rule p (does.Missing (length j))) i q) h.0 (bare_rule g h.2) in
    subst (λ q. Parts d (item.Rule p (does.Missing q)) i l) (sym h.1) a

rule_sound : (d : ℕ) (i : Input) (r : Item × Input) → x.rule (suc d) d i ≡ Ok r → Parts d r.0 i r.1
unfolding x.rule
rule_sound d i r h =
    let a = and_then_ok (x.pattern (suc d) i) _ r h in
    let b = and_then_ok (x.optional_action d a.0.1) _ r a.2 in
    at_ok (λ y j. Parts d y i j) _ _ r (rule_of d a.0.0 b.0.0 i a.0.1 b.0.1 (pattern_sound d i a.0 a.1) (optional_sound d a.0.1 b.0 b.1)) b.2

-- ---- functions

names_from_sound : (n : ℕ) (found : List Name) (i : Input) (r : List Name × Input) → x.names_from n found i ≡ Ok r → (ns : List Name) × (found ++ ns ≡ r.0) × Names ns i r.1
unfolding x.names_from
names_from_sound zero found i r h = not_ok _ r h
names_from_sound (suc n) found i r h =
    let a = and_then_ok (bare_name i) _ r h in
    let b = bare_name_ok i a.0 a.1 in
    go a.0.0 a.0.1 b.0 b.1 (names_from_sound n (found ++ a.0.0 ∷ []) (newlines (after k.Comma a.0.1)) r) (cond_ok (sees k.Comma a.0.1) (λ m. x.names_from n (found ++ a.0.0 ∷ []) (newlines m)) (pure (found ++ a.0.0 ∷ [])) (after k.Comma a.0.1) (Ok r) a.2)
  where
    go : (word : Name) (j : Input) → word ≡ name_at i → Spells k.Name (spelling i) i j
        → (x.names_from n (found ++ word ∷ []) (newlines (after k.Comma j)) ≡ Ok r → (ns : List Name) × ((found ++ word ∷ []) ++ ns ≡ r.0) × Names ns (newlines (after k.Comma j)) r.1)
        → ((sees k.Comma j ≡ true) × (x.names_from n (found ++ word ∷ []) (newlines (after k.Comma j)) ≡ Ok r)) ⊎ ((sees k.Comma j ≡ false) × (pure (found ++ word ∷ []) (after k.Comma j) ≡ Ok r))
        → (ns : List Name) × (found ++ ns ≡ r.0) × Names ns i r.1
    go word j e s rest (inl w) =
        let g = rest w.1 in
        (name_at i ∷ g.0, sym (ap (λ q. found ++ q ∷ g.0) e) ∙ sym (append_assoc found (word ∷ []) g.0) ∙ g.1, several s (eaten k.Comma j w.0) (newlines_are (after k.Comma j)) g.2)
    go word j e s rest (inr w) =
        at_ok (λ y m. (ns : List Name) × (found ++ ns ≡ y) × Names ns i m) _ _ r (name_at i ∷ [], sym (ap (λ q. found ++ q ∷ []) e), keeps (λ m. Names (name_at i ∷ []) i m) k.Comma j w.0 (one s)) w.1

names_sound : (i : Input) (r : List Name × Input) → x.names i ≡ Ok r → Names r.0 i r.1
unfolding x.names
names_sound i r h = let g = names_from_sound (left i) [] i r h in let same : g.0 ≡ r.0 = g.1 in subst (λ ns. Names ns i r.1) same g.2

parameters_sound : (i : Input) (r : List Name × Input) → x.parameters i ≡ Ok r → Parameters r.0 i r.1
unfolding x.parameters
parameters_sound i r h =
    let a = and_then_ok (expect k.LeftParen i) _ r h in
    go a.0.1 (expect_ok k.LeftParen i a.0 a.1) (cond_ok (sees k.RightParen a.0.1) (pure []) (x.names >>= (λ ns. expect k.RightParen >> pure ns)) (after k.RightParen a.0.1) (Ok r) a.2)
  where
    go : (j : Input) → Spells k.LeftParen (spelling i) i j
        → ((sees k.RightParen j ≡ true) × (pure [] (after k.RightParen j) ≡ Ok r)) ⊎ ((sees k.RightParen j ≡ false) × (and_then (x.names (after k.RightParen j)) (λ ns. expect k.RightParen >> pure ns) ≡ Ok r))
        → Parameters r.0 i r.1
    go j s (inl w) = at_ok (λ ns m. Parameters ns i m) _ _ r (no_parameter s (eaten k.RightParen j w.0)) w.1
    go j s (inr w) =
        let a = and_then_ok (x.names (after k.RightParen j)) _ r w.1 in
        let b = and_then_ok (expect k.RightParen a.0.1) _ r a.2 in
        let g : Names a.0.0 j a.0.1 = kept (λ m. Names a.0.0 m a.0.1) k.RightParen j w.0 (names_sound (after k.RightParen j) a.0 a.1) in
        at_ok (λ ns m. Parameters ns i m) _ _ r (parameters s g (expect_ok k.RightParen a.0.1 b.0 b.1)) b.2

abbrev Named : Name → Input → Input → Type 0
Named word i j = (name_at i ≡ word) × (Spells k.Name (spelling i) i j ⊎ Spells k.FunctionName (spelling i) i j)

name_by_sound : (i : Input) (r : Name × Input) (c : Kind) → kind i ≡ c → x.function_name_by c i ≡ Ok r → Named r.0 i r.1
unfolding name
name_by_sound i r k.Name e h = at_ok (λ y j. Named y i j) (name_at i) (next i) r (refl, inl (spells k.Name i e)) h
name_by_sound i r k.FunctionName e h = at_ok (λ y j. Named y i j) (name_at i) (next i) r (refl, inr (spells k.FunctionName i e)) h
name_by_sound i r _ e h = not_ok _ r h

name_sound : (i : Input) (r : Name × Input) → x.function_name i ≡ Ok r → Named r.0 i r.1
unfolding x.function_name
name_sound i r h = name_by_sound i r (kind i) refl h

definition_sound : (d : ℕ) (w : List ℕ) (g i : Input) (r : Item × Input) → Spells k.Function w g i → x.definition d (left g) i ≡ Ok r → Parts d r.0 g r.1
unfolding x.definition
definition_sound d w g i r s h =
    let a = and_then_ok (x.function_name i) _ r h in
    let b = and_then_ok (x.parameters a.0.1) _ r a.2 in
    let c = and_then_ok (statement.action d (of owner.Function) (newlines b.0.1)) _ r b.2 in
    let n = name_sound i a.0 a.1 in
    let f : Parts d (item.Function (left g) (name_at i) b.0.0 c.0.0) g c.0.1 = function s n.1 (parameters_sound a.0.1 b.0 b.1) (newlines_are b.0.1) (action_sound d (of owner.Function) (newlines b.0.1) c.0 c.1) in
    at_ok (λ y j. Parts d y g j) _ _ r (subst (λ q. Parts d (item.Function (left g) q b.0.0 c.0.0) g c.0.1) n.0 f) c.2

-- ---- programs

item_by_sound : (d : ℕ) (i : Input) (r : Item × Input) (c : Kind) → kind i ≡ c → x.item_by (suc d) d (left i) c i ≡ Ok r → Parts d r.0 i r.1
item_by_sound d i r k.BeginKeyword e h =
    let a = and_then_ok (statement.action d (of owner.BeginOrEnd) (next i)) _ r h in
    at_ok (λ y j. Parts d y i j) _ _ r (begin (spells k.BeginKeyword i e) (action_sound d (of owner.BeginOrEnd) _ a.0 a.1)) a.2
item_by_sound d i r k.EndKeyword e h =
    let a = and_then_ok (statement.action d (of owner.BeginOrEnd) (next i)) _ r h in
    at_ok (λ y j. Parts d y i j) _ _ r (ending (spells k.EndKeyword i e) (action_sound d (of owner.BeginOrEnd) _ a.0 a.1)) a.2
item_by_sound d i r k.LeftBrace e h =
    let a = and_then_ok (statement.action d (of owner.Rule) i) _ r h in
    at_ok (λ y j. Parts d y i j) _ _ r (always (action_sound d (of owner.Rule) i a.0 a.1)) a.2
item_by_sound d i r k.Function e h = definition_sound d _ i _ r (spells k.Function i e) h
item_by_sound d i r _ e h = rule_sound d i r h

item_sound : (d : ℕ) (i : Input) (r : Item × Input) → x.item (suc d) d i ≡ Ok r → Parts d r.0 i r.1
unfolding x.item
item_sound d i r h = item_by_sound d i r (kind i) refl h

one_separates : (i j : Input) (c : Kind) → kind i ≡ c → x.separates c ≡ true → Separates (next i) j → Separates i j
one_separates i j k.Semicolon e h g = a_semicolon (spells k.Semicolon i e) g
one_separates i j k.Newline e h g = a_newline (spells k.Newline i e) g
one_separates i j _ e h g = cc

separators_from_are : (n : ℕ) (i : Input) → Separates i (x.separators_from n i)
unfolding x.separators_from
separators_from_are zero i = nothing
separators_from_are (suc n) i = go (x.separates (kind i)) refl (separators_from_are n (next i))
  where
    go : (b : Bool) → x.separates (kind i) ≡ b → Separates (next i) (x.separators_from n (next i)) → Separates i (cond b (x.separators_from n (next i)) i)
    go true e h = one_separates i _ (kind i) refl e h
    go false e h = nothing

separators_are : (i : Input) → Separates i (x.separators i)
unfolding x.separators
separators_are i = separators_from_are (left i) i

items_from_sound : (d n : ℕ) (found : List Item) (i : Input) (r : List Item × Input) → x.items_from (suc d) d n found i ≡ Ok r → (xs : List Item) × (found ++ xs ≡ r.0) × Texts d xs i
unfolding x.items_from
items_from_sound d zero found i r h =
    let a = and_then_ok (expect k.EndOfText (x.separators i)) _ r h in
    at_ok (λ y _. (xs : List Item) × (found ++ xs ≡ y) × Texts d xs i) _ _ r ([], append-nil found, finish (separators_are i) (expect_ok k.EndOfText (x.separators i) a.0 a.1).is_kind) a.2
items_from_sound d (suc n) found i r h = go (sees k.EndOfText (x.separators i)) refl (λ f j. items_from_sound d n f j r) h
  where
    go : (b : Bool) → sees k.EndOfText (x.separators i) ≡ b
        → ((f : List Item) (j : Input) → x.items_from (suc d) d n f j ≡ Ok r → (xs : List Item) × (f ++ xs ≡ r.0) × Texts d xs j)
        → cond b (done found (x.separators i)) (and_then (x.item (suc d) d (x.separators i)) (λ y. x.items_from (suc d) d n (found ++ y ∷ []))) ≡ Ok r
        → (xs : List Item) × (found ++ xs ≡ r.0) × Texts d xs i
    go true e rest h =
        at_ok (λ y _. (xs : List Item) × (found ++ xs ≡ y) × Texts d xs i) _ _ r ([], append-nil found, finish (separators_are i) (sees_kind k.EndOfText (x.separators i) e)) h
    go false e rest h =
        let a = and_then_ok (x.item (suc d) d (x.separators i)) _ r h in
        let g = rest (found ++ a.0.0 ∷ []) a.0.1 a.2 in
        (a.0.0 ∷ g.0, sym (append_assoc found (a.0.0 ∷ []) g.0) ∙ g.1, part (separators_are i) (item_sound d (x.separators i) a.0 a.1) g.2)

program_sound : (depth : ℕ) (i : Input) (r : List Item × Input) → x.program depth i ≡ Ok r → IsText depth r.0 i
unfolding x.program x.items
program_sound zero i r h = not_ok _ r h
program_sound (suc d) i r h =
    let g = items_from_sound d (left i) [] i r h in
    let same : g.0 ≡ r.0 = g.1 in
    subst (λ xs. Texts d xs i) same g.2

pub found_from : (depth : ℕ) (r : Result (List Item) ParseError) (text new : Input) → Parses (x.program depth text) r new → IfOk r (λ items. IsText depth items text)
found_from depth (Ok items) text new h = program_sound depth text (items, new) h
found_from depth (Err e) text new h = tt
