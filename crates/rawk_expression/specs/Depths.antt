-- What is derived within a limit is derived within each higher one, and as one tree.
use Rattle.std.proofs.Common.{◌≡◌, ◌≢◌, ℕ, zero, suc, ◌+◌, ◌≤◌, Bool, true, false, ◌==◌, Ok, refl, ap, subst, rules, arith}
use Rattle.rawk_lexer.specs.Lex.{kind}
use Rattle.rawk_parsing.specs.declared.tree.Expr.{Expr}
use Rattle.rawk_parsing.specs.Parser.{Input, Outcome}
use Rattle.rawk_expression.specs.Expression.{expression, whole_of}
use Rattle.rawk_expression.specs.Grammar.{Phrase, Whole, Derives, test, choice, lone, joint, last, further, assign, contains, operated, listed_in, chain, no_more, joined, tight, unsigned, signed, base, raised, unchanged, bare, changed_after, changed_before, named, element, field, dollar_before, dollar, of_place, number, text, ere, group, call, builtin, bare_length, no_argument, some_arguments, getline, getline_to, one, several, print_list, print_group}
use Rattle.rawk_expression.specs.Follow.{ends, eq_from}
use Rattle.rawk_expression.specs.Complete.{whole_complete}

pub deeper : {d : ℕ} {f : Phrase} {i j : Input} → Derives d f i j → Derives (suc d) f i j
deeper (test g) = test (deeper g)
deeper (choice g s h t r) = choice (deeper g) s (deeper h) t (deeper r)
deeper (lone g) = lone (deeper g)
deeper (joint g h) = joint (deeper g) (deeper h)
deeper (last s t g) = last s t (deeper g)
deeper (further s t g h) = further s t (deeper g) (deeper h)
deeper (assign g s e h) = assign (deeper g) s e (deeper h)
deeper (contains g s) = contains (deeper g) s
deeper (operated g) = operated (deeper g)
deeper (listed_in s g t u v) = listed_in s (deeper g) t u v
deeper (chain g h) = chain (deeper g) (deeper h)
deeper no_more = no_more
deeper (joined s g h e) = joined s (deeper g) (deeper h) e
deeper (tight g) = tight (deeper g)
deeper (unsigned g) = unsigned (deeper g)
deeper (signed s e g) = signed s e (deeper g)
deeper (base g) = base (deeper g)
deeper (raised g s h) = raised (deeper g) s (deeper h)
deeper (unchanged e g) = unchanged e (deeper g)
deeper (bare g e) = bare (deeper g) e
deeper (changed_after g s e) = changed_after (deeper g) s e
deeper (changed_before s e g) = changed_before s e (deeper g)
deeper (named s) = named s
deeper (element s t g u) = element s t (deeper g) u
deeper (field s g) = field s (deeper g)
deeper (dollar_before s e g) = dollar_before s e (deeper g)
deeper (dollar e g) = dollar e (deeper g)
deeper (of_place g) = of_place (deeper g)
deeper (number s e) = number s e
deeper (text s) = text s
deeper (ere s) = ere s
deeper (group s g t) = group s (deeper g) t
deeper (call s g) = call s (deeper g)
deeper (builtin s e g t) = builtin s e (deeper g) t
deeper (bare_length s e ne) = bare_length s e ne
deeper (no_argument s t) = no_argument s t
deeper (some_arguments s g t) = some_arguments s (deeper g) t
deeper (getline s e t) = getline s e t
deeper (getline_to s g e t) = getline_to s (deeper g) e t
deeper (one g) = one (deeper g)
deeper (several g s t h) = several (deeper g) s t (deeper h)
deeper (print_list g) = print_list (deeper g)
deeper (print_group s g t) = print_group s (deeper g) t

-- what holds at each next number holds at each higher one
pub raised_to : (P : ℕ → Type 0) → ((d : ℕ) → P d → P (suc d)) → (d e : ℕ) → d ≤ e → P d → P e
raised_to P up d zero le h = let z : d ≡ 0 = omega arith in subst P z h
raised_to P up d (suc e) le h = go (d == suc e) refl (λ small. raised_to P up d e small h)
  where
    go : (t : Bool) → (d == suc e) ≡ t → (d ≤ e → P e) → P (suc e)
    go true z rest = subst P (eq_from d (suc e) z) h
    go false z rest = let ne : d ≢ suc e = search (rules, z) in up e (rest (omega arith))

pub within : (d e : ℕ) (f : Phrase) (i j : Input) → d ≤ e → Derives d f i j → Derives e f i j
within d e f i j le g = raised_to (λ n. Derives n f i j) (λ n h. deeper h) d e le g

same_answer : (o : Outcome Expr) (p q : Expr × Input) → o ≡ Ok p → o ≡ Ok q → (p.0 ≡ q.0) × (p.1 ≡ q.1)
same_answer o p q h g = let e : p ≡ q = cc in (ap (λ r. r.0) e, ap (λ r. r.1) e)

pub one_tree : (d q : ℕ) (p : Bool) (e f : Expr) (i j l : Input) → Derives d (Whole p e) i j → Derives q (Whole p f) i l → ends (kind j) ≡ true → ends (kind l) ≡ true → (e ≡ f) × (j ≡ l)
one_tree d q p e f i j l g h a b =
    let first = within d (d + q) (Whole p e) i j (omega arith) g in
    let second = within q (d + q) (Whole p f) i l (omega arith) h in
    same_answer (expression (suc (d + q)) (whole_of p) i) (e, j) (f, l) (whole_complete (d + q) p e i j first a) (whole_complete (d + q) p f i l second b)
