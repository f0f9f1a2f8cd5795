-- How derived phrases begin, and that they leave less text.
use Rattle.std.proofs.Common.{◌≡◌, ◌≢◌, ℕ, suc, ◌<◌, ◌≤◌, Bool, true, false, cond, ◌==◌, ◌⊎◌, inl, inr, List, length, drop, Some, None, refl, sym, ap, ◌∙◌, arith}
use Rattle.std.proofs.lemmas.List.{length-drop}
use Rattle.rawk_keywords.specs.declared.token.Kind.{Kind}
use Rattle.rawk_keywords.specs.declared.token.Kind.TheVariants as k
use Rattle.rawk_lexer.specs.Lex.{kind, next, left, skip, ere_len, past_ere}
use Rattle.rawk_lexer.specs.Moves.{next_shrinks, skip_shrinks, some_left}
use Rattle.rawk_parsing.specs.declared.tree.Operator.{Operator}
use Rattle.rawk_words.specs.declared.operator.Sign.{Sign}
use Rattle.rawk_parsing.specs.declared.tree.Change.{Change}
use Rattle.rawk_parsing.specs.declared.tree.Assignment.{Assignment}
use Rattle.rawk_parsing.specs.Parser.{Input}
use Rattle.rawk_parsing.specs.Tables as table
use Rattle.rawk_parsing.specs.Tokens.{Spells, SpellsEre, Newlines, none, more, Arrays, no_array, array}
use Rattle.rawk_parsing.specs.declared.tree.Name.{Name}
use Rattle.rawk_expression.specs.Grammar.{Joins, symbol, beside, Phrase, Further, Links, Derives, test, choice, lone, joint, last, further, assign, contains, operated, listed_in, chain, no_more, joined, tight, unsigned, signed, base, raised, unchanged, bare, changed_after, changed_before, named, element, field, dollar_before, dollar, of_place, number, text, ere, group, call, builtin, bare_length, no_argument, some_arguments, getline, getline_to, one, several, print_list, print_group}
use Rattle.rawk_expression.specs.Follow.{apart, starts, symbol_not}

-- ---- less text is left

pub newlines_shrink : (i j : Input) → Newlines i j → left j ≤ left i
newlines_shrink i j none = omega arith
newlines_shrink i l (more {j = j} s t) =
    let a = next_shrinks i (λ e. (let no : k.Newline ≡ k.EndOfText = sym s.is_kind ∙ e in cc)) in
    let b = newlines_shrink j l t in
    let c : left (next i) ≡ left j = ap left s.is_next in
    omega arith

ere_not_end : (i : Input) → (kind i ≡ k.Slash) ⊎ (kind i ≡ k.SlashAssign) → kind i ≢ k.EndOfText
ere_not_end i (inl h) = λ e. (let no : k.Slash ≡ k.EndOfText = sym h ∙ e in cc)
ere_not_end i (inr h) = λ e. (let no : k.SlashAssign ≡ k.EndOfText = sym h ∙ e in cc)

pub ere_shrink : (w : List ℕ) (i j : Input) → SpellsEre w i j → left j < left i
unfolding left past_ere
ere_shrink w i j s =
    let some = some_left i (ere_not_end i s.begins) in
    let long = s.ends in
    let a = skip_shrinks (drop (ere_len i) (skip i)) in
    let b = length-drop (ere_len i) (skip i) in
    let c : length (skip (drop (ere_len i) (skip i))) ≡ length (skip j) = ap (λ m. length (skip m)) s.is_next in
    omega arith

pub spells_shrink : (c : Kind) (w : List ℕ) (i j : Input) → c ≢ k.EndOfText → Spells c w i j → left j < left i
spells_shrink c w i j ne s =
    let a = next_shrinks i (λ e. ne (sym s.is_kind ∙ e)) in
    let b : left (next i) ≡ left j = ap left s.is_next in
    omega arith

pub sign_not_end : (c : Kind) (s : Sign) → table.sign c ≡ Some s → c ≢ k.EndOfText
sign_not_end c s h e = let no : table.sign c ≡ None = ap table.sign e in cc

pub change_not_end : (c : Kind) (s : Change) → table.change c ≡ Some s → c ≢ k.EndOfText
change_not_end c s h e = let no : table.change c ≡ None = ap table.change e in cc

pub assignment_not_end : (c : Kind) (s : Assignment) → table.assignment c ≡ Some s → c ≢ k.EndOfText
assignment_not_end c s h e = let no : table.assignment c ≡ None = ap table.assignment e in cc

pub mark_not_end : (n : ℕ) → table.mark n ≢ k.EndOfText
mark_not_end n = go (n == 1)
  where
    go : (b : Bool) → cond b k.And k.Or ≢ k.EndOfText
    go true = λ q. cc
    go false = λ q. cc

pub joins_shrink : (p : Bool) (n : ℕ) (o : Operator) (i j : Input) → Joins p n o i j → left j ≤ left i
joins_shrink p n o i l (symbol {c = c} sp jo calm) = let a = spells_shrink c _ i l (symbol_not c k.EndOfText o jo refl) sp in omega arith
joins_shrink p n o i l (beside sp b) = omega arith

pub arrays_shrink : (ns : List Name) (i j : Input) → Arrays ns i j → left j ≤ left i
arrays_shrink ns i j no_array = omega arith
arrays_shrink ns i m (array {j = j} {l = l} s t g) =
    let a = spells_shrink k.In _ i j (λ q. cc) s in
    let b = spells_shrink k.Name _ j l (λ q. cc) t in
    let c = arrays_shrink _ l m g in
    omega arith

-- only what may stand behind an operand may be empty
abbrev pub Shrinks : Phrase → Input → Input → Type 0
Shrinks (Links p n xs) i j = left j ≤ left i
Shrinks _ i j = left j < left i

pub shrinks : {d : ℕ} {f : Phrase} {i j : Input} → Derives d f i j → Shrinks f i j
shrinks (test g) = shrinks g
shrinks (choice {j = j} {l = l} {m = m} {n = n} g s h t r) = let a1 = shrinks g in let a2 = spells_shrink k.Question _ j l (λ q. cc) s in let a3 = shrinks h in let a4 = spells_shrink k.Colon _ m n (λ q. cc) t in let a5 = shrinks r in omega arith
shrinks (lone g) = shrinks g
shrinks (joint g h) = let a1 = shrinks g in let a2 = shrinks h in omega arith
shrinks (last {n = n} {i = i} {j = j} {l = l} s t g) = let a1 = spells_shrink (table.mark (suc n)) _ i j (mark_not_end (suc n)) s in let a2 = newlines_shrink j l t in let a3 = shrinks g in omega arith
shrinks (further {n = n} {i = i} {j = j} {l = l} s t g h) = let a1 = spells_shrink (table.mark (suc n)) _ i j (mark_not_end (suc n)) s in let a2 = newlines_shrink j l t in let a3 = shrinks g in let a4 = shrinks h in omega arith
shrinks (assign {c = c} {how = how} {j = j} {l = l} g s e h) = let a1 = shrinks g in let a2 = spells_shrink c _ j l (assignment_not_end c how e) s in let a3 = shrinks h in omega arith
shrinks (contains {j = j} {l = l} g s) = let a1 = shrinks g in let a2 = arrays_shrink _ j l s in omega arith
shrinks (operated g) = shrinks g
shrinks (listed_in {i = i} {j = j} {l = l} {m = m} {n = n} {o = o} s g t u v) = let a1 = spells_shrink k.LeftParen _ i j (λ q. cc) s in let a2 = shrinks g in let a3 = spells_shrink k.RightParen _ l m (λ q. cc) t in let a4 = spells_shrink k.In _ m n (λ q. cc) u in let a5 = spells_shrink k.Name _ n o (λ q. cc) v in omega arith
shrinks (chain g h) = let a1 = shrinks g in let a2 = shrinks h in omega arith
shrinks no_more = omega arith
shrinks (joined {n = n} {p = p} {o = o} {i = i} {j = j} s g h alone) = let a1 = joins_shrink p (suc n) o i j s in let a2 = shrinks g in let a3 = shrinks h in omega arith
shrinks (tight g) = shrinks g
shrinks (unsigned g) = shrinks g
shrinks (signed {c = c} {s = s} {i = i} {j = j} t e g) = let a1 = spells_shrink c _ i j (sign_not_end c s e) t in let a2 = shrinks g in omega arith
shrinks (base g) = shrinks g
shrinks (raised {j = j} {l = l} g s h) = let a1 = shrinks g in let a2 = spells_shrink k.Caret _ j l (λ q. cc) s in let a3 = shrinks h in omega arith
shrinks (unchanged b g) = shrinks g
shrinks (bare g b) = shrinks g
shrinks (changed_after {c = c} {how = how} {j = j} {l = l} g s e) = let a1 = shrinks g in let a2 = spells_shrink c _ j l (change_not_end c how e) s in omega arith
shrinks (changed_before {c = c} {how = how} {i = i} {j = j} s e g) = let a1 = spells_shrink c _ i j (change_not_end c how e) s in let a2 = shrinks g in omega arith
shrinks {i = i} {j = j} (named s) = spells_shrink k.Name _ i j (λ q. cc) s
shrinks (element {i = i} {j = j} {l = l} {m = m} {n = n} s t g u) = let a1 = spells_shrink k.Name _ i j (λ q. cc) s in let a2 = spells_shrink k.LeftBracket _ j l (λ q. cc) t in let a3 = shrinks g in let a4 = spells_shrink k.RightBracket _ m n (λ q. cc) u in omega arith
shrinks (field {i = i} {j = j} s g) = let a1 = spells_shrink k.Dollar _ i j (λ q. cc) s in let a2 = shrinks g in omega arith
shrinks (dollar_before {c = c} {how = how} {i = i} {j = j} s e g) = let a1 = spells_shrink c _ i j (change_not_end c how e) s in let a2 = shrinks g in omega arith
shrinks (dollar ne g) = shrinks g
shrinks (of_place g) = shrinks g
shrinks {i = i} {j = j} (number s e) = spells_shrink k.Number _ i j (λ q. cc) s
shrinks {i = i} {j = j} (text s) = spells_shrink k.Text _ i j (λ q. cc) s
shrinks {i = i} {j = j} (ere s) = ere_shrink _ i j s
shrinks (group {i = i} {j = j} {l = l} {m = m} s g t) = let a1 = spells_shrink k.LeftParen _ i j (λ q. cc) s in let a2 = shrinks g in let a3 = spells_shrink k.RightParen _ l m (λ q. cc) t in omega arith
shrinks (call {i = i} {j = j} s g) = let a1 = spells_shrink k.FunctionName _ i j (λ q. cc) s in let a2 = shrinks g in omega arith
shrinks (builtin {i = i} {j = j} s e g t) = let a1 = spells_shrink k.Builtin _ i j (λ q. cc) s in let a2 = shrinks g in omega arith
shrinks {i = i} {j = j} (bare_length s e ne) = spells_shrink k.Builtin _ i j (λ q. cc) s
shrinks (no_argument {i = i} {j = j} {l = l} s t) = let a1 = spells_shrink k.LeftParen _ i j (λ q. cc) s in let a2 = spells_shrink k.RightParen _ j l (λ q. cc) t in omega arith
shrinks (some_arguments {i = i} {j = j} {l = l} {m = m} s g t) = let a1 = spells_shrink k.LeftParen _ i j (λ q. cc) s in let a2 = shrinks g in let a3 = spells_shrink k.RightParen _ l m (λ q. cc) t in omega arith
shrinks {i = i} {j = j} (getline s b ne) = spells_shrink k.Getline _ i j (λ q. cc) s
shrinks (getline_to {i = i} {j = j} s g free ne) = let a1 = spells_shrink k.Getline _ i j (λ q. cc) s in let a2 = shrinks g in omega arith
shrinks (one g) = shrinks g
shrinks (several {j = j} {l = l} {m = m} g s t h) = let a1 = shrinks g in let a2 = spells_shrink k.Comma _ j l (λ q. cc) s in let a3 = newlines_shrink l m t in let a4 = shrinks h in omega arith
shrinks (print_list g) = shrinks g
shrinks (print_group {i = i} {j = j} {l = l} {m = m} s g t) = let a1 = spells_shrink k.LeftParen _ i j (λ q. cc) s in let a2 = shrinks g in let a3 = spells_shrink k.RightParen _ l m (λ q. cc) t in omega arith

-- ---- what a rule begins with

abbrev pub begins : Kind → Bool
begins k.Plus = true
begins k.Minus = true
begins k.Bang = true
begins k.Increment = true
begins k.Decrement = true
begins k.Getline = true
begins c = starts c

pub sign_begins : (c : Kind) (s : Sign) → table.sign c ≡ Some s → begins c ≡ true
sign_begins k.Plus s h = refl
sign_begins _ s h = cc

pub change_begins : (c : Kind) (s : Change) → table.change c ≡ Some s → begins c ≡ true
change_begins k.Increment s h = refl
change_begins _ s h = cc

pub ere_begins : (i : Input) → (kind i ≡ k.Slash) ⊎ (kind i ≡ k.SlashAssign) → begins (kind i) ≡ true
ere_begins i (inl h) = ap begins h
ere_begins i (inr h) = ap begins h

-- further operands begin with an operator, if with anything
abbrev pub Begins : Phrase → Input → Type 0
Begins (Links p n xs) i = Unit {0}
Begins (Further p b n es) i = Unit {0}
Begins _ i = begins (kind i) ≡ true

pub fronts : {d : ℕ} {f : Phrase} {i j : Input} → Derives d f i j → Begins f i
fronts (test g) = fronts g
fronts (choice g s h t r) = fronts g
fronts (lone g) = fronts g
fronts (joint g h) = fronts g
fronts (last s t g) = tt
fronts (further s t g h) = tt
fronts (assign g s e h) = fronts g
fronts (contains g s) = fronts g
fronts (operated g) = fronts g
fronts (listed_in s g t u v) = ap begins s.is_kind
fronts (chain g h) = fronts g
fronts no_more = tt
fronts (joined s g h alone) = tt
fronts (tight g) = fronts g
fronts (unsigned g) = fronts g
fronts (signed {c = c} {s = s} t e g) = ap begins t.is_kind ∙ sign_begins c s e
fronts (base g) = fronts g
fronts (raised g s h) = fronts g
fronts (unchanged b g) = fronts g
fronts (bare g b) = fronts g
fronts (changed_after g s e) = fronts g
fronts (changed_before {c = c} {how = how} s e g) = ap begins s.is_kind ∙ change_begins c how e
fronts (named s) = ap begins s.is_kind
fronts (element s t g u) = ap begins s.is_kind
fronts (field s g) = ap begins s.is_kind
fronts (dollar_before {c = c} {how = how} s e g) = ap begins s.is_kind ∙ change_begins c how e
fronts (dollar ne g) = fronts g
fronts (of_place g) = fronts g
fronts (number s e) = ap begins s.is_kind
fronts (text s) = ap begins s.is_kind
fronts {i = i} (ere s) = ere_begins i s.begins
fronts (group s g t) = ap begins s.is_kind
fronts (call s g) = ap begins s.is_kind
fronts (builtin s e g t) = ap begins s.is_kind
fronts (bare_length s e ne) = ap begins s.is_kind
fronts (no_argument s t) = ap begins s.is_kind
fronts (some_arguments s g t) = ap begins s.is_kind
fronts (getline s b ne) = ap begins s.is_kind
fronts (getline_to s g free ne) = ap begins s.is_kind
fronts (one g) = fronts g
fronts (several g s t h) = fronts g
fronts (print_list g) = fronts g
fronts (print_group s g t) = ap begins s.is_kind

pub not_newline : (i : Input) → begins (kind i) ≡ true → kind i ≢ k.Newline
not_newline i h = apart begins (kind i) k.Newline h refl
