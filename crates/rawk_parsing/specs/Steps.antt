-- What an outcome of a parser's step says.
use Rattle.std.proofs.Common.{◌≡◌, ℕ, zero, suc, ℤ, Bool, true, false, cond, ◌==◌, ◌⊎◌, inl, inr, List, Option, Some, None, Ok, Err, refl, sym, ap, subst, rules}
use denote.Enum.Bare.{same_true}
use Rattle.rawk_keywords.specs.contracts.token.Kind.{the_type}
use Rattle.rawk_keywords.specs.declared.builtin.Builtin.{Builtin}
use Rattle.rawk_keywords.specs.declared.token.Kind.{Kind}
use Rattle.rawk_keywords.specs.declared.token.Kind.TheVariants as k
use Rattle.rawk_keywords.specs.Builtins.{builtin_named}
use Rattle.rawk_lexer.specs.Lex.{kind, next, spelling, left, ere_len, ere_spelling, past_ere}
use Rattle.rawk_parsing.specs.declared.parse_error.ParseError.{ParseError}
use Rattle.rawk_lexer.specs.Escape.{unquoted}
use Rattle.rawk_parsing.specs.Constant.{constant}
use Rattle.rawk_parsing.specs.declared.refusal.RefusalKind.TheVariants as refused
use Rattle.rawk_parsing.specs.declared.parse_error.ParseError.TheVariants.{Here}
use Rattle.rawk_parsing.specs.declared.tree.Name.{Name}
use Rattle.rawk_parsing.specs.Parser.{Input, Outcome, Parser, and_then, same_kind, sees, after, expect, refuse, newlines, newlines_from, name_at, name, bare_name, ere, function, function_from, number, number_from}
use Rattle.rawk_parsing.specs.Tokens.{Spells, SpellsEre, Newlines, none, more}

pub and_then_ok : {A B : Type 0} (o : Outcome A) (f : A → Parser B) (r : B × Input) → and_then o f ≡ Ok r → (p : A × Input) × (o ≡ Ok p) × (f p.0 p.1 ≡ Ok r)
and_then_ok (Ok p) f r h = (p, refl, h)
and_then_ok (Err e) f r h = cc

pub cond_is : {Y : Type 0} (b : Bool) (f g y : Y) → cond b f g ≡ y → ((b ≡ true) × (f ≡ y)) ⊎ ((b ≡ false) × (g ≡ y))
cond_is true f g y h = inl (refl, h)
cond_is false f g y h = inr (refl, h)

pub cond_ok : {X Y : Type 0} (b : Bool) (f g : X → Y) (x : X) (y : Y) → cond b f g x ≡ y → ((b ≡ true) × (f x ≡ y)) ⊎ ((b ≡ false) × (g x ≡ y))
cond_ok true f g x y h = inl (refl, h)
cond_ok false f g x y h = inr (refl, h)

abbrev pub done : {A : Type 0} → A → Input → Outcome A
done x j = Ok (x, j)

-- a pure outcome
pub at_ok : {A : Type 0} (P : A → Input → Type 0) (x : A) (j : Input) (r : A × Input) → P x j → done x j ≡ Ok r → P r.0 r.1
at_ok P x j r p h = let e : (x, j) ≡ r = cc in subst (λ q. P q.0 q.1) e p

pub not_ok : {A : Type 0} {C : Type 0} (e : ParseError) (r : A) → Err e ≡ Ok r → C
not_ok e r h = cc

-- ---- tokens

pub sees_kind : (c : Kind) (i : Input) → sees c i ≡ true → kind i ≡ c
unfolding sees same_kind
sees_kind c i h = same_true the_type (search rules) (kind i) c h

pub spells : (c : Kind) (i : Input) → kind i ≡ c → Spells c (spelling i) i (next i)
spells c i h = record { is_kind = h; is_word = refl; is_next = refl }

after_seen : (c : Kind) (i : Input) → sees c i ≡ true → after c i ≡ next i
unfolding after
after_seen c i h = ap (λ b. cond b (next i) i) h

after_none : (c : Kind) (i : Input) → sees c i ≡ false → after c i ≡ i
unfolding after
after_none c i h = ap (λ b. cond b (next i) i) h

-- what eat leaves
pub eaten : (c : Kind) (i : Input) → sees c i ≡ true → Spells c (spelling i) i (after c i)
eaten c i h = record { is_kind = sees_kind c i h; is_word = refl; is_next = sym (after_seen c i h) }

pub kept : (P : Input → Type 0) (c : Kind) (i : Input) → sees c i ≡ false → P (after c i) → P i
kept P c i h p = subst P (after_none c i h) p

pub keeps : (P : Input → Type 0) (c : Kind) (i : Input) → sees c i ≡ false → P i → P (after c i)
keeps P c i h p = subst P (sym (after_none c i h)) p

pub expect_ok : (c : Kind) (i : Input) (r : Unit {0} × Input) → expect c i ≡ Ok r → Spells c (spelling i) i r.1
unfolding expect
expect_ok c i r h = go (sees c i) refl h
  where
    go : (b : Bool) → sees c i ≡ b → cond b (Ok (tt, next i)) (refuse i) ≡ Ok r → Spells c (spelling i) i r.1
    go true e h = at_ok (λ _ j. Spells c (spelling i) i j) tt (next i) r (spells c i (sees_kind c i e)) h
    go false e h = not_ok _ r h

pub bare_name_ok : (i : Input) (r : Name × Input) → bare_name i ≡ Ok r → (r.0 ≡ name_at i) × Spells k.Name (spelling i) i r.1
unfolding bare_name name
bare_name_ok i r h = go (sees k.Name i) refl h
  where
    go : (b : Bool) → sees k.Name i ≡ b → cond b (Ok (name_at i, next i)) (refuse i) ≡ Ok r → (r.0 ≡ name_at i) × Spells k.Name (spelling i) i r.1
    go true e h = at_ok (λ n j. (n ≡ name_at i) × Spells k.Name (spelling i) i j) (name_at i) (next i) r (refl, spells k.Name i (sees_kind k.Name i e)) h
    go false e h = not_ok _ r h

pub ere_ok : (i : Input) (r : List ℕ × Input) → (kind i ≡ k.Slash) ⊎ (kind i ≡ k.SlashAssign) → ere i ≡ Ok r → SpellsEre r.0 i r.1
unfolding ere
ere_ok i r at h = go (ere_len i == 0) refl h
  where
    go : (b : Bool) → (ere_len i == 0) ≡ b → cond b (Err (Here refused.Unterminated (left i))) (Ok (unquoted (ere_spelling i), past_ere i)) ≡ Ok r → SpellsEre r.0 i r.1
    go true e h = not_ok _ r h
    go false e h = at_ok (λ w j. SpellsEre w i j) _ _ r (record { begins = at; ends = search (rules, e); is_word = refl; is_next = refl }) h

pub function_ok : (i : Input) (r : Builtin × Input) → function i ≡ Ok r → (builtin_named (spelling i) ≡ Some r.0) × (next i ≡ r.1)
unfolding function
function_ok i r h = go (builtin_named (spelling i)) refl h
  where
    go : (o : Option Builtin) → builtin_named (spelling i) ≡ o → function_from o i ≡ Ok r → (builtin_named (spelling i) ≡ Some r.0) × (next i ≡ r.1)
    go None e h = not_ok _ r h
    go (Some f) e h = at_ok (λ g j. (builtin_named (spelling i) ≡ Some g) × (next i ≡ j)) f (next i) r (e, refl) h

pub number_ok : (i : Input) (r : ℤ × Input) → number i ≡ Ok r → (constant (spelling i) ≡ Some r.0) × (next i ≡ r.1)
unfolding number
number_ok i r h = go (constant (spelling i)) refl h
  where
    go : (o : Option ℤ) → constant (spelling i) ≡ o → number_from o i ≡ Ok r → (constant (spelling i) ≡ Some r.0) × (next i ≡ r.1)
    go None e h = not_ok _ r h
    go (Some n) e h = at_ok (λ m j. (constant (spelling i) ≡ Some m) × (next i ≡ j)) n (next i) r (e, refl) h

newlines_from_are : (n : ℕ) (i : Input) → Newlines i (newlines_from n i)
unfolding newlines_from
newlines_from_are zero i = none
newlines_from_are (suc n) i = go (sees k.Newline i) refl (newlines_from_are n (next i))
  where
    go : (b : Bool) → sees k.Newline i ≡ b → Newlines (next i) (newlines_from n (next i)) → Newlines i (cond b (newlines_from n (next i)) i)
    go true e h = more (spells k.Newline i (sees_kind k.Newline i e)) h
    go false e h = none

pub newlines_are : (i : Input) → Newlines i (newlines i)
unfolding newlines
newlines_are i = newlines_from_are (left i) i
