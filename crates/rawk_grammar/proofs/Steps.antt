-- What the parser's steps do at a token of a known kind.
use Rattle.std.proofs.Common.{◌≡◌, ◌≢◌, ℕ, suc, Bool, true, false, ◌&&◌, cond, ◌==◌, Ok, refl, ap, ◌∙◌, List, rules, arith}
use Rattle.std.proofs.lemmas.Bool.{false_from_ne_true}
use Rattle.rawk_keywords.specs.declared.token.Kind.{Kind}
use Rattle.rawk_lexer.specs.Lex.{kind}
use Rattle.rawk_parsing.specs.Parser.{Input, Outcome, Parser, and_then, sees, after}
use Rattle.rawk_parsing.specs.Tokens.{Spells}
use Rattle.rawk_expression.specs.Follow.{eats as eaten_is, leaves as kept_is}

pub both : (a b : Bool) → (a && b) ≡ true → (a ≡ true) × (b ≡ true)
both true b h = (refl, h)
both false b h = cc

pub not_zero : (d : ℕ) → (suc d == 0) ≡ false
not_zero d = false_from_ne_true (suc d == 0) (λ q. let z : suc d ≡ 0 = search (rules, q) in omega arith)

-- ---- a step whose outcome is known

pub go_on : {A B : Type 0} (o : Outcome A) (f : A → Parser B) (a : A) (j : Input) (r : Outcome B) → o ≡ Ok (a, j) → f a j ≡ r → and_then o f ≡ r
go_on o f a j r h g = ap (λ q. and_then q f) h ∙ g

pub on_true : {A : Type 0} (b : Bool) (f g r : A) → b ≡ true → f ≡ r → cond b f g ≡ r
on_true b f g r h e = ap (λ q. cond q f g) h ∙ e

pub on_false : {A : Type 0} (b : Bool) (f g r : A) → b ≡ false → g ≡ r → cond b f g ≡ r
on_false b f g r h e = ap (λ q. cond q f g) h ∙ e

-- the branches of an `eat`
pub eats : {A : Type 0} (c : Kind) (w : List ℕ) (i j : Input) (f g : Parser A) (r : Outcome A) → Spells c w i j → f j ≡ r → cond (sees c i) f g (after c i) ≡ r
eats c w i j f g r s h = eaten_is c w i j f g s ∙ h

pub leaves : {A : Type 0} (c : Kind) (i : Input) (f g : Parser A) (r : Outcome A) → kind i ≢ c → g i ≡ r → cond (sees c i) f g (after c i) ≡ r
leaves c i f g r ne h = kept_is c i f g ne ∙ h

pub all_true : (a b c d : Bool) → a ≡ true → b ≡ true → c ≡ true → d ≡ true → (a && (b && (c && d))) ≡ true
all_true true true true true e f g h = refl
all_true false b c d e f g h = cc
all_true true false c d e f g h = cc
all_true true true false d e f g h = cc
all_true true true true false e f g h = cc
