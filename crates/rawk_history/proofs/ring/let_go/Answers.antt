use Rattle.std.proofs.Common.{◌≡◌, ◌∷◌, ◌++◌, ◌∙◌, [], Some, Option, option_to_list, ap, sym, refl, subst, arith, append-nil, length, length-append}
use Rattle.rawk_history.specs.Keeping.{Keeping}
use Rattle.rawk_history.specs.Parts.{AreFilled, kept_in}
use Rattle.rawk_history.proofs.Parts.{filled_front, kept_in-append}
use Rattle.rawk_history.proofs.ring.let_go.Goals as goal

all : (c : goal.Joined-oldest) → c.args.parts.now.items ≡ c.pop_back-oldest.new.self.items ++ c.in-Some.part.now ∷ []
all c =
    let part = c.in-Some.part.now in
    let popped : c.pop_back-oldest.result ≡ Some part = c.pop_back-oldest.ensures.value part (c.in-Some.ensures.variant.0 refl) ∙ ap (λ (k : Keeping). Some k) (sym c.in-Some.ensures.lookup) in
    c.pop_back-oldest.ensures.items ∙ ap (λ (o : Option Keeping). c.pop_back-oldest.new.self.items ++ option_to_list o) popped

pub returns-clause-front : goal.returns-clause-front
returns-clause-front c = record { rest = kept_in (c.in-Some.part.now ∷ []); is = ap kept_in (all c) ∙ kept_in-append c.pop_back-oldest.new.self.items (c.in-Some.part.now ∷ []) }

pub returns-clause-left : goal.returns-clause-left
returns-clause-left c =
    let new = c.pop_back-oldest.new.self.items in
    let part = c.in-Some.part.now in
    let is = ap (λ ks. length (kept_in ks)) (all c) ∙ (ap length (kept_in-append new (part ∷ [])) ∙ length-append (kept_in new) (kept_in (part ∷ []))) in
    omega (arith, is, ap length (append-nil part.kept), c.len-held.ensures, c.if-held-gone.false)

pub returns-clause-filled : goal.returns-clause-filled
returns-clause-filled c = λ h. filled_front c.pop_back-oldest.new.self.items (c.in-Some.part.now ∷ []) (subst AreFilled (all c) h)
