use Rattle.std.proofs.Common.{◌≡◌, ◌∙◌, [], sym, subst, rules, Some, false, true}
use Rattle.rawk_ere_pattern.specs.Reading.{run, fresh, is_formed, IsTreeRefused}
use Rattle.rawk_ere_pattern.specs.PatternOf.{IsPatternOf, IsRefused}
use Rattle.rawk_ere_pattern.specs.PatternOfLemmas.{unformed, no_tree, is_read, too_large}
use Rattle.rawk_ere_pattern.proofs.read.read.Goals as goal

pub returns-then-not-is_well_formed-clause-refused : goal.returns-then-not-is_well_formed-clause-refused
returns-then-not-is_well_formed-clause-refused c =
    let ts = c.in_ok-tokens.tokens.items in
    let f : is_formed ts 0 false ≡ false = subst (λ l. is_formed l 0 false ≡ false) c.deref.ensures.value (sym c.is_well_formed.ensures ∙ c.if-not-is_well_formed.true) in
    unformed c.args.pattern.now ts c.in_ok-tokens.ensures.is f

pub returns-in_err-part-clause-refused : goal.returns-in_err-part-clause-refused
returns-in_err-part-clause-refused c =
    let ts = c.in_ok-tokens.tokens.items in
    let f : is_formed ts 0 false ≡ true = subst (λ l. is_formed l 0 false ≡ true) c.deref.ensures.value (sym c.is_well_formed.ensures ∙ c.if-not-is_well_formed.false) in
    let h = subst (λ l. IsTreeRefused c.in_err-part.field-0.0 (run [] fresh l)) c.deref-2.ensures.value c.in_err-part.ensures.refused in
    let r : IsRefused c.in_err-part.field-0.0 c.args.pattern.now = no_tree c.in_err-part.field-0.0 c.args.pattern.now ts c.in_ok-tokens.ensures.is f h in
    search (rules, r)

pub returns-then-size-gt65536-clause-refused : goal.returns-then-size-gt65536-clause-refused
returns-then-size-gt65536-clause-refused c =
    let ts = c.in_ok-tokens.tokens.items in
    let r = subst (λ l. run [] fresh l ≡ Some c.in_ok-part.part) c.deref-2.ensures.value c.in_ok-part.ensures.is in
    too_large c.args.pattern.now ts c.in_ok-part.part c.size.result c.in_ok-tokens.ensures.is r c.size.ensures c.if-size-gt65536.true

pub returns-clause-is : goal.returns-clause-is
returns-clause-is c =
    let ts = c.in_ok-tokens.tokens.items in
    let r = subst (λ l. run [] fresh l ≡ Some c.in_ok-part.part) c.deref-2.ensures.value c.in_ok-part.ensures.is in
    subst (λ e. IsPatternOf c.args.pattern.now e) (sym c.into_node.ensures.tree) (is_read c.args.pattern.now ts c.in_ok-part.part c.in_ok-tokens.ensures.is r)
