use Rattle.std.proofs.Common.{◌≡◌, ◌∙◌, sym, ap, subst, drop, Some, None}
use Rattle.std.specs.Prelude.{MatchOption}
use Rattle.rawk_ere_pattern.specs.Pattern.{begun_by}
use Rattle.rawk_ere_pattern.proofs.PatternLemmas.{item_hyphen, item_named, item_byte}
use Rattle.rawk_ere_pattern.proofs.bracket.read_item.Goals as goal

pub returns-then-is_at-clause-is : goal.returns-then-is_at-clause-is
returns-then-is_at-clause-is c =
    let p = c.args.pattern.now in
    subst (λ x. MatchOption c.from_hyphen.result (x ≡ None) (λ r. x ≡ Some (r.0, r.1, drop r.2 p)))
    (sym (item_hyphen c.args.place c.args.at p (sym c.is_at.ensures ∙ c.if-is_at.true))) c.from_hyphen.ensures.is

pub returns-then-is_class-clause-is : goal.returns-then-is_class-clause-is
returns-then-is_class-clause-is c =
    let p = c.args.pattern.now in
    subst (λ x. MatchOption c.from_name.result (x ≡ None) (λ r. x ≡ Some (r.0, r.1, drop r.2 p)))
    (sym (item_named c.args.place c.args.at p (sym c.is_at.ensures ∙ c.if-is_at.false) (sym c.is_class.ensures.is ∙ c.if-is_class.true))) c.from_name.ensures.is

pub returns-in-None-clause-is : goal.returns-in-None-clause-is
returns-in-None-clause-is c =
    item_byte c.args.place (drop c.args.at c.args.pattern.now) (sym c.is_at.ensures ∙ c.if-is_at.false) (sym c.is_class.ensures.is ∙ c.if-is_class.false) ∙ ap begun_by c.in-None.ensures.is

pub returns-in-Some-clause-is : goal.returns-in-Some-clause-is
returns-in-Some-clause-is c =
    let p = c.args.pattern.now in
    subst (λ x. MatchOption c.from_byte.result (x ≡ None) (λ r. x ≡ Some (r.0, r.1, drop r.2 p)))
    (sym (item_byte c.args.place (drop c.args.at p) (sym c.is_at.ensures ∙ c.if-is_at.false) (sym c.is_class.ensures.is ∙ c.if-is_class.false) ∙ ap begun_by c.in-Some.ensures.is)) c.from_byte.ensures.is
