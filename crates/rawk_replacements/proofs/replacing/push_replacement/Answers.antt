use Rattle.std.proofs.Common.{◌++◌, ap, ◌∙◌, subst, sym}
use Rattle.std.specs.Bool.{OnTrue}
use Rattle.std.proofs.lemmas.Result.{on_ok_weaker}
use Rattle.rawk_replacements.specs.Replaced.{IsPlain}
use Rattle.rawk_replacements.proofs.Letters.{plain}
use Rattle.rawk_replacements.proofs.replacing.push_replacement.Goals as goal

pub returns-then-plain : goal.returns-then-plain
returns-then-plain c = on_ok_weaker c.extend.result (λ e. e ∙ ap (λ l. c.args.out.now.items ++ l) (sym (plain c.args.found.now c.args.by.now (subst (λ b. OnTrue b (IsPlain c.args.by.now)) c.if-plain.true c.requires)))) c.extend.ensures
