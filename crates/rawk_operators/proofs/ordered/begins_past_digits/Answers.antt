use Rattle.std.proofs.lemmas.Bool.{OnTrue_from}
use Rattle.rawk_operators.proofs.Numerals.{past_digits}
use Rattle.rawk_operators.proofs.ordered.begins_past_digits.Goals as goal

pub returns-in-len1-up : goal.returns-in-len1-up
returns-in-len1-up c = OnTrue_from _ _ (past_digits c.args.text.now)
