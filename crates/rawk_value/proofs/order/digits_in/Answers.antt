-- The digits are the number's text.
use Rattle.std.proofs.Common.{◌∙◌}
use Rattle.rawk_value.proofs.Texts.{int_text_is}
use Rattle.rawk_value.proofs.order.digits_in.Goals as goal

pub returns : goal.returns
returns c = c.as_bytes.ensures.value ∙ c.format.ensures.text ∙ int_text_is c.args.n c.ranges.n
