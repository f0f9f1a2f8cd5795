-- The digits are the number's text.
use Rattle.std.proofs.Common.{◌∙◌}
use Rattle.rawk_value.specs.Values.{int_text}
use Rattle.rawk_value.proofs.Texts.{added, int_text_is}
use Rattle.rawk_value.proofs.text.push_number.Goals as goal

pub returns-clause-ok : goal.returns-clause-ok
returns-clause-ok c =
    added c.extend_from_slice.result c.extend_from_slice.new.self.items c.args.out.now.items c.as_bytes.result.now (int_text c.args.n)
    c.extend_from_slice.ensures.items (c.as_bytes.ensures.value ∙ c.format.ensures.text ∙ int_text_is c.args.n c.ranges.n)
