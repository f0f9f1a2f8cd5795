use Rattle.rawk_expression.specs.Sound.{whole_derived, place_derived, printed_derived}
use Rattle.rawk_expression.proofs.laws.sound.Goals as goal

pub returns : goal.returns
returns c = record { whole = whole_derived; place = place_derived; printed = printed_derived }
