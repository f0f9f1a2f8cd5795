-- What is made of a place whose matches are replaced.
use Rattle.std.specs.Prelude.{drop, Option, Result}
use Rattle.rawk_words.specs.declared.operator.Extent.{Extent}
use Rattle.rawk_value.specs.declared.fault.Fault.{Fault}
use Rattle.rawk_value.specs.Values.{next_ok}
use Rattle.rawk_replacements.specs.Replaced.{Replaced}
use Rattle.rawk_operators.specs.Operators.{replaced_in}
use Rattle.rawk_store.specs.State.{Target}
use Rattle.rawk_code.specs.declared.code.Operand.{Operand}
use Rattle.rawk_code.specs.Machine.{top}
use Rattle.rawk_operands.specs.Moving.{Moving, operand_in, target_value, with_operands}

-- the parts without their newest operand
abbrev pub below_newest : Moving → Moving
below_newest m = with_operands (drop 1 m.operands) m

-- the text of a place where matches of the last operand below the newest one are replaced by that
abbrev pub replaced_at : Extent → Operand → Target → Moving → Result (Option Replaced) Fault
replaced_at extent from place m = next_ok (operand_in from (below_newest m)) (λ e. replaced_in extent e (top m.operands) (target_value place m))
