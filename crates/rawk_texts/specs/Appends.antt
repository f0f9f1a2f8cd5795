-- Texts of variables that are added to.
use Rattle.std.specs.Prelude.{◌≡◌, ◌++◌}
use Rattle.rawk_value.specs.declared.value.Value.{Value}
use Rattle.rawk_value.specs.declared.value.Value.TheVariants.{String}
use Rattle.rawk_value.specs.Values.{text_of}
use Rattle.rawk_code.specs.declared.code.Simple.{Simple}
use Rattle.rawk_code.specs.declared.code.Variable.{Variable}
use Rattle.rawk_code.specs.Machine.{top, variable_target}
use Rattle.rawk_operands.specs.Moving.{Moving, longer_in, target_value, with_variable}

-- a variable has its text with that of what has its value at once behind it, and all else is as it was
abbrev pub IsAppended : Variable → Simple → Moving → Moving → Type 0
IsAppended x from old new = new ≡ with_variable x (longer_in x from old) old

-- a variable's text with that of the newest operand behind it
abbrev pub longer_by_popped : Variable → Moving → Value
longer_by_popped x m = String (text_of (target_value (variable_target x) m) ++ text_of (top m.operands))

-- a variable has this text, and all else is as it was
abbrev pub IsAppendedPopped : Variable → Moving → Moving → Type 0
IsAppendedPopped x old new = new ≡ with_variable x (longer_by_popped x old) old
