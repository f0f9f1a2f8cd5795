-- The number and the text of each fault.
use Rattle.std.specs.Prelude.{ℕ, codes}
use Rattle.rawk_value.specs.Values.{Bytes}
use Rattle.rawk_value.specs.declared.fault.Fault.{Fault}
use Rattle.rawk_value.specs.declared.fault.Fault.TheVariants.{Overflow, Fraction, ZeroDivisor, FieldNumber, BadEre, BadFormat, BadSeparator, NextOutside, StepLimit, ReadFailed, WriteFailed, OutOfMemory}

-- a fault's number, the n of its name Fn
abbrev pub fault_number : Fault → ℕ
fault_number Overflow = 1
fault_number Fraction = 2
fault_number ZeroDivisor = 3
fault_number FieldNumber = 4
fault_number BadEre = 5
fault_number BadFormat = 6
fault_number BadSeparator = 7
fault_number NextOutside = 8
fault_number StepLimit = 9
fault_number ReadFailed = 10
fault_number WriteFailed = 11
fault_number OutOfMemory = 12

-- what a report says of a fault
abbrev pub fault_text : Fault → Bytes
fault_text Overflow = codes "overflow"
fault_text Fraction = codes "fraction"
fault_text ZeroDivisor = codes "division by zero"
fault_text FieldNumber = codes "field number out of range"
fault_text BadEre = codes "bad regular expression"
fault_text BadFormat = codes "bad format"
fault_text BadSeparator = codes "bad record separator"
fault_text NextOutside = codes "next outside a main rule"
fault_text StepLimit = codes "step limit reached"
fault_text ReadFailed = codes "read failed"
fault_text WriteFailed = codes "write failed"
fault_text OutOfMemory = codes "out of memory"
