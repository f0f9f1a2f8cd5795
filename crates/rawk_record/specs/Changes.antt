-- What a change makes of a record (POSIX awk, Expressions in awk; Variables and Special Variables, NF).
use Rattle.std.specs.Prelude.{◌==◌, if◌then◌else◌, Result, Ok, Err}
use Rattle.rawk_value.specs.declared.fault.Fault.{Fault}
use Rattle.rawk_record.specs.Changed.{rebuilt, resized, with_value}
use Rattle.rawk_record.specs.Shown.{Shown, read_as}
use Rattle.rawk_record.specs.declared.change.RecordChange.{RecordChange}
use Rattle.rawk_record.specs.declared.change.RecordChange.TheVariants.{Read, Field, Count}

-- the record that was read, or the one before
abbrev pub or_same : Shown → Result Shown Fault → Shown
or_same old (Ok new) = new
or_same old (Err fault) = old

-- the record that a change makes of another; there is no field of number 0
abbrev pub changed_by : Shown → RecordChange → Shown
changed_by old (Read text fs newline) = or_same old (read_as text.items fs.items newline)
changed_by old (Field number value separator) = if number == 0 then old else rebuilt separator.items (with_value number value old.fields)
changed_by old (Count count separator) = rebuilt separator.items (resized count old.fields)
