-- Records of small inputs, computed from the definitions.
use Rattle.std.specs.Prelude.{◌≡◌, ℕ, true, false, [], None, Option, Result, Ok, Err, codes}
use Rattle.std.proofs.Common.{refl}
use Rattle.rawk_value.specs.Values.{Bytes}
use Rattle.rawk_value.specs.declared.fault.Fault.{Fault}
use Rattle.rawk_value.specs.declared.fault.Fault.TheVariants.{ReadFailed}
use Rattle.rawk_tape.specs.Records.{Found, found, next_record}

-- the next record of a whole input after this many of its bytes
abbrev next : Bytes → ℕ → Bytes → Result (Option Found) Fault
next bytes = next_record (record { bytes = bytes; fails = false })

-- a newline: the last record needs none
first-line : next (codes "a\n\nb") 0 (codes "\n") ≡ found (codes "a") 2
first-line = refl

empty-line : next (codes "a\n\nb") 2 (codes "\n") ≡ found [] 3
empty-line = refl

last-line : next (codes "a\n\nb") 3 (codes "\n") ≡ found (codes "b") 4
last-line = refl

no-line : next (codes "a\n\nb") 4 (codes "\n") ≡ Ok None
no-line = refl

-- behind the last newline of an input whose reading fails there is no record
failed-line : next_record (record { bytes = codes "a\nb"; fails = true }) 2 (codes "\n") ≡ Err ReadFailed
failed-line = refl

-- another byte: a newline is then one of the record's bytes
one-byte : next (codes "a\nb;c") 0 (codes ";") ≡ found (codes "a\nb") 4
one-byte = refl

-- nothing: empty lines separate, those before the first record do not count, and one newline stays within a record
first-paragraph : next (codes "\n\na\nb\n\n\nc\n") 0 [] ≡ found (codes "a\nb") 8
first-paragraph = refl

last-paragraph : next (codes "\n\na\nb\n\n\nc\n") 8 [] ≡ found (codes "c") 10
last-paragraph = refl
