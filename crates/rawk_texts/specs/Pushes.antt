-- Texts that functions make, which are pushed at once.
use Rattle.std.specs.Prelude.{◌≡◌, Bool, true, false}
use Rattle.rawk_store.specs.declared.store.Store.{Store}
use Rattle.rawk_code.specs.declared.code.Op.{Op}
use Rattle.rawk_code.specs.declared.code.Instr.TheVariants as instr
use Rattle.rawk_operate.specs.declared.transfer.Transfer.TheVariants as transfer
use Rattle.rawk_operate.specs.Done.{Done}
use Rattle.rawk_operands.specs.Moving.{moving}

-- the operation was done, or it is left to others and nothing has changed
abbrev pub IsPushedIf : Bool → Op → Store → Store → Type 0
IsPushedIf true o old new = Done (instr.Do o) (moving old) transfer.Next (moving new)
IsPushedIf false o old new = new ≡ old
