-- A line that is refused as it is read.
use Rattle.std.proofs.Common.{◌≡◌, ◌⊎◌, inl, inr, true, false, [], Option, Some, None, Result, Ok, Err, IsTrue, refl, ap}
use Rattle.rawk_devices.specs.Inputs.{Input}
use Rattle.rawk_commands.specs.declared.command.Command.{Command}
use Rattle.rawk_commands.specs.declared.command.Command.TheVariants.{Quit}
use Rattle.rawk_commands.specs.declared.command.C.{C}
use Rattle.rawk_commands.specs.declared.command.C.TheVariants.{OutOfMemory}
use Rattle.rawk_commands.specs.Reading.{names_something, takes_memory}
use Rattle.rawk_commands.specs.Refusals.{refusal_line}
use Rattle.rawk_store.specs.Observed.{Observed}
use Rattle.rawk_debug.specs.Moves.{Stand}
use Rattle.rawk_debug.specs.Transcript.{Follows, is_quit, quits}

-- `quit` names nothing
not_quit : (command : Command) → names_something command ≡ true → quits command ≡ false
not_quit Quit h = absurd (cc)
not_quit other h = refl

nothing_seen : Observed
nothing_seen = record { globals = []; arrays = []; whole = []; fields = [] }

no_memory : (input : Input) (read : Result (Option Command) C) (reason : C) (old : Stand) → reason ≡ OutOfMemory → takes_memory read ≡ true → (is_quit read ≡ false) × Follows input read old (refusal_line reason) old
no_memory input (Err e) reason old out takes = absurd (cc)
no_memory input (Ok None) reason old out takes = absurd (cc)
no_memory input (Ok (Some command)) reason old out takes = (not_quit command takes, (Err OutOfMemory, nothing_seen, (takes, refl), ap refusal_line out))

unread : (input : Input) (read : Result (Option Command) C) (reason : C) (old : Stand) → Err reason ≡ read → (is_quit read ≡ false) × Follows input read old (refusal_line reason) old
unread input (Err e) reason old is = let same : reason ≡ e = cc in (refl, (ap refusal_line same, refl))
unread input (Ok found) reason old is = absurd (cc)

abbrev refusing : C → Result (Option Command) C
refusing reason = Err reason

-- a refusal is replied to, and changes nothing
pub refused : (input : Input) (read : Result (Option Command) C) (reason : C) (old : Stand) → (refusing reason ≡ read) ⊎ ((refusing reason ≡ refusing OutOfMemory) × IsTrue (takes_memory read))
    → (is_quit read ≡ false) × Follows input read old (refusal_line reason) old
refused input read reason old (inl is) = unread input read reason old is
refused input read reason old (inr out) = no_memory input read reason old (let same : reason ≡ OutOfMemory = (let e = out.0 in cc) in same) out.1
