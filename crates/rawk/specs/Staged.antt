-- A machine with its program, as a session sees it.
use Rattle.std.specs.Prelude.{◌≡◌, ◌-◌, true, [], length, Option, None, Some}
use Rattle.rawk_tree.specs.declared.tree.Program.{Program}
use Rattle.rawk_devices.specs.Inputs.{Input}
use Rattle.rawk_history.specs.Keeping.{keeps_any}
use Rattle.rawk_code.specs.Correct.{CodeOf}
use Rattle.rawk_machine.specs.Standing.{Standing, MayCome, Stood}
use Rattle.rawk_answers.specs.Positions.{Position, Snapshot}
use Rattle.rawk_answers.specs.Works.{Work}
use Rattle.rawk_store.specs.Observed.{Observed}

-- a machine and its program
pub record Staged (S : Type 0) : Type 0 where
  pub program : Program
  pub machine : Standing S

-- where it stands; the oldest point that it keeps is as many points back as it kept
abbrev pub position_of : {S : Type 0} → Program → Standing S → Position
position_of p m = record { program = p; settings = m.settings; steps = m.steps; history = m.limit; point = m.point; sets = m.sets; oldest = m.point - length m.history }

abbrev pub held_of : {S : Type 0} → Standing S → Snapshot
held_of m = record { over = m.ending; site = m.site; state = m.state }

-- what it has done up to now
abbrev pub work_of : {S : Type 0} → Standing S → Work S
work_of m = record { executed = m.executed; read = m.tape.bytes; source = m.tape.source }

-- what was seen before the last step; nothing where there was none
abbrev pub seen_or : Option Observed → Observed
seen_or None = record { globals = []; arrays = []; whole = []; fields = [] }
seen_or (Some s) = s

-- the machine runs the program, keeps steps, and has stood where its history says
pub record IsStage {S : Type 0} (may_give : S → Input → Type 0) (p : Program) (m : Standing S) : Type 0 where
  pub compiled : CodeOf p m.code
  pub keeps : keeps_any m.limit ≡ true
  pub stood : (input : Input) → MayCome may_give m [] input → Stood m input
