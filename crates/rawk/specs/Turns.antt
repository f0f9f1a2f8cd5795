-- What became of the line that is due, of commands that are read.
use Rattle.std.specs.Prelude.{◌≡◌, ℕ, ◌+◌, ◌≤◌, length, drop}
use Rattle.rawk_value.specs.Values.{Bytes}
use Rattle.rawk_devices.specs.Inputs.{Input, before}
use Rattle.rawk_tape.specs.Lines.{LinesState, ReadsMore}
use Rattle.rawk_debug.specs.declared.transcript.Reply.{Reply}
use Rattle.rawk_debug.specs.Moves.{Stand}
use Rattle.rawk_debug.specs.Transcript.{Turn, Carries}
use Rattle.rawk.specs.Dialogs.{IsNextTurn}

-- the line that was due had its turn, was replied to, where this is the output then, and let go
pub record TakesTurn {M C : Type 0} (may_be : M → Input → Type 0) (may_give : C → Input → Type 0) (handed : C → ℕ) (first last : Stand) (machine : M) (output : Bytes) (old : C) (held : LinesState) (new : C) (now : LinesState) (reply : Reply) : Type 0 where
  pub all : Bytes
  pub turn : Turn
  pub count : ℕ
  pub reads : ReadsMore may_give handed old held.bytes new all
  pub next : (rest : Input) → may_give new rest → IsNextTurn (Unit {0}) (before all rest) 0 turn count
  pub within : count ≤ length all
  pub left : now.bytes ≡ drop count all
  pub taken : now.taken ≡ held.taken + 1
  pub carries : (input : Input) → may_be machine input → Carries input turn first output reply last
