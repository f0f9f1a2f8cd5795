-- A session as its commands see it.
use Rattle.rawk_answers.specs.Positions.{Position}
use Rattle.rawk_debug.specs.Moves.{Stand}
use Rattle.rawk_debug.specs.declared.session.Session.{Session}

-- where a session stands, by where its machine does
abbrev pub stand : {M : Type 0} → (M → Position) → Session M → Stand
stand position s = record { machine = position s.machine; stops = s.stops.items; made = s.made }

abbrev pub machine_of : {M : Type 0} → Session M → M
machine_of s = s.machine
