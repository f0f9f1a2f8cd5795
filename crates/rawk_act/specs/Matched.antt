-- The parts of a state behind a match.
use Rattle.std.specs.Prelude.{slice_set}
use Rattle.rawk_value.specs.declared.value.Value.TheVariants.{Number}
use Rattle.rawk_operators.specs.declared.searches.Match.{Match}
use Rattle.rawk_store.specs.State.{RLENGTH, RSTART}
use Rattle.rawk_operands.specs.Moving.{Moving, with_globals}

-- RLENGTH and RSTART took where it stands, one after the other
abbrev pub with_match : Match → Moving → Moving
with_match told m = with_globals (slice_set (slice_set m.globals RLENGTH (Number told.length)) RSTART (Number told.start)) m
