use Rattle.std.proofs.Common.{refl}
use Rattle.rawk_syntax.specs.Texts.{bad_ere}
use Rattle.rawk_syntax.proofs.names.names_from.Goals as goal

pub returns-in-Some-clause-exact : goal.returns-in-Some-clause-exact
returns-in-Some-clause-exact c = λ ne. bad_ere c.in-Some.left (rw c.in-Some.is at c.in_ok-left.ensures) refl
