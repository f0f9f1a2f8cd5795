use Rattle.std.proofs.Common.{subst}
use Rattle.std.specs.Prelude.{OnOk}
use Rattle.rawk_names.specs.Noted.{Noted}
use Rattle.rawk_syntax.specs.Patterns.{AllReadable}
use Rattle.rawk_syntax.specs.Texts.{IsRefusedSo, Tells}
use Rattle.rawk_syntax.proofs.names.names_of.Goals as goal

pub returns-clause-exact : goal.returns-clause-exact
returns-clause-exact c = subst (λ (n : Noted). Tells (IsRefusedSo n) c.names_from.result) c.in_ok-register.ensures c.names_from.ensures.exact

pub returns-clause-readable : goal.returns-clause-readable
returns-clause-readable c = subst (λ (n : Noted). OnOk c.names_from.result (AllReadable n)) c.in_ok-register.ensures c.names_from.ensures.readable
