use Rattle.std.proofs.Common.{subst, arith, List}
use Rattle.std.proofs.lemmas.List.{take_all}
use Rattle.rawk_history.specs.Steps.{Kept}
use Rattle.rawk_history.specs.Saving.{Counts, saved_by_all}
use Rattle.rawk_history.proofs.full.FullKeeper.saved.Goals as goal

pub returns : goal.returns
returns c = subst (λ (ks : List Kept). Counts (saved_by_all ks) c.saved_in_newest.result) (take_all c.len.result c.args.self.now.kept (omega (arith, c.len.ensures))) c.saved_in_newest.ensures
