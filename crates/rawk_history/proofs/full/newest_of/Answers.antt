use Rattle.std.proofs.Common.{◌∙◌, ap, drop, reverse}
use Rattle.std.proofs.lemmas.List.{take_rest}
use Rattle.rawk_history.proofs.Saved.{last_are}
use Rattle.rawk_history.proofs.full.newest_of.Goals as goal

pub returns : goal.returns
returns g c =
    let xs = c.args.list.now in
    ap (λ ys. reverse ys) (take_rest xs c.saturating_sub.result) ∙ (ap (λ i. reverse (drop i xs)) c.saturating_sub.ensures ∙ last_are c.args.count xs)
