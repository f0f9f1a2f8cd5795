use Rattle.std.proofs.Common.{[], arith, ap, length, take, map}
use Rattle.rawk_record.specs.Shown.{Shown}
use Rattle.rawk_record.specs.ShortPieces.{wide}
use Rattle.rawk_record.proofs.Shorts.{length-wide}
use Rattle.rawk_record.proofs.Values.{length-values}
use Rattle.rawk_record.proofs.short.Short.field_count.Goals as goal

pub returns-clause-value : goal.returns-clause-value
returns-clause-value c =
    let i = c.self.inside in
    omega (arith, length-values (take i.size i.text) (map wide (take i.count i.pieces)) [], length-wide i.pieces i.count c.self.invariant.1, ap (λ (x : Shown). length x.fields) c.self.view_is)
