use Rattle.std.proofs.Common.{length, ap, arith}
use Rattle.std.proofs.lemmas.List.{length-take}
use Rattle.rawk_record.specs.Shown.{Shown}
use Rattle.rawk_record.proofs.Counts.{divided-few}
use Rattle.rawk_record.proofs.uncut.Uncut.field_count.Goals as goal

pub returns-clause-small : goal.returns-clause-small
returns-clause-small c =
    let few = c.self.invariant.1 in
    let text = ap length c.text.ensures in
    let shown = ap (λ (x : Shown). length x.text) c.self.view_is in
    omega (arith, divided-few c.self.inside.divider c.text.result.now, c.piece_count.ensures, text, shown, length-take c.self.inside.size c.self.inside.buffer.items, few)
