use Rattle.std.proofs.Common.{◌∙◌, ap, Option, None}
use Rattle.std.specs.Option.{unwrap_or}
use Rattle.std.proofs.lemmas.Option.{unwrap_or-slice_get}
use Rattle.rawk_value.specs.declared.value.Value.{Value}
use Rattle.rawk_arrays.proofs.cells.filled.Goals as goal

pub returns-in-None : goal.returns-in-None
returns-in-None c = ap (λ (o : Option (Option Value)). unwrap_or o None) c.in-None.ensures ∙ unwrap_or-slice_get c.args.cells.now.now c.args.number None
