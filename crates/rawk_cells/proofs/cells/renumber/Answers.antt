use Rattle.std.proofs.Common.{refl}
use Rattle.rawk_cells.proofs.Puts.{same_set, texts_stay}
use Rattle.rawk_cells.proofs.cells.renumber.Goals as goal

pub returns-in_default : goal.returns-in_default
returns-in_default c = record {
  done = tt;
  other = same_set c.args.slots.now.now c.args.place c.lend.result.now c.lend.ensures.value;
  texts = texts_stay c.args.slots.now _ c.args.place c.lend.result.now c.lend.ensures.value refl;
}
