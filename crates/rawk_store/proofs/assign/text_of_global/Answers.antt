-- A global that is not there has no text.
use Rattle.std.proofs.Common.{ap}
use Rattle.rawk_value.specs.declared.value.Value.TheVariants.{Uninitialized}
use Rattle.rawk_value.specs.Values.{text_of}
use Rattle.rawk_store.proofs.Missing.{value_missing}
use Rattle.rawk_store.proofs.assign.text_of_global.Goals as goal

pub returns-in-None : goal.returns-in-None
returns-in-None c = ap text_of (value_missing c.args.globals.now.now c.args.number Uninitialized c.in-None.ensures)
