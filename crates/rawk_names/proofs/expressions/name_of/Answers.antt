use Rattle.std.proofs.Common.{sym}
use Rattle.rawk_names.specs.SeenLaws.{nameless}
use Rattle.rawk_names.proofs.expressions.name_of.Goals as goal

pub returns-in_default : goal.returns-in_default
returns-in_default c = sym (nameless c.args.e.now c.in_default.not-Of)
