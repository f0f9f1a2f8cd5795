use Rattle.rawk_keys.specs.ArrayKey.{array_key}
use Rattle.rawk_names.specs.Tables.{found, found_within}
use Rattle.rawk_names.proofs.table.find_in.Goals as goal

pub returns-clause-value : goal.returns-clause-value
returns-clause-value c = found (array_key c.args.group c.args.word.now) c.args.keys.now c.find.result c.requires c.find.ensures

pub returns-clause-within : goal.returns-clause-within
returns-clause-within c = found_within (array_key c.args.group c.args.word.now) c.args.keys.now c.find.result c.find.ensures
