use Rattle.rawk_names.specs.Items.{program}
use Rattle.rawk_names.specs.Named.{known}
use Rattle.rawk_syntax.proofs.Readings.{unflawed, named_found}
use Rattle.rawk_syntax.proofs.parsing.settle_named.Goals as goal

pub returns-clause-exact : goal.returns-clause-exact
returns-clause-exact c = unflawed (program c.args.items.now) (known c.args.names) c.requires.named c.requires.readable

pub returns-clause-found : goal.returns-clause-found
returns-clause-found c = named_found c.args.text.now c.args.items.now (known c.args.names) c.in_ok-settled.field-0 c.requires.named c.requires.readable c.in_ok-settled.ensures
