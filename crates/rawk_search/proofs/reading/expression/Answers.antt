use Rattle.rawk_search.proofs.ExpressionLemmas.{read_is, refused_syntax, refused_size}
use Rattle.rawk_search.proofs.reading.expression.Goals as goal

pub returns-in-Ok : goal.returns-in-Ok
returns-in-Ok c = read_is c.args.pattern.now c.in-Ok.ere c.in-Ok.ensures.is c.in-Ok.ensures.within

pub returns-in-Err-Syntax : goal.returns-in-Err-Syntax
returns-in-Err-Syntax c = refused_syntax c.args.pattern.now (rw c.in-Err-Syntax.field-0-is at c.in-Err-Syntax.ensures.refused)

pub returns-in-Err-TooLarge : goal.returns-in-Err-TooLarge
returns-in-Err-TooLarge c = refused_size c.args.pattern.now (rw c.in-Err-TooLarge.field-0-is at c.in-Err-TooLarge.ensures.refused)
