use Rattle.std.proofs.Common.{◌∙◌}
use Rattle.rawk_grammar.proofs.NoElse.{empty_ends, simple_ends, jump_ends, block_ends, do_ends, if_dangles, else_dangles, while_dangles, for_dangles, member_dangles}
use Rattle.rawk_grammar.proofs.dangling.+dangles.Goals as goal

pub returns-in-None : goal.returns-in-None
returns-in-None t c = if_dangles c.args.stmt.now c.in-If.field-0 c.in-If.last c.in-If.is c.in-None.is

pub returns-in-Some : goal.returns-in-Some
returns-in-Some t c = c.dangles.ensures ∙ else_dangles c.args.stmt.now c.in-If.field-0 c.in-If.last c.in-Some.last c.get.result.now c.in-If.is c.in-Some.is c.get.ensures

pub returns-in-While : goal.returns-in-While
returns-in-While t c = c.dangles-in-While.ensures ∙ while_dangles c.args.stmt.now c.in-While.field-0 c.in-While.body c.get-in-While.result.now c.in-While.is c.get-in-While.ensures

pub returns-in-For : goal.returns-in-For
returns-in-For t c = c.dangles-in-For.ensures ∙ for_dangles c.args.stmt.now c.in-For.field-0 c.in-For.body c.get-in-For.result.now c.in-For.is c.get-in-For.ensures

pub returns-in-ForIn : goal.returns-in-ForIn
returns-in-ForIn t c = c.dangles-in-ForIn.ensures ∙ member_dangles c.args.stmt.now c.in-ForIn.field-0 c.in-ForIn.field-1 c.in-ForIn.field-2 c.in-ForIn.body c.get-in-ForIn.result.now c.in-ForIn.is c.get-in-ForIn.ensures

pub returns-in-Empty : goal.returns-in-Empty
returns-in-Empty t c = empty_ends c.args.stmt.now c.in-Empty.is

pub returns-in-Simple : goal.returns-in-Simple
returns-in-Simple t c = simple_ends c.args.stmt.now c.in-Simple.field-0 c.in-Simple.is

pub returns-in-Jump : goal.returns-in-Jump
returns-in-Jump t c = jump_ends c.args.stmt.now c.in-Jump.field-0 c.in-Jump.field-1 c.in-Jump.is

pub returns-in-Block : goal.returns-in-Block
returns-in-Block t c = block_ends c.args.stmt.now c.in-Block.field-0 c.in-Block.is

pub returns-in-Do : goal.returns-in-Do
returns-in-Do t c = do_ends c.args.stmt.now c.in-Do.field-0 c.in-Do.field-1 c.in-Do.is
