use Rattle.rawk_expression.specs.Complete.{whole_complete, place_complete, printed_complete}
use Rattle.rawk_expression.proofs.laws.complete.Goals as goal

pub returns : goal.returns
returns c = record { whole = whole_complete; place = place_complete; printed = printed_complete }
