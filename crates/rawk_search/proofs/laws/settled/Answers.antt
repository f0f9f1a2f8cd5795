use Rattle.rawk_search.specs.Laws.{open_closed, open_longer}
use Rattle.rawk_search.proofs.laws.settled.Goals as goal

pub returns : goal.returns
returns c = record { found = open_closed; stays = open_longer }
