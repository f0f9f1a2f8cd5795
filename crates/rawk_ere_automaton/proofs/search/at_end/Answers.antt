use Rattle.std.proofs.Common.{length, arith}
use Rattle.rawk_ere_automaton.proofs.SearchLemmas.{found_none, found_here}
use Rattle.rawk_ere_automaton.proofs.search.at_end.Goals as goal

pub returns-in-None : goal.returns-in-None
returns-in-None c = found_none c.args.code.now c.args.text.now c.args.from c.run-ran.result.longest c.in-None.is c.requires.none c.run-ran.ensures.farthest

pub returns-in-Some : goal.returns-in-Some
returns-in-Some c =
    found_here c.args.code.now c.args.text.now c.args.from (length c.args.text.now) c.in-Some.end c.run-ran.result.longest c.in-Some.is c.requires.within (omega arith) c.requires.none c.run-ran.ensures.farthest
