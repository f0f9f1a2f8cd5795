use Rattle.std.proofs.Common.{length, arith}
use Rattle.rawk_ere_automaton.proofs.SearchLemmas.{begins_of, begins_left, found_from}
use Rattle.rawk_ere_automaton.proofs.search.resume.Goals as goal

pub overflow_sub-end : goal.overflow_sub-end
overflow_sub-end c = (begins_of c.args.code.now c.args.text.now c.args.from (length c.args.text.now) c.in-Some.end c.in_ok-passed.passed c.in-Some.is (omega arith) c.in_ok-passed.ensures).0

pub halve-requires-clause-from : goal.halve-requires-clause-from
halve-requires-clause-from c =
    (begins_left c.args.code.now c.args.text.now c.args.from c.in-Paused.at (length c.args.text.now) c.in-Some.end c.in_ok-passed.passed c.in-Some.is (omega arith) c.in_ok-passed.ensures c.in-Paused.ensures.progress.2).0

pub halve-requires-clause-upto : goal.halve-requires-clause-upto
halve-requires-clause-upto c =
    (begins_left c.args.code.now c.args.text.now c.args.from c.in-Paused.at (length c.args.text.now) c.in-Some.end c.in_ok-passed.passed c.in-Some.is (omega arith) c.in_ok-passed.ensures c.in-Paused.ensures.progress.2).1

pub halve-requires-clause-some : goal.halve-requires-clause-some
halve-requires-clause-some c =
    (begins_left c.args.code.now c.args.text.now c.args.from c.in-Paused.at (length c.args.text.now) c.in-Some.end c.in_ok-passed.passed c.in-Some.is (omega arith) c.in_ok-passed.ensures c.in-Paused.ensures.progress.2).2

pub returns-in_ok-found-in-Paused-clause-found : goal.returns-in_ok-found-in-Paused-clause-found
returns-in_ok-found-in-Paused-clause-found c =
    found_from c.args.code.now c.args.text.now c.args.from c.in-Paused.at c.in_ok-found-in-Paused.found c.in-Paused.ensures.progress.0 c.in-Paused.ensures.progress.2 c.in_ok-found-in-Paused.ensures
