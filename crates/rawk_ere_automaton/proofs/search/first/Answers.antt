use Rattle.std.proofs.Common.{length, arith}
use Rattle.rawk_ere_automaton.proofs.SearchLemmas.{begins_of, none_first, first_longest}
use Rattle.rawk_ere_automaton.proofs.search.first.Goals as goal

pub first_begin-begin-requires-clause-from : goal.first_begin-begin-requires-clause-from
first_begin-begin-requires-clause-from c = (begins_of c.args.code.now c.args.text.now c.args.from (length c.args.text.now) c.in-Some.end c.first_end-found.result c.in-Some.is (omega arith) c.first_end-found.ensures.ends).0

pub first_begin-begin-requires-clause-upto : goal.first_begin-begin-requires-clause-upto
first_begin-begin-requires-clause-upto c = (begins_of c.args.code.now c.args.text.now c.args.from (length c.args.text.now) c.in-Some.end c.first_end-found.result c.in-Some.is (omega arith) c.first_end-found.ensures.ends).1

pub first_begin-begin-requires-clause-some : goal.first_begin-begin-requires-clause-some
first_begin-begin-requires-clause-some c = (begins_of c.args.code.now c.args.text.now c.args.from (length c.args.text.now) c.in-Some.end c.first_end-found.result c.in-Some.is (omega arith) c.first_end-found.ensures.ends).2

pub returns : goal.returns
returns c =
    first_longest c.args.code.now c.args.text.now c.args.from c.first_begin-begin.result c.walk-walked.result.longest c.span.result c.first_begin-begin.ensures.within c.first_begin-begin.ensures.first c.walk-walked.ensures.farthest c.span.ensures

pub returns-in-None : goal.returns-in-None
returns-in-None c = none_first c.args.code.now c.args.text.now c.args.from c.first_end-found.result c.in-None.is c.first_end-found.ensures.ends
