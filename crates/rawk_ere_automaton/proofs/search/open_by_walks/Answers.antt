use Rattle.rawk_ere_automaton.proofs.SearchLemmas.{asks_or_ahead, at_not_after}
use Rattle.rawk_ere_automaton.proofs.search.open_by_walks.Goals as goal

pub returns : goal.returns
returns c =
    let code = c.args.code.now in
    let text = c.args.text.now in
    let begin = c.first_may-begin in
    let walked = c.walk-walked in (
      (
        begin.ensures.low,
        begin.ensures.high,
        begin.ensures.none,
        walked.ensures.farthest,
        walked.ensures.asks,
        asks_or_ahead code text begin.result walked.result.longest walked.result.asks walked.ensures.farthest walked.ensures.asks begin.ensures.here,
      ),
      λ at e. absurd (at_not_after begin.result walked.result.longest walked.result.asks at e),
    )
