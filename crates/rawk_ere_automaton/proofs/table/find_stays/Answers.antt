use Rattle.rawk_ere_begins.specs.Filters.{AllLeadTo}
use Rattle.rawk_ere_automaton.proofs.BuildLemmas.{marks_more}
use Rattle.rawk_ere_automaton.proofs.table.find_stays.Goals as goal

pub loop-row-preserved : goal.loop-row-preserved
loop-row-preserved c =
    let row = c.loop-row.row in
    marks_more (λ r. AllLeadTo c.args.next.now r r) c.loop-row.found.items c.push.new.self.items row c.all_lead_to.result c.in_ok-push.ensures.items c.all_lead_to.ensures c.loop-row.invariant
