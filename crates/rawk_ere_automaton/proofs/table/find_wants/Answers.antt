use Rattle.std.proofs.Common.{ℕ, List, [], ◌<◌, length, arith, subst}
use Rattle.std.specs.Prelude.{◌↔◌, IsTrue}
use Rattle.std.proofs.lemmas.List.{get_or_read}
use Rattle.rawk_ere_walks.specs.Sets.{AsksIn}
use Rattle.rawk_ere_automaton.specs.Table.{members}
use Rattle.rawk_ere_automaton.proofs.BuildLemmas.{marks_more}
use Rattle.rawk_ere_automaton.proofs.table.find_wants.Goals as goal

pub loop-index-preserved : goal.loop-index-preserved
loop-index-preserved c =
    let sets = c.args.sets.now in
    let code = c.args.code.now in
    let index = c.loop-index.index in
    let lt : index < length sets = omega arith in
    let here = subst (λ (set : ℕ × List ℕ). IsTrue c.asks_in.result ↔ AsksIn code set.1) (get_or_read sets index _ lt c.index-sets-index.is (0, [])) c.asks_in.ensures in
    marks_more (λ r. AsksIn code (members sets r)) c.loop-index.found.items c.push.new.self.items index c.asks_in.result c.in_ok-push.ensures.items here c.loop-index.invariant
