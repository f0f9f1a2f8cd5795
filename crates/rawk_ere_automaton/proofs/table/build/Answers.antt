use Rattle.std.proofs.Common.{length, arith, sym, ap, subst}
use Rattle.rawk_ere_automaton.specs.Table.{AreFilled, AreMarkedAlike}
use Rattle.rawk_ere_automaton.proofs.BuildLemmas.{starts_placed, filled_none}
use Rattle.rawk_ere_automaton.proofs.table.build.Goals as goal

pub loop-row-init : goal.loop-row-init
loop-row-init c =
    let code = c.args.code.now in (
      ap length c.new-rows.ensures.items,
      omega arith,
      subst (λ l. AreFilled code c.place-2.new.sets.items l) (sym c.new-rows.ensures.items) (filled_none code c.place-2.new.sets.items),
      starts_placed code c.new-sets.result.items c.place.new.sets.items c.place-2.new.sets.items c.in_ok-first.first.1 c.in_ok-other.other.1 c.in_ok-start.start c.in_ok-later.later c.in_ok-first.ensures c.in_ok-other.ensures c.in_ok-start.ensures c.in_ok-later.ensures,
    )

pub fill-requires-clause-alike : goal.fill-requires-clause-alike
fill-requires-clause-alike c = subst (λ l. AreMarkedAlike c.args.code.now l) (sym c.deref-in-loop-row.ensures.value) c.in_ok-alike.ensures
