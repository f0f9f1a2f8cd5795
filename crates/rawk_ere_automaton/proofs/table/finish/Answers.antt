use Rattle.std.proofs.Common.{◌≡◌, ◌↔◌, IsTrue, false, length, get_or, sym, ap, subst, ◌∙◌}
use Rattle.rawk_ere_begins.specs.Filters.{AllLeadTo, IsFilter}
use Rattle.rawk_ere_automaton.specs.Table.{AreFilled, IsTable}
use Rattle.rawk_ere_automaton.proofs.BuildLemmas.{some_is}
use Rattle.rawk_ere_automaton.proofs.table.finish.Goals as goal

pub returns-in_ok-stays-in-Some : goal.returns-in_ok-stays-in-Some
returns-in_ok-stays-in-Some c =
    let same : c.in-Some.next.items ≡ c.args.rows.now = c.in_ok-packed.ensures c.in-Some.next c.in-Some.is in
    some_is (IsTable c.args.code.now) _ record {
      sets = c.args.sets.now;
      filled = subst (λ l. AreFilled c.args.code.now c.args.sets.now l) (sym same) c.requires.filled;
      all = ap length same ∙ c.requires.all;
      starts = c.requires.starts;
      ends_all = c.in_ok-ends.ensures.all;
      ends_are = c.in_ok-ends.ensures.each;
      last_all = c.in_ok-last_ends.ensures.all;
      last = c.in_ok-last_ends.ensures.each;
      wants_all = c.in_ok-wants.ensures.all;
      wants_are = c.in_ok-wants.ensures.each;
      stays_all = c.in_ok-stays-in-Some.ensures.all;
      stays_are = λ r lt. subst (λ n. IsTrue (get_or c.in_ok-stays-in-Some.stays.items r false) ↔ AllLeadTo n r r) c.deref.ensures.value (c.in_ok-stays-in-Some.ensures.each r lt);
      none = c.find_dead-dead.ensures;
      begin_with = subst (λ n. IsFilter n c.in_ok-ends.ends.items c.args.later c.find_dead-dead.result c.find_filter-begins.result) c.deref-in-Some.ensures.value
          (subst (λ e. IsFilter c.deref-in-Some.result.now e c.args.later c.find_dead-dead.result c.find_filter-begins.result) c.deref-in-Some-2.ensures.value c.find_filter-begins.ensures);
    }
