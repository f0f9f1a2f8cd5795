use Rattle.std.proofs.Common.{◌+◌, ◌-◌, ◌*◌, ◌<◌, ◌≡◌, ◌∙◌, inl, inr, None, false, length, get_or, arith, sym, subst, refl, ap}
use Rattle.std.proofs.lemmas.List.{get_or_read}
use Rattle.rawk_ere_automaton.specs.Table.{IsTable}
use Rattle.rawk_ere_automaton.proofs.TableLemmas.{Running, Lagging, running_start, lagging_from, lagging_stay, lagging_stays, lagging_leave, lagging_end, farthest_dead}
use Rattle.rawk_ere_automaton.proofs.table.run.Goals as goal
use Rattle.rawk_ere_automaton.proofs.table.run.Goals.{then-from-eq0, else-from-eq0, then-to-row+else-to-table+else-index, else-to-row}

pub loop-at-init : goal.loop-at-init
loop-at-init c =
    let table = c.args.table.now in
    let row = c.if-from-eq0.row in
    let runs = λ (t : IsTable c.args.code.now table). lagging_from c.args.code.now c.args.text.now t.sets table.ends.items c.args.from c.args.from row None
    (running_start c.args.code.now c.args.text.now t.sets table.start table.later c.args.from row t.starts
    (elim c.if-from-eq0.branch [ then-from-eq0 w ↦ inl (w.if-from-eq0.true, w.row-is) | else-from-eq0 w ↦ inr (w.if-from-eq0.false, w.row-is) ])) in
    record { within = omega (arith, (runs c.requires.table).runs.within, c.requires.table.ends_all); runs = runs }

pub loop-at-preserved : goal.loop-at-preserved
loop-at-preserved c =
    let code = c.args.code.now in
    let text = c.args.text.now in
    let table = c.args.table.now in
    let at = c.loop-at.at in
    let row = c.loop-at.row in
    let b = get_or text at 0 in
    let lb : b < 256 = (c.type_inv.text at).fits in
    let known = c.requires.table in
    let next = ap (λ l. get_or l (row * 256 + b) 0) c.as_slice-next.ensures.value in
    let ends = ap (λ l. get_or l row false) c.as_slice-ends.ensures.value in
    let runs = λ (t : IsTable code table). elim c.if-to-row.branch as (λ _. Lagging code text t.sets table.ends.items c.args.from (at + 1) c.if-to-row.row c.if-to-row.longest) [
      | then-to-row+else-to-table+else-index w ↦
          let r = lagging_leave code text table t c.args.from at row b c.if-to-row.row c.loop-at.longest w.marked-longest.result (get_or c.as_slice-ends.result.now row false) (omega arith) (omega arith) refl lb (w.row-is ∙ next) (sym ends)
          w.marked-longest.ensures (c.loop-at.invariant.runs t) in
          lagging_from code text t.sets table.ends.items c.args.from (at + 1) c.if-to-row.row c.if-to-row.longest (subst (Running code text t.sets c.args.from (at + 1) c.if-to-row.row) (sym w.longest-is) r)
      | else-to-row w ↦ subst (λ x. Lagging code text t.sets table.ends.items c.args.from (at + 1) x c.if-to-row.longest) (sym w.row-is)
          (subst (Lagging code text t.sets table.ends.items c.args.from (at + 1) row) (sym w.longest-is)
          (lagging_stay code text table t c.args.from at row b c.loop-at.longest (omega arith) (omega arith) refl lb (sym w.if-to-row.false ∙ next) (c.loop-at.invariant.runs t)))
    ] in
    record { within = omega (arith, (runs known).runs.within, known.ends_all); runs = runs }

pub returns-then-to-table-clause-farthest : goal.returns-then-to-table-clause-farthest
returns-then-to-table-clause-farthest c =
    let code = c.args.code.now in
    let text = c.args.text.now in
    let table = c.args.table.now in
    let t = c.requires.table in
    let at = c.loop-at.at in
    let row = c.loop-at.row in
    let b = get_or text at 0 in
    let lb : b < 256 = (c.type_inv.text at).fits in
    let next = ap (λ l. get_or l (row * 256 + b) 0) c.as_slice-next.ensures.value in
    let ends = ap (λ l. get_or l row false) c.as_slice-ends.ensures.value in
    let r = lagging_leave code text table t c.args.from at row b table.dead c.loop-at.longest c.marked-longest.result (get_or c.as_slice-ends.result.now row false) (omega arith) (omega arith) refl lb (sym c.if-to-table.true ∙ next) (sym ends)
    c.marked-longest.ensures (c.loop-at.invariant.runs t) in
    farthest_dead code text table t c.args.from (at + 1) c.marked-longest.result (omega arith) (omega arith) r

pub returns-clause-farthest : goal.returns-clause-farthest
returns-clause-farthest c =
    let code = c.args.code.now in
    let text = c.args.text.now in
    let table = c.args.table.now in
    let t = c.requires.table in
    let row = c.loop-at.row in
    let end = length text in
    let e : c.loop-at.at ≡ end = omega arith in
    let l = subst (λ a. Lagging code text t.sets table.ends.items c.args.from a row c.loop-at.longest) e (c.loop-at.invariant.runs t) in
    let read = get_or_read table.last_ends.items row _ (omega (arith, l.runs.within, t.last_all)) c.index-2.ensures false in
    lagging_end code text table t c.args.from end row c.loop-at.longest c.marked-longest-2.result c.index-2.result.now c.requires.within c.requires.some refl (sym read) c.marked-longest-2.ensures l

pub returns-then-index-clause-farthest : goal.returns-then-index-clause-farthest
returns-then-index-clause-farthest c =
    let code = c.args.code.now in
    let text = c.args.text.now in
    let table = c.args.table.now in
    let t = c.requires.table in
    let from = c.args.from in
    let at = c.loop-at.at in
    let row = c.loop-at.row in
    let end = length text in
    let b = get_or text at 0 in
    let lb : b < 256 = (c.type_inv.text at).fits in
    let to = get_or c.as_slice-next.result.now (row * 256 + b) 0 in
    let next = ap (λ l. get_or l (row * 256 + b) 0) c.as_slice-next.ensures.value in
    let ends = ap (λ l. get_or l row false) c.as_slice-ends.ensures.value in
    let longest = c.marked-longest.result in
    let r = lagging_leave code text table t from at row b to c.loop-at.longest longest (get_or c.as_slice-ends.result.now row false) (omega arith) (omega arith) refl lb next (sym ends) c.marked-longest.ensures (c.loop-at.invariant.runs t) in
    let stays = get_or_read table.stays.items to _ (omega (arith, r.within, t.stays_all)) c.index.ensures false in
    let far = lagging_stays code text table t from to longest ((t.stays_are to r.within).0 (sym stays ∙ c.if-index.true)) (λ k. (c.type_inv.text k).fits) (end - (at + 1)) (at + 1) (omega arith) (omega arith)
    (lagging_from code text t.sets table.ends.items from (at + 1) to longest r) in
    let there : at + 1 + (end - (at + 1)) ≡ end = omega arith in
    let read = get_or_read table.last_ends.items to _ (omega (arith, r.within, t.last_all)) c.index-then-index.ensures false in
    lagging_end code text table t from end to longest c.marked.result c.index-then-index.result.now c.requires.within c.requires.some refl (sym read) c.marked.ensures
    (subst (λ k. Lagging code text t.sets table.ends.items from k to longest) there far)
