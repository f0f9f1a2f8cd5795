use Rattle.std.proofs.Common.{◌≡◌, ◌+◌, ◌*◌, ◌<◌, inl, inr, false, None, length, get_or, arith, sym, subst, refl, ap, ◌∙◌, true≢false}
use Rattle.std.proofs.lemmas.Bool.{true_from_ne_false}
use Rattle.std.proofs.lemmas.List.{get_or_read}
use Rattle.rawk_ere_automaton.specs.Table.{members, EndsLast, IsTable}
use Rattle.rawk_ere_automaton.proofs.TableLemmas.{Running, running_start, running_on, running_mark, running_end, unmarked_next, running_way_last, farthest_dead}
use Rattle.rawk_ere_automaton.proofs.table.first_stop.Goals as goal
use Rattle.rawk_ere_automaton.proofs.table.first_stop.Goals.{then-from-eq0, else-from-eq0, then-to-row+else-index-2+else-to-table, else-to-row}

pub returns-then-index-clause-way : goal.returns-then-index-clause-way
returns-then-index-clause-way c =
    let code = c.args.code.now in
    let text = c.args.text.now in
    let table = c.args.table.now in
    let t = c.requires.table in
    let row = c.if-from-eq0.row in
    let r = running_start code text t.sets table.start table.later c.args.from row t.starts
    (elim c.if-from-eq0.branch [ then-from-eq0 w ↦ inl (w.if-from-eq0.true, w.row-is) | else-from-eq0 w ↦ inr (w.if-from-eq0.false, w.row-is) ]) in
    let read = get_or_read table.ends.items row _ (omega (arith, r.within, t.ends_all)) c.index.ensures false in
    (λ h. (c.args.from, running_mark code text table t c.args.from c.args.from row None (omega arith) c.requires.within c.requires.some (sym read ∙ c.if-index.true) r), λ w. refl)

pub loop-at-init : goal.loop-at-init
loop-at-init c =
    let table = c.args.table.now in
    let known = c.requires.table in
    let row = c.if-from-eq0.row in
    let runs = λ (t : IsTable c.args.code.now table). running_start c.args.code.now c.args.text.now t.sets table.start table.later c.args.from row t.starts
    (elim c.if-from-eq0.branch [ then-from-eq0 w ↦ inl (w.if-from-eq0.true, w.row-is) | else-from-eq0 w ↦ inr (w.if-from-eq0.false, w.row-is) ]) in
    let within : row < length table.ends.items = omega (arith, (runs known).within, known.ends_all) in
    let read = get_or_read table.ends.items row _ within c.index.ensures false in
    record { within = within; none = sym read ∙ c.if-index.false; runs = runs }

pub returns-then-index-2-clause-way : goal.returns-then-index-2-clause-way
returns-then-index-2-clause-way c =
    let code = c.args.code.now in
    let text = c.args.text.now in
    let table = c.args.table.now in
    let t = c.requires.table in
    let at = c.loop-at.at in
    let row = c.loop-at.row in
    let b = get_or text at 0 in
    let to = get_or c.as_slice-next.result.now (row * 256 + b) 0 in
    let lb : b < 256 = (c.type_inv.text at).fits in
    let next = ap (λ l. get_or l (row * 256 + b) 0) c.as_slice-next.ensures.value in
    let r = running_on code text table t c.args.from at row b to None (omega arith) (omega arith) refl lb next c.loop-at.invariant.none (c.loop-at.invariant.runs t) in
    let read = get_or_read table.ends.items to _ (omega (arith, r.within, t.ends_all)) c.index-then-to-row.ensures false in
    (λ h. (at + 1, running_mark code text table t c.args.from (at + 1) to None (omega arith) (omega arith) c.requires.some (sym read ∙ c.if-index-2.true) r), λ w. refl)

pub returns-then-to-table-clause-way : goal.returns-then-to-table-clause-way
returns-then-to-table-clause-way c =
    let code = c.args.code.now in
    let text = c.args.text.now in
    let table = c.args.table.now in
    let t = c.requires.table in
    let at = c.loop-at.at in
    let row = c.loop-at.row in
    let b = get_or text at 0 in
    let lb : b < 256 = (c.type_inv.text at).fits in
    let next = ap (λ l. get_or l (row * 256 + b) 0) c.as_slice-next.ensures.value in
    let r = running_on code text table t c.args.from at row b table.dead None (omega arith) (omega arith) refl lb (sym c.if-to-table.true ∙ next) c.loop-at.invariant.none (c.loop-at.invariant.runs t) in
    let f = farthest_dead code text table t c.args.from (at + 1) None (omega arith) (omega arith) r in
    (λ h. absurd (true≢false (sym h)), λ w. absurd (f w.0 w.1.0 w.1.1))

pub loop-at-preserved : goal.loop-at-preserved
loop-at-preserved c =
    let table = c.args.table.now in
    let known = c.requires.table in
    let row = c.loop-at.row in
    let b = get_or c.args.text.now c.loop-at.at 0 in
    let lb : b < 256 = (c.type_inv.text c.loop-at.at).fits in
    let next = ap (λ l. get_or l (row * 256 + b) 0) c.as_slice-next.ensures.value in
    let to = get_or c.as_slice-next.result.now (row * 256 + b) 0 in
    let runs = λ (t : IsTable c.args.code.now table).
    running_on c.args.code.now c.args.text.now table t c.args.from c.loop-at.at row b to None (omega arith) (omega arith) refl lb next c.loop-at.invariant.none (c.loop-at.invariant.runs t) in
    let within : to < length table.ends.items = omega (arith, (runs known).within, known.ends_all) in
    let step = unmarked_next c.args.code.now c.args.text.now table row to c.if-to-row.row c.loop-at.invariant.none (elim c.if-to-row.branch [
      | then-to-row+else-index-2+else-to-table w ↦ inl (w.row-is, sym (get_or_read table.ends.items to _ within w.index-then-to-row.ensures false) ∙ w.if-index-2.false)
      | else-to-row w ↦ inr (w.row-is, w.if-to-row.false)
    ]) in
    record {
      within = omega (arith, within, step.0);
      none = step.1;
      runs = λ t. subst (λ x. Running c.args.code.now c.args.text.now t.sets c.args.from (c.loop-at.at + 1) x None) (sym step.0) (runs t);
    }

pub returns-clause-way : goal.returns-clause-way
returns-clause-way c =
    let t = c.requires.table in
    let table = c.args.table.now in
    let code = c.args.code.now in
    let text = c.args.text.now in
    let end = length text in
    let e : c.loop-at.at ≡ end = omega arith in
    let r = subst (λ a. Running code text t.sets c.args.from a c.loop-at.row None) e (c.loop-at.invariant.runs t) in
    let read = get_or_read table.last_ends.items c.loop-at.row _ (omega (arith, r.within, t.last_all)) c.index-2.ensures false in
    let last = subst (λ x. EndsLast code (members t.sets c.loop-at.row) x) (sym read) (t.last c.loop-at.row r.within) in (
      λ h. (end, running_way_last code text t.sets c.args.from end c.loop-at.row None c.index-2.result.now last c.requires.within c.requires.some refl h r),
      λ w. true_from_ne_false c.index-2.result.now (λ no. running_end code text t.sets c.args.from end c.loop-at.row None None c.index-2.result.now last c.requires.within c.requires.some refl r (inr (λ h. true≢false (sym h ∙ no), refl)) w.0 w.1.0 w.1.1),
    )
