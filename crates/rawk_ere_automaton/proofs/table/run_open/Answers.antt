use Rattle.std.proofs.Common.{◌≡◌, ◌+◌, ◌*◌, ◌<◌, inl, inr, false, length, get_or, arith, sym, subst, refl}
use Rattle.std.specs.Prelude.{◌↔◌, IsTrue, Contains}
use Rattle.std.proofs.lemmas.List.{get_or_read}
use Rattle.rawk_ere_walks.specs.Sets.{AsksIn, AreReached}
use Rattle.rawk_ere_automaton.specs.Table.{members, IsTable}
use Rattle.rawk_ere_walks.specs.WalkLemmas.{farthest_stop, wants_none, wants_in}
use Rattle.rawk_ere_automaton.proofs.TableLemmas.{OpenRunning, open_running_start, open_running_next, open_running_end}
use Rattle.rawk_ere_automaton.proofs.table.run_open.Goals as goal
use Rattle.rawk_ere_automaton.proofs.table.run_open.Goals.{then-from-eq0, else-from-eq0}

pub loop-at-init : goal.loop-at-init
loop-at-init c =
    let table = c.args.table.now in
    let runs = λ (t : IsTable c.args.code.now table). open_running_start c.args.code.now c.args.text.now t.sets table.start table.later c.args.from c.if-from-eq0.row t.starts
    (elim c.if-from-eq0.branch [ then-from-eq0 w ↦ inl (w.if-from-eq0.true, w.row-is) | else-from-eq0 w ↦ inr (w.if-from-eq0.false, w.row-is) ]) in
    record { within = omega (arith, (runs c.requires.table).within, c.requires.table.ends_all); runs = runs }

pub loop-at-preserved : goal.loop-at-preserved
loop-at-preserved c =
    let table = c.args.table.now in
    let row = c.loop-at.row in
    let b = get_or c.args.text.now c.loop-at.at 0 in
    let lb : b < 256 = (c.type_inv.text c.loop-at.at).fits in
    let known = c.requires.table in
    let lr = c.loop-at.invariant.within in
    let within : row * 256 + b < length table.next.items = omega (arith, lr, known.all, known.ends_all, lb) in
    let to = get_or_read table.next.items (row * 256 + b) _ within c.index-in-loop-at.ensures 0 in
    let ends = get_or_read table.ends.items row _ lr c.index.ensures false in
    let runs = λ (t : IsTable c.args.code.now table).
    let r = c.loop-at.invariant.runs t in
    open_running_next c.args.code.now c.args.text.now t.sets table.next.items c.args.from c.loop-at.at row b c.index-in-loop-at.result.now c.loop-at.longest c.marked-longest.result c.index.result.now t.filled t.all
    (omega arith) (omega arith) refl lb to (subst (λ x. IsTrue x ↔ Contains (members t.sets row) (length c.args.code.now)) (sym ends) (t.ends_are row r.within)) c.marked-longest.ensures r in
    record { within = omega (arith, (runs known).within, known.ends_all); runs = runs }

pub returns-then-row-table-clause-farthest : goal.returns-then-row-table-clause-farthest
returns-then-row-table-clause-farthest c =
    let t = c.requires.table in
    let dead = c.args.table.now.dead in
    let r = subst (λ x. OpenRunning c.args.code.now c.args.text.now t.sets c.args.from c.loop-at.at x c.loop-at.longest) c.if-row-table.true (c.loop-at.invariant.runs t) in
    farthest_stop c.args.code.now false c.args.text.now c.args.from c.loop-at.at (members t.sets dead) c.loop-at.longest (omega arith) (t.none r.within) r.reached r.before

pub returns-then-row-table-clause-asks : goal.returns-then-row-table-clause-asks
returns-then-row-table-clause-asks c =
    let t = c.requires.table in
    let dead = c.args.table.now.dead in
    let r = subst (λ x. OpenRunning c.args.code.now c.args.text.now t.sets c.args.from c.loop-at.at x c.loop-at.longest) c.if-row-table.true (c.loop-at.invariant.runs t) in
    wants_none c.args.code.now false c.args.text.now c.args.from c.loop-at.at (members t.sets dead) (omega arith) (omega arith) (t.none r.within) r.reached

pub returns-clause-farthest : goal.returns-clause-farthest
returns-clause-farthest c =
    let t = c.requires.table in
    let table = c.args.table.now in
    let end = length c.args.text.now in
    let e : c.loop-at.at ≡ end = omega arith in
    let r = subst (λ a. OpenRunning c.args.code.now c.args.text.now t.sets c.args.from a c.loop-at.row c.loop-at.longest) e (c.loop-at.invariant.runs t) in
    let read = get_or_read table.ends.items c.loop-at.row _ c.loop-at.invariant.within c.index-2.ensures false in
    open_running_end c.args.code.now c.args.text.now t.sets c.args.from end c.loop-at.row c.loop-at.longest c.marked-longest-2.result c.index-2.result.now c.requires.within refl
    (subst (λ x. IsTrue x ↔ Contains (members t.sets c.loop-at.row) (length c.args.code.now)) (sym read) (t.ends_are c.loop-at.row r.within)) c.marked-longest-2.ensures r

pub returns-clause-asks : goal.returns-clause-asks
returns-clause-asks c =
    let t = c.requires.table in
    let table = c.args.table.now in
    let e : c.loop-at.at ≡ length c.args.text.now = omega arith in
    let r = c.loop-at.invariant.runs t in
    let reached = subst (λ a. AreReached c.args.code.now false c.args.text.now c.args.from a (members t.sets c.loop-at.row)) e r.reached in
    let read = get_or_read table.wants.items c.loop-at.row _ (omega (arith, r.within, t.wants_all)) c.index-3.ensures false in
    wants_in c.args.code.now false c.args.text.now c.args.from (members t.sets c.loop-at.row) c.index-3.result.now reached (subst (λ x. IsTrue x ↔ AsksIn c.args.code.now (members t.sets c.loop-at.row)) (sym read) (t.wants_are c.loop-at.row r.within))
