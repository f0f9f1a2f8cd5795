use Rattle.std.proofs.Common.{◌≡◌, ◌+◌, ◌*◌, ◌<◌, inl, inr, length, get_or, arith, sym, ap, ◌∙◌}
use Rattle.std.proofs.lemmas.Bool.{cases_eq}
use Rattle.std.proofs.lemmas.List.{get_or_read}
use Rattle.rawk_ere_automaton.proofs.table.pass_dead.Goals as goal

pub loop-at-preserved : goal.loop-at-preserved
loop-at-preserved c =
    let table = c.args.table.now in
    let at = c.loop-at.at in
    let b = get_or c.args.text.now at 0 in
    let lb : b < 256 = (c.type_inv.text at).fits in
    let within : table.later * 256 + b < length table.next.items = omega (arith, c.requires.row, lb) in
    let to = get_or_read table.next.items (table.later * 256 + b) _ within c.index.ensures 0 in
    λ k low lt. elim (cases_eq k at) [
      | inl is ↦ ap (λ x. get_or table.next.items (table.later * 256 + get_or c.args.text.now x 0) 0) is ∙ sym to ∙ c.if-index-table.false
      | inr other ↦ (let o : k ≡ at → ⊥ = other in c.loop-at.invariant k low (omega (arith, o, lt)))
    ]
