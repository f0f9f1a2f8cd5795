use Rattle.std.proofs.Common.{◌≡◌, ◌+◌, ◌-◌, ◌∙◌, ℕ, List, [], length, get_or, refl, sym, subst, arith}
use Rattle.std.proofs.lemmas.List.{get_or_read}
use Rattle.rawk_ere_automaton.specs.Table.{LeadsBy}
use Rattle.rawk_ere_automaton.proofs.BuildLemmas.{target_alike, target_placed}
use Rattle.rawk_ere_automaton.proofs.table.target.Goals as goal

pub returns-then-next-gt0 : goal.returns-then-next-gt0
returns-then-next-gt0 c =
    let next = c.args.next.now in
    let k = length next - 1 in
    let ek : k + 1 ≡ length next = omega arith in
    target_alike c.args.code.now c.args.alike.now c.args.sets.now.items next c.args.row c.args.byte k (get_or next k 0) c.requires.alike (sym c.is_alike.ensures ∙ c.if-is_alike.true) c.requires.done (omega arith) ek refl c.requires.filled

pub returns : goal.returns
returns c =
    let sets = c.args.sets.now.items in
    let read = get_or_read sets c.args.row _ c.requires.within c.index.ensures (0, []) in
    let leads = subst (λ (p : ℕ × List ℕ). LeadsBy c.args.code.now c.args.byte p.1 c.in_ok-to.to.1) read c.in_ok-to.ensures in
    target_placed c.args.code.now sets c.place.new.sets.items c.args.row c.args.byte c.in_ok-index.index c.in_ok-to.to.1 leads c.in_ok-index.ensures
