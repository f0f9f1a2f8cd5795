use Rattle.std.proofs.Common.{◌≡◌, ◌∙◌, arith, Bool, nat_eq}
use Rattle.std.specs.Prelude.{not}
use Rattle.std.specs.Bool.{OnTrue}
use Rattle.rawk_slots.specs.Saving.{OnTrue-both}
use Rattle.rawk_arrays.proofs.Emptying.{walk_on, walk_in, walks_to, emptying_next, emptied, falls, not_some}
use Rattle.rawk_arrays.proofs.cells.empty.Goals as goal

still : {A : Type 0} (b : Bool) (x y z : A) → OnTrue b (y ≡ x) → OnTrue b (z ≡ y) → OnTrue b (z ≡ x)
still b x y z h k = OnTrue-both b (y ≡ x) (z ≡ y) (z ≡ x) (λ p q. q ∙ p) h k

pub loop-at-smaller : goal.loop-at-smaller
loop-at-smaller g c =
    let index = c.args.index.now in
    let last = walk_on c.args.array index c.in-Some.number c.loop-at.at c.earlier-at.result c.in-Some.is c.loop-at.invariant.walking c.earlier-at.ensures in
    falls c.args.array index c.in-Some.number c.loop-at.at c.earlier-at.result c.in-Some.is last

pub loop-at-preserved : goal.loop-at-preserved
loop-at-preserved g c =
    let index = c.args.index.now in
    let i = c.in-Some.number in
    let inv = c.loop-at.invariant in
    let last = walk_on c.args.array index i c.loop-at.at c.earlier-at.result c.in-Some.is inv.walking c.earlier-at.ensures in
    let within = walk_in c.args.array index i c.loop-at.at c.in-Some.is inv.walking in
    record {
      walking = walks_to c.args.array index i c.earlier-at.result (omega (arith, within)) last;
      emptying = emptying_next c.args.array index c.args.cells.now.now c.loop-at.cells.now c.empty_slot.new.cells.now i c.loop-at.at c.earlier-at.result c.in-Some.is inv.walking inv.emptying c.in_ok-empty_slot.ensures.did last;
      laid = c.empty_slot.ensures.laid;
      counted = c.empty_slot.ensures.counted;
      size = c.empty_slot.ensures.size ∙ inv.size;
      start = still (not (nat_eq g.row.SAVES 0)) c.args.cells.now.start c.loop-at.cells.start c.empty_slot.new.cells.start inv.start c.empty_slot.ensures.start;
    }

pub returns-clause-did : goal.returns-clause-did
returns-clause-did g c = emptied c.args.array c.args.index.now c.args.cells.now.now c.loop-at.cells.now c.loop-at.at (not_some c.loop-at.at c.in_default.not-Some) c.requires.laid.array_key c.loop-at.invariant.emptying
