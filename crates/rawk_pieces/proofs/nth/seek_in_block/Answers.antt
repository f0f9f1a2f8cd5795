use Rattle.std.proofs.Common.{◌≡◌, ◌+◌, ℕ, Bool, None, Some, max, min, length, arith, subst}
use Rattle.rawk_pieces.specs.Masks.{IsMaskFrom}
use Rattle.rawk_pieces.specs.Nth.{IsCounted, IsPassed}
use Rattle.rawk_pieces.proofs.Masks.{IsMaskFrom-next}
use Rattle.rawk_pieces.proofs.Cuts.{IsCut-block, IsCut-to_bit}
use Rattle.rawk_pieces.proofs.Nths.{counted_end, counted_found, counted_skip}
use Rattle.rawk_pieces.proofs.nth.seek_in_block.Goals as goal

pub returns-in-None : goal.returns-in-None
returns-in-None g c =
    let p : ℕ → Bool = g.C.Class.contains c.args.class.now in
    let text = c.args.text.now in
    let inv = c.loop-rest.invariant in
    let from : ℕ = max c.loop-rest.start c.args.at in
    let bit = c.lowest_bit-bit.result in
    let low = c.lowest_bit-bit.ensures in
    let found = inv.bits.marks bit low.set in
    let to_bit = IsCut-to_bit p c.args.empty_too text inv.counted.pieces c.loop-rest.start c.args.at from c.loop-rest.rest bit inv.counted.cut (omega arith) inv.bits low.set low.below in
    let counted = counted_skip p c.args.empty_too text c.args.place c.loop-rest.start from (c.args.at + bit) c.loop-rest.left inv.counted to_bit in
    counted_found p c.args.empty_too text c.args.place c.loop-rest.start (c.args.at + bit) c.loop-rest.left counted found.1 found.3 (subst (λ b. IsPassed b c.loop-rest.left None) c.counts.ensures c.in-None.ensures)

pub loop-rest-preserved : goal.loop-rest-preserved
loop-rest-preserved g c =
    let p : ℕ → Bool = g.C.Class.contains c.args.class.now in
    let text = c.args.text.now in
    let inv = c.loop-rest.invariant in
    let from : ℕ = max c.loop-rest.start c.args.at in
    let bit = c.lowest_bit-bit.result in
    let low = c.lowest_bit-bit.ensures in
    let found = inv.bits.marks bit low.set in
    let e : c.args.at + bit + 1 ≡ max (c.args.at + bit + 1) c.args.at = omega arith in
    let to_bit = IsCut-to_bit p c.args.empty_too text inv.counted.pieces c.loop-rest.start c.args.at from c.loop-rest.rest bit inv.counted.cut (omega arith) inv.bits low.set low.below in
    let counted = counted_skip p c.args.empty_too text c.args.place c.loop-rest.start from (c.args.at + bit) c.loop-rest.left inv.counted to_bit in
    let w = c.without_bit-rest.ensures in
    record {
      counted = subst (λ n. IsCounted p c.args.empty_too text c.args.place (c.args.at + bit + 1) n c.in-Some.more) e
          (counted_end p c.args.empty_too text c.args.place c.loop-rest.start (c.args.at + bit) c.loop-rest.left c.in-Some.more counted found.1 found.3 (subst (λ b. IsPassed b c.loop-rest.left (Some c.in-Some.more)) c.counts.ensures c.in-Some.ensures));
      bits = subst (λ n. IsMaskFrom p text c.args.at n c.without_bit-rest.result) e
          (IsMaskFrom-next p text c.args.at from c.loop-rest.rest c.without_bit-rest.result bit inv.bits low.below w.cleared w.kept w.none_new found.2);
      near = omega (arith, found.0);
    }

pub returns : goal.returns
returns g c =
    let p : ℕ → Bool = g.C.Class.contains c.args.class.now in
    let text = c.args.text.now in
    let inv = c.loop-rest.invariant in
    counted_skip p c.args.empty_too text c.args.place c.loop-rest.start (max c.loop-rest.start c.args.at) (min (c.args.at + 32) (length text)) c.loop-rest.left inv.counted
    (IsCut-block p c.args.empty_too text inv.counted.pieces c.loop-rest.start c.args.at c.loop-rest.rest inv.counted.cut inv.bits c.loop-rest-test.false c.requires.inside inv.near)
