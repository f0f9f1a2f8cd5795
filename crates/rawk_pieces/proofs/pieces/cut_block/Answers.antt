use Rattle.std.proofs.Common.{◌≡◌, ◌+◌, ℕ, Bool, max, arith, subst}
use Rattle.rawk_pieces.specs.Masks.{IsMaskFrom}
use Rattle.rawk_pieces.specs.Pieces.{IsCut}
use Rattle.rawk_pieces.proofs.Masks.{IsMaskFrom-next}
use Rattle.rawk_pieces.proofs.Cuts.{IsCut-block, IsCut-to_bit, IsCut-end}
use Rattle.rawk_pieces.proofs.pieces.cut_block.Goals as goal

pub loop-rest-preserved : goal.loop-rest-preserved
loop-rest-preserved g c =
    let p : ℕ → Bool = g.C.Class.contains c.args.class.now in
    let text = c.args.text.now in
    let inv = c.loop-rest.invariant in
    let from : ℕ = max c.loop-rest.start c.args.at in
    let bit = c.lowest_bit-bit.result in
    let low = c.lowest_bit-bit.ensures in
    let found = inv.bits.marks bit low.set in
    let e : c.args.at + bit + 1 ≡ max (c.args.at + bit + 1) c.args.at = omega arith in
    let to_bit = IsCut-to_bit p c.args.empty_too text c.loop-rest.pieces.items c.loop-rest.start c.args.at from c.loop-rest.rest bit inv.cut (omega arith) inv.bits low.set low.below in
    let w = c.without_bit-rest.ensures in
    record {
      cut = subst (λ n. IsCut p c.args.empty_too text c.end_run_reserved.new.pieces.items (c.args.at + bit + 1) n) e
          (IsCut-end p c.args.empty_too text c.loop-rest.pieces.items c.end_run_reserved.new.pieces.items c.loop-rest.start (c.args.at + bit) to_bit found.1 found.3 c.end_run_reserved.ensures.items);
      bits = subst (λ n. IsMaskFrom p text c.args.at n c.without_bit-rest.result) e
          (IsMaskFrom-next p text c.args.at from c.loop-rest.rest c.without_bit-rest.result bit inv.bits low.below w.cleared w.kept w.none_new found.2);
      near = omega (arith, found.0);
      room = omega (arith, inv.room, found.0, found.2, c.end_run_reserved.ensures.len, c.end_run_reserved.ensures.capacity);
    }

pub returns : goal.returns
returns g c =
    let inv = c.loop-rest.invariant in
    IsCut-block (g.C.Class.contains c.args.class.now) c.args.empty_too c.args.text.now c.loop-rest.pieces.items c.loop-rest.start c.args.at c.loop-rest.rest inv.cut inv.bits c.loop-rest-test.false c.requires.inside inv.near
