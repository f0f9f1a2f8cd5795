use Rattle.std.proofs.Common.{◌≡◌, ◌+◌, ◌-◌, sym, ap, ◌∙◌, arith}
use Rattle.std.specs.Int.{bit_at}
use Rattle.rawk_ere_begins.proofs.block.Block.next.Goals as goal

pub returns : goal.returns
returns c =
    let b = c.args.self.now in
    let from = c.args.from in
    let start = c.if-from-self.false in
    let bits = c.bits_from-marked.ensures in
    let here : from - b.start + c.lowest.result ≡ from + c.lowest.result - b.start = omega (arith, start) in
    record {
      start = omega (arith, start);
      tells = omega (arith, start, c.if-by-ge-PLACES.false);
      low = omega arith;
      here = ap (bit_at b.marked) (sym here) ∙ sym (bits c.lowest.result) ∙ c.lowest.ensures.set;
      before = λ k low high.
          let there : from - b.start + (k - from) ≡ k - b.start = omega (arith, start, low) in
          ap (bit_at b.marked) (sym there) ∙ sym (bits (k - from)) ∙ c.lowest.ensures.below (k - from) (omega (arith, low, high));
    }
