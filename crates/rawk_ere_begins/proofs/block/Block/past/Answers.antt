use Rattle.std.proofs.Common.{◌≡◌, ◌+◌, ◌-◌, sym, ap, ◌∙◌, arith}
use Rattle.std.specs.Int.{bit_at}
use Rattle.std.proofs.lemmas.Nat.Bits.{bit_at-zero}
use Rattle.rawk_ere_begins.proofs.block.Block.past.Goals as goal

pub returns-clause-passed : goal.returns-clause-passed
returns-clause-passed c k low high =
    let b = c.args.self.now in
    let from = c.args.from in
    let start = c.if-from-self.false in
    let within = c.if-by-ge-PLACES.false in
    let there : from - b.start + (k - from) ≡ k - b.start = omega (arith, start, low) in (
      omega (arith, start, low),
      omega (arith, start, within, high, c.saturating_add.ensures),
      ap (bit_at b.marked) (sym there) ∙ sym (c.bits_from.ensures (k - from)) ∙ ap (λ n. bit_at n (k - from)) c.if-bits_from-ne0.false ∙ bit_at-zero (k - from),
    )
