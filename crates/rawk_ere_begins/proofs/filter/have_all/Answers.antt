use Rattle.std.proofs.Common.{◌≡◌, inl, inr, ap, sym, ◌∙◌, arith}
use Rattle.std.specs.Int.{bit_at}
use Rattle.std.proofs.lemmas.Bool.{cases_eq}
use Rattle.std.proofs.lemmas.Nat.Bits.{bit_at_and, bit_at-lt}
use Rattle.rawk_ere_begins.specs.Filters.{marks_of}
use Rattle.rawk_ere_begins.proofs.filter.have_all.Goals as goal

pub loop-byte-preserved : goal.loop-byte-preserved
loop-byte-preserved c y i lt one = elim (cases_eq y c.loop-byte.byte) [
  | inl e ↦
      let has = c.of.result in
      let both = ap (λ n. bit_at n i) c.if-of-all.false in
      let here : bit_at (marks_of c.args.marks.now y) i ≡ bit_at has i = ap (λ n. bit_at n i) (ap (marks_of c.args.marks.now) e ∙ sym c.of.ensures) in
      omega (arith, here, both, bit_at_and has c.args.all i, one, bit_at-lt has i)
  | inr n ↦ (let n' : y ≡ c.loop-byte.byte → ⊥ = n in c.loop-byte.invariant y i (omega (arith, n', lt)) one)
]
