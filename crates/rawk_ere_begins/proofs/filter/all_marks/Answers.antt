use Rattle.std.proofs.Common.{◌≡◌, inl, inr, sym, ap, ◌∙◌, arith}
use Rattle.std.specs.Int.{bit_at}
use Rattle.std.proofs.lemmas.Bool.{cases_eq}
use Rattle.std.proofs.lemmas.Nat.Bits.{bit_at_or, bit_at-lt}
use Rattle.rawk_ere_begins.specs.Filters.{marks_of}
use Rattle.rawk_ere_begins.proofs.filter.all_marks.Goals as goal

pub loop-byte-preserved : goal.loop-byte-preserved
loop-byte-preserved c x i lt one =
    let all = c.loop-byte.all in
    let both = bit_at_or all c.of-all.result i in
    elim (cases_eq x c.loop-byte.byte) [
      | inl e ↦
          let here : bit_at c.of-all.result i ≡ 1 = ap (λ n. bit_at n i) (c.of-all.ensures ∙ ap (marks_of c.args.marks.now) (sym e)) ∙ one in
          omega (arith, both, here, bit_at-lt all i)
      | inr n ↦
          let n' : x ≡ c.loop-byte.byte → ⊥ = n in
          omega (arith, both, c.loop-byte.invariant x i (omega (arith, n', lt)) one, bit_at-lt c.of-all.result i)
    ]
