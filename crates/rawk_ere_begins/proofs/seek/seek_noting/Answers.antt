use Rattle.std.proofs.Common.{◌+◌, ◌-◌, inl, inr, arith, ap, sym, ◌∙◌, true≢false}
use Rattle.std.specs.Int.{bit_at}
use Rattle.std.proofs.lemmas.Bool.{cases_lt}
use Rattle.std.proofs.lemmas.Nat.Bits.{bit_at-zero}
use Rattle.rawk_ere_begins.proofs.SeekLemmas.{unmarked_passed, not_passed}
use Rattle.rawk_ere_begins.proofs.seek.seek_noting.Goals as goal

pub returns-then-marked-ne0-clause-passed : goal.returns-then-marked-ne0-clause-passed
returns-then-marked-ne0-clause-passed c k low high = elim (cases_lt k c.loop-at.at) [
  | inl before ↦ c.loop-at.invariant.passed k low before
  | inr ge ↦
      let start = c.min-start.result in
      let at = c.loop-at.at in
      let is = c.min-start.ensures in
      let place = c.bits_from-marked.ensures c.lowest.result in
      let end = c.may_begin-all.ensures.only (at - start + c.lowest.result) (sym place ∙ c.lowest.ensures.set) in
      unmarked_passed c.args.filter.now c.args.text.now start at c.may_begin-all.result c.bits_from-marked.result c.may_begin-all.ensures.set c.bits_from-marked.ensures
      (omega (arith, is)) k ge (omega (arith, is, end.0, high)) (omega (arith, is, end.0, high, c.if-text-lt-LONG.false, c.loop-at-test.true)) (c.lowest.ensures.below (k - at) (omega (arith, high, ge)))
]

pub loop-at-preserved : goal.loop-at-preserved
loop-at-preserved c =
    let start = c.min-start.result in
    let at = c.loop-at.at in
    let is = c.min-start.ensures in
    let i = c.loop-at.invariant in
    record {
      same = i.same;
      low = omega (arith, is, i.low, c.loop-at-test.true, c.if-text-lt-LONG.false);
      high = omega (arith, is, c.if-text-lt-LONG.false);
      passed = λ k low high. elim (cases_lt k at) [
        | inl before ↦ i.passed k low before
        | inr ge ↦
            unmarked_passed c.args.filter.now c.args.text.now start at c.may_begin-all.result c.bits_from-marked.result c.may_begin-all.ensures.set c.bits_from-marked.ensures
            (omega (arith, is)) k ge high (omega (arith, is, high, c.if-text-lt-LONG.false)) (ap (λ n. bit_at n (k - at)) c.if-marked-ne0.false ∙ bit_at-zero (k - at))
      ];
    }

pub returns-then-marked-ne0-clause-stops : goal.returns-then-marked-ne0-clause-stops
returns-then-marked-ne0-clause-stops c long lt =
    let start = c.min-start.result in
    let at = c.loop-at.at in
    let is = c.min-start.ensures in
    let place = c.bits_from-marked.ensures c.lowest.result in
    let has = c.may_begin-all.ensures.only (at - start + c.lowest.result) (sym place ∙ c.lowest.ensures.set) in
    not_passed c.args.filter.now c.args.text.now (start + (at - start + c.lowest.result)) (at + c.lowest.result) (omega (arith, is)) (λ e. true≢false (sym e ∙ c.if-filter.false)) has.1

pub returns-then-marked-ne0-clause-known : goal.returns-then-marked-ne0-clause-known
returns-then-marked-ne0-clause-known c =
    let is = c.min-start.ensures in
    inr (record { long = omega (arith, is, c.if-text-lt-LONG.false); set = c.may_begin-all.ensures.set; only = c.may_begin-all.ensures.only })

pub returns-then-of-eq0-clause-known : goal.returns-then-of-eq0-clause-known
returns-then-of-eq0-clause-known c = inl c.loop-at.invariant.same

pub returns-clause-known : goal.returns-clause-known
returns-clause-known c = inl c.loop-at.invariant.same
