-- A digit more than the quotient has.
use Rattle.std.proofs.Common.{◌≡◌, ◌+◌, ◌<◌, ◌≤◌, ◌^◌, length, ap, sym, ◌∙◌, arith}
use Rattle.std.specs.Int.Digits.{digits_of}
use Rattle.std.proofs.lemmas.Int.Digits.{length-digits_of_step}
use Rattle.rawk_format.proofs.Figures.{digits_bound}
use Rattle.rawk_format.proofs.figure.+digits_len.Goals as goal

pub returns-else-n-eq0-clause-value : goal.returns-else-n-eq0-clause-value
returns-else-n-eq0-clause-value t c =
    let above : 0 < c.args.n = omega arith in
    ap (λ k. k + 1) c.digits_len.ensures.value ∙ sym (length-digits_of_step c.args.base c.args.n c.requires above)

pub returns-else-n-eq0-clause-bound : goal.returns-else-n-eq0-clause-bound
returns-else-n-eq0-clause-bound t c =
    let above : 0 < c.args.n = omega arith in
    let step : c.digits_len.result + 1 ≡ length (digits_of c.args.base c.args.n) = ap (λ k. k + 1) c.digits_len.ensures.value ∙ sym (length-digits_of_step c.args.base c.args.n c.requires above) in
    let fits : c.args.n < 2 ^ 64 = omega arith in
    let bound : length (digits_of c.args.base c.args.n) ≤ 64 = digits_bound c.args.base c.args.n c.requires fits in
    omega arith
