use Rattle.std.proofs.Common.{[], ◌∷◌, ◌≡◌, ◌+◌, length, None, arith, sym, subst, ◌∙◌, ap}
use Rattle.std.proofs.lemmas.List.{length-append}
use Rattle.memchr.specs.Find.{Nowhere, Passes, is_byte}
use Rattle.rawk_tape.proofs.Ahead.{ahead_more, last_read}
use Rattle.rawk_tape.proofs.OneByte.{found_line, line_open, no_line, none_longer}
use Rattle.rawk_tape.proofs.tape.Tape.next_line.Goals as goal

pub returns-in-Some-clause-next : goal.returns-in-Some-clause-next
returns-in-Some-clause-next g c =
    let i = c.loop-at.invariant in
    found_line g.R.Source.may_give c.loop-at.self c.kept.result.now c.args.separator c.loop-at.scanned c.in-Some.at c.consumed.result _ c.kept.ensures c.consumed.ensures.value i.0.consumed i.1 i.3 c.in-Some.ensures

pub returns-in-Some-over-clause-next : goal.returns-in-Some-over-clause-next
returns-in-Some-over-clause-next g c =
    let i = c.loop-at.invariant in
    no_line g.R.Source.may_give c.loop-at.self c.kept.result.now c.kept-in-Some-over.result.now c.args.separator c.loop-at.scanned c.consumed-in-Some-over.result _ c.in-Some-over.ending c.last_line.result (λ rest comes. g.met.R.Source.over_gives c.loop-at.self.source c.in-Some-over.ending rest (sym c.over.ensures ∙ c.in-Some-over.is) comes) c.kept.ensures c.kept-in-Some-over.ensures c.consumed-in-Some-over.ensures.value i.0.consumed i.3 c.in-None.ensures c.last_line.ensures.next

pub loop-at-preserved : goal.loop-at-preserved
loop-at-preserved g c =
    let i = c.loop-at.invariant in
    let f = c.in_ok-fill.ensures in
    let still : g.R.Source.over c.loop-at.self.source ≡ None = sym c.over.ensures ∙ c.in_default.is in
    let grown : length c.fill.new.self.bytes ≡ length c.loop-at.self.bytes + length f.reads.chunk = ap length f.reads.grown ∙ length-append c.loop-at.self.bytes f.reads.chunk in (
      ahead_more g.R.Source.may_give g.R.Source.over g.R.Source.handed c.args.self.now c.loop-at.self c.fill.new.self i.0 still f.reads f.consumed,
      omega (arith, f.consumed, c.size-scanned.ensures.in_range),
      omega (arith, c.size-scanned.ensures.value),
      subst (λ n. Nowhere (Passes (is_byte c.args.separator) c.fill.new.self.bytes) n c.size-scanned.result) (sym f.consumed) (none_longer (is_byte c.args.separator) c.loop-at.self.bytes c.kept.result.now f.reads.chunk c.fill.new.self.bytes c.loop-at.self.consumed c.loop-at.scanned c.size-scanned.result c.kept.ensures c.size-scanned.ensures.value f.reads.grown i.3 c.in-None.ensures),
      omega (arith, c.size-scanned.ensures.value, f.reads.bounded),
      last_read g.R.Source.may_give g.R.Source.over g.R.Source.handed c.args.self.now c.loop-at.self c.fill.new.self (c.args.separator ∷ []) c.args.self.now.consumed i.0 i.5 f.reads (line_open c.loop-at.self.bytes c.kept.result.now c.args.separator c.loop-at.scanned c.loop-at.self.consumed c.args.self.now.consumed c.kept.ensures i.0.consumed i.3 c.in-None.ensures),
    )
