use Rattle.std.proofs.Common.{[], ◌≡◌, ◌+◌, length, List, ℕ, None, arith, ap, sym, ◌∙◌, subst}
use Rattle.std.proofs.lemmas.List.{length-append}
use Rattle.rawk_tape.specs.Paragraphs.{IsScanned, IsParagraph}
use Rattle.rawk_tape.specs.Tapes.{IsWithin}
use Rattle.rawk_tape.proofs.Ahead.{ahead_more, last_read}
use Rattle.rawk_tape.proofs.Breaks.{fails_is}
use Rattle.rawk_tape.proofs.Paragraphs.{found_paragraph, no_paragraph, scanned_longer, scan_held, short_of_last}
use Rattle.rawk_tape.proofs.tape.Tape.next_paragraph.Goals as goal

pub returns-then-found-size-clause-next : goal.returns-then-found-size-clause-next
returns-then-found-size-clause-next g c =
    let t = c.loop-found.self in
    let n = c.args.self.now.consumed in
    let place = c.scan_paragraph-found.result in
    let p : IsParagraph t.bytes n place = scan_held c.kept.result.now t.bytes n c.loop-found.found place c.kept.ensures c.scan_paragraph-found.ensures.paragraph c.loop-found.invariant.1 in
    found_paragraph g.R.Source.may_give t place n p (omega arith)

pub returns-in-Some-clause-next : goal.returns-in-Some-clause-next
returns-in-Some-clause-next g c =
    let t = c.loop-found.self in
    let n = c.args.self.now.consumed in
    let place = c.scan_paragraph-found.result in
    let p : IsParagraph t.bytes n place = scan_held c.kept.result.now t.bytes n c.loop-found.found place c.kept.ensures c.scan_paragraph-found.ensures.paragraph c.loop-found.invariant.1 in
    no_paragraph g.R.Source.may_give t c.kept-in-Some.result.now n c.in-Some.ending c.last_paragraph.result (λ rest comes. g.met.R.Source.over_gives t.source c.in-Some.ending rest (sym c.over.ensures ∙ c.in-Some.is) comes)
    c.kept-in-Some.ensures (c.last_paragraph.ensures.next n (subst (λ (x : List ℕ). IsParagraph x n place) (sym c.kept-in-Some.ensures) p))

pub returns-in-Some-clause-within : goal.returns-in-Some-clause-within
returns-in-Some-clause-within g c =
    let t = c.loop-found.self in
    let n = c.args.self.now.consumed in
    let place = c.scan_paragraph-found.result in
    let p : IsParagraph t.bytes n place = scan_held c.kept.result.now t.bytes n c.loop-found.found place c.kept.ensures c.scan_paragraph-found.ensures.paragraph c.loop-found.invariant.1 in
    subst (λ (x : List ℕ). IsWithin x n c.last_paragraph.result) c.kept-in-Some.ensures (c.last_paragraph.ensures.within n (subst (λ (x : List ℕ). IsParagraph x n place) (sym c.kept-in-Some.ensures) p))

pub returns-in-Some-clause-short : goal.returns-in-Some-clause-short
returns-in-Some-clause-short g c =
    short_of_last c.args.self.now.bytes c.args.self.now.consumed c.loop-found.self.bytes c.scan_paragraph-found.result c.last_paragraph.result c.last_paragraph.ensures.place (omega (arith, ap length c.kept.ensures))

pub loop-found-preserved : goal.loop-found-preserved
loop-found-preserved g c =
    let i = c.loop-found.invariant in
    let f = c.in_ok-fill.ensures in
    let t = c.loop-found.self in
    let n = c.args.self.now.consumed in
    let place = c.scan_paragraph-found.result in
    let p : IsParagraph t.bytes n place = scan_held c.kept.result.now t.bytes n c.loop-found.found place c.kept.ensures c.scan_paragraph-found.ensures.paragraph i.1 in
    let still : g.R.Source.over t.source ≡ None = sym c.over.ensures ∙ c.in_default.is in
    let grown : length c.fill.new.self.bytes ≡ length t.bytes + length f.reads.chunk = ap length f.reads.grown ∙ length-append t.bytes f.reads.chunk in (
      ahead_more g.R.Source.may_give g.R.Source.over g.R.Source.handed c.args.self.now t c.fill.new.self i.0 still f.reads f.consumed,
      subst (λ (x : List ℕ). IsScanned x n place) (sym f.reads.grown) (scanned_longer t.bytes f.reads.chunk n place p.scanned),
      omega (arith, f.reads.bounded),
      last_read g.R.Source.may_give g.R.Source.over g.R.Source.handed c.args.self.now t c.fill.new.self [] n i.0 i.3 f.reads (fails_is t.bytes n place p (omega (arith, ap length c.kept.ensures))),
    )
