use Rattle.std.proofs.Common.{◌≡◌, ◌+◌, None, Some, length, arith, ap, refl, sym, ◌∙◌}
use Rattle.std.specs.List.{position_or_len}
use Rattle.rawk_value.specs.Values.{Bytes}
use Rattle.rawk_devices.specs.declared.source.Ending.{Ending}
use Rattle.rawk_devices.specs.declared.source.Ending.TheVariants.{Ended, Failed}
use Rattle.rawk_tape.specs.Records.{is_newline}
use Rattle.rawk_tape.specs.Lines.{failures_by}
use Rattle.rawk_tape.proofs.Newlines.{first_inside}
use Rattle.rawk_tape.proofs.Due.{counted, endless, no_failure, passed_end, passed_newline, passes_on, passing_fails, reads_none}
use Rattle.rawk_tape.proofs.lines.Lines.pass_over.Goals as goal

pub loop-reads-init : goal.loop-reads-init
loop-reads-init g c = record {
  so = record {
    all = c.args.self.now.bytes;
    reads = reads_none g.C.Source.may_give g.C.Source.handed c.args.source.now c.args.self.now.bytes;
    without = c.requires.without;
    many = omega (arith, c.requires.long);
  };
  unended = c.requires.reported ∙ c.requires.«open»;
  taken = refl;
  failures = omega arith;
}

pub returns-then-size-kept-clause-passes : goal.returns-then-size-kept-clause-passes
returns-then-size-kept-clause-passes g c =
    let b = c.read_anew.new.self.bytes in
    passed_newline g.C.Source.may_give g.C.Source.over g.C.Source.handed c.args.source.now c.loop-reads.source c.read_anew.new.source c.args.self.now c.loop-reads.reads c.loop-reads.invariant.so b c.read_anew.ensures.reads
    c.first_newline-size.result c.let_go.new.self (c.first_newline-size.ensures ∙ ap (λ (x : Bytes). position_or_len is_newline x) c.kept-kept.ensures.value) (omega (arith, ap length c.kept-kept.ensures.value)) c.let_go.ensures.bytes
    (c.let_go.ensures.taken ∙ ap (λ k. k + 1) (c.read_anew.ensures.taken ∙ c.loop-reads.invariant.taken))

pub returns-then-size-kept-clause-unfailed : goal.returns-then-size-kept-clause-unfailed
returns-then-size-kept-clause-unfailed g c = λ failed. omega (arith, ap length (c.read_anew.ensures.failed (sym c.let_go.ensures.over ∙ failed)), ap length c.kept-kept.ensures.value)

pub returns-then-size-kept-clause-unfailing : goal.returns-then-size-kept-clause-unfailing
returns-then-size-kept-clause-unfailing g c =
    let none = no_failure c.read_anew.new.self.over (λ failed. omega (arith, ap length (c.read_anew.ensures.failed failed), ap length c.kept-kept.ensures.value)) in
    counted (g.C.Source.failures c.args.source.now) (g.C.Source.failures c.loop-reads.source) (g.C.Source.failures c.read_anew.new.source) (failures_by c.read_anew.new.self.over) 0 c.loop-reads.invariant.failures c.read_anew.ensures.failures none

pub let_go-requires-in-Some-Ended-clause-held : goal.let_go-requires-in-Some-Ended-clause-held
let_go-requires-in-Some-Ended-clause-held g c =
    let b = c.read_anew.new.self.bytes in
    let n : length c.kept-kept.result.now ≡ length b = ap length c.kept-kept.ensures.value in
    let at : c.first_newline-size.result ≡ position_or_len is_newline b = c.first_newline-size.ensures ∙ ap (λ (x : Bytes). position_or_len is_newline x) c.kept-kept.ensures.value in
    omega (arith, at, first_inside b)

pub returns-in-Some-Ended-clause-passes : goal.returns-in-Some-Ended-clause-passes
returns-in-Some-Ended-clause-passes g c =
    let b = c.read_anew.new.self.bytes in
    let n : length c.kept-kept.result.now ≡ length b = ap length c.kept-kept.ensures.value in
    let at : c.first_newline-size.result ≡ position_or_len is_newline b = c.first_newline-size.ensures ∙ ap (λ (x : Bytes). position_or_len is_newline x) c.kept-kept.ensures.value in
    passed_end g.C.Source.may_give g.C.Source.over g.C.Source.handed c.args.source.now c.loop-reads.source c.read_anew.new.source c.args.self.now c.loop-reads.reads c.loop-reads.invariant.so c.read_anew.new.self.bytes c.read_anew.ensures.reads
    c.first_newline-size.result c.let_go-in-Some-Ended.new.self (omega (arith, at, n, first_inside b)) (omega (arith, at, n))
    (λ rest come. g.met.C.Source.over_gives c.read_anew.new.source Ended rest (c.read_anew.ensures.reported ∙ (sym c.over.ensures ∙ (c.in-Some-Ended.is ∙ ap (λ (e : Ending). Some e) c.in-Some-Ended.field-0-is))) come) c.let_go-in-Some-Ended.ensures.bytes
    (c.let_go-in-Some-Ended.ensures.taken ∙ ap (λ k. k + 1) (c.read_anew.ensures.taken ∙ c.loop-reads.invariant.taken))

pub returns-in-Some-Failed-clause-none : goal.returns-in-Some-Failed-clause-none
returns-in-Some-Failed-clause-none g c =
    let b = c.read_anew.new.self.bytes in
    let n : length c.kept-kept.result.now ≡ length b = ap length c.kept-kept.ensures.value in
    let at : c.first_newline-size.result ≡ position_or_len is_newline b = c.first_newline-size.ensures ∙ ap (λ (x : Bytes). position_or_len is_newline x) c.kept-kept.ensures.value in
    passing_fails g.C.Source.may_give g.C.Source.over g.C.Source.handed c.args.source.now c.loop-reads.source c.read_anew.new.source c.args.self.now c.loop-reads.reads c.loop-reads.invariant.so c.read_anew.new.self.bytes c.read_anew.ensures.reads (omega (arith, at, n))
    (λ rest come. g.met.C.Source.over_gives c.read_anew.new.source Failed rest (c.read_anew.ensures.reported ∙ (sym c.over.ensures ∙ (c.in-Some-Failed.is ∙ ap (λ (e : Ending). Some e) c.in-Some-Failed.field-0-is))) come)

pub loop-reads-preserved : goal.loop-reads-preserved
loop-reads-preserved g c =
    let b = c.read_anew.new.self.bytes in
    let n : length c.kept-kept.result.now ≡ length b = ap length c.kept-kept.ensures.value in
    let at : c.first_newline-size.result ≡ position_or_len is_newline b = c.first_newline-size.ensures ∙ ap (λ (x : Bytes). position_or_len is_newline x) c.kept-kept.ensures.value in
    let still : c.read_anew.new.self.over ≡ None = sym c.over.ensures ∙ c.in-None.is in
    let unended = c.read_anew.ensures.reported ∙ still in
    record {
      so = passes_on g.C.Source.may_give g.C.Source.over g.C.Source.handed c.args.source.now c.loop-reads.source c.read_anew.new.source c.args.self.now c.loop-reads.reads c.loop-reads.invariant.so c.read_anew.new.self.bytes c.read_anew.ensures.reads unended (omega (arith, at, n));
      unended = unended;
      taken = c.read_anew.ensures.taken ∙ c.loop-reads.invariant.taken;
      failures = counted (g.C.Source.failures c.args.source.now) (g.C.Source.failures c.loop-reads.source) (g.C.Source.failures c.read_anew.new.source) (failures_by c.read_anew.new.self.over) 0 c.loop-reads.invariant.failures c.read_anew.ensures.failures (ap failures_by still);
    }

pub returns-clause-none : goal.returns-clause-none
returns-clause-none g c = endless g.C.Source.may_give g.C.Source.handed c.args.source.now c.args.self.now c.loop-reads.source c.loop-reads.reads c.loop-reads.invariant.so (omega arith)
