use Rattle.std.proofs.Common.{◌≡◌, ◌≤◌, length, None, arith, ap, refl, sym, subst, ◌∙◌, Option}
use Rattle.std.specs.List.{position_or_len}
use Rattle.rawk_value.specs.Values.{Bytes}
use Rattle.rawk_devices.specs.Inputs.{CountsUp}
use Rattle.rawk_devices.specs.declared.source.Ending.{Ending}
use Rattle.rawk_tape.specs.Records.{is_newline}
use Rattle.rawk_tape.specs.Lines.{failures_by}
use Rattle.rawk_tape.proofs.Newlines.{seen_all}
use Rattle.rawk_tape.proofs.Due.{counted, reads_on}
use Rattle.rawk_tape.proofs.lines.Lines.read_line.Goals as goal

pub reads-preserved : goal.reads-preserved
reads-preserved g c =
    let i = c.reads.invariant in
    let f = c.in_ok-fill.ensures in
    let t = c.reads.self.bytes in
    let at : c.first_newline-size.result ≡ position_or_len is_newline t = c.first_newline-size.ensures ∙ ap (λ (b : Bytes). position_or_len is_newline b) c.kept-kept.ensures.value in
    let n : length c.kept-kept.result.now ≡ length t = ap length c.kept-kept.ensures.value in
    let far : length t ≤ position_or_len is_newline t = omega (arith, at, n) in
    let still : c.reads.self.over ≡ None = sym c.over.ensures ∙ c.in-None.is in
    let seen = seen_all t f.reads.chunk c.fill.new.self.bytes c.first_newline-size.result f.reads.grown at far in
    record {
      reported = f.reported;
      taken = c.fill.ensures.taken ∙ i.taken;
      reads = reads_on g.C.Source.may_give g.C.Source.over g.C.Source.handed c.args.source.now c.reads.source c.fill.new.source c.args.self.now.bytes t c.fill.new.self.bytes i.reads f.reads far;
      failures = counted _ _ _ _ _ (subst (λ (o : Option Ending). CountsUp (g.C.Source.failures c.args.source.now) (g.C.Source.failures c.reads.source) (failures_by o)) still i.failures) f.failures refl;
      failed = λ e. subst (λ (b : Bytes). length b ≤ position_or_len is_newline b) (sym (f.failed e)) far;
      inside = seen.0;
      without = seen.1;
    }
