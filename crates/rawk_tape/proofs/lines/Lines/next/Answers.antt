use Rattle.std.proofs.Common.{◌≡◌, ◌≤◌, Some, length, inr, arith, ap, sym, ◌∙◌}
use Rattle.std.specs.List.{position_or_len}
use Rattle.rawk_devices.specs.declared.source.Ending.{Ending}
use Rattle.rawk_devices.specs.declared.source.Ending.TheVariants.{Ended, Failed}
use Rattle.rawk_tape.specs.Records.{is_newline}
use Rattle.rawk_tape.proofs.Newlines.{fails_left, last_left, line_whole, none_left}
use Rattle.rawk_tape.proofs.Due.{none_then, passes_then, reads_none}
use Rattle.rawk_tape.proofs.lines.Lines.next.Goals as goal

-- as many lines were let go as are counted
pub returns-then-taken-eq18446744073709551615-clause-none : goal.returns-then-taken-eq18446744073709551615-clause-none
returns-then-taken-eq18446744073709551615-clause-none g c = record {
  all = c.args.self.now.bytes;
  reads = reads_none g.C.Source.may_give g.C.Source.handed c.args.source.now c.args.self.now.bytes;
  none = λ rest come. tt;
  many = λ e. inr (omega arith);
}

-- memory is refused
pub returns-in-Ok-pass_over-clause-finds : goal.returns-in-Ok-pass_over-clause-finds
returns-in-Ok-pass_over-clause-finds g c = passes_then g.C.Source.may_give g.C.Source.handed c.args.source.now c.read_line.new.source c.pass_over.new.source c.args.self.now c.read_line.new.self c.read_line.ensures.reads c.read_line.ensures.taken c.pass_over.new.self c.in-Ok-pass_over.ensures.passes

pub returns-in-Err-pass_over-clause-none : goal.returns-in-Err-pass_over-clause-none
returns-in-Err-pass_over-clause-none g c = none_then g.C.Source.may_give g.C.Source.handed c.args.source.now c.read_line.new.source c.pass_over.new.source c.args.self.now c.read_line.new.self c.read_line.ensures.reads c.read_line.ensures.taken c.in-Err-pass_over.why c.in-Err-pass_over.ensures.none

-- a newline is held
pub returns-then-size-length-clause-finds : goal.returns-then-size-length-clause-finds
returns-then-size-length-clause-finds g c =
    let n = ap length c.kept-length.ensures.value in
    record {
      reads = c.read_line.ensures.reads;
      next = λ rest come. line_whole c.read_line.new.self.bytes c.in-Ok.size rest c.in-Ok.ensures.place (omega (arith, n));
      within = (omega arith, omega (arith, n));
      taken = c.read_line.ensures.taken;
    }

-- the source is over
pub returns-then-length-eq0-clause-none : goal.returns-then-length-eq0-clause-none
returns-then-length-eq0-clause-none g c =
    let b = c.read_line.new.self.bytes in
    let n : length c.kept-length.result.now ≡ length b = ap length c.kept-length.ensures.value in
    let far : length b ≤ position_or_len is_newline b = omega (arith, n, c.in-Ok.ensures.place) in
    record {
      all = b;
      reads = c.read_line.ensures.reads;
      none = λ rest come. none_left b rest far (g.met.C.Source.over_gives c.read_line.new.source Ended rest (c.read_line.ensures.reported ∙ (sym c.over.ensures ∙ (c.in-Some-Ended.is ∙ ap (λ (e : Ending). Some e) c.in-Some-Ended.field-0-is))) come) (omega (arith, n));
      many = λ e. absurd (cc e);
    }

pub returns-else-length-eq0-clause-finds : goal.returns-else-length-eq0-clause-finds
returns-else-length-eq0-clause-finds g c =
    let b = c.read_line.new.self.bytes in
    let n : length c.kept-length.result.now ≡ length b = ap length c.kept-length.ensures.value in
    let far : length b ≤ position_or_len is_newline b = omega (arith, n, c.in-Ok.ensures.place) in
    record {
      reads = c.read_line.ensures.reads;
      next = λ rest come. last_left b (length c.kept-length.result.now) rest far (g.met.C.Source.over_gives c.read_line.new.source Ended rest (c.read_line.ensures.reported ∙ (sym c.over.ensures ∙ (c.in-Some-Ended.is ∙ ap (λ (e : Ending). Some e) c.in-Some-Ended.field-0-is))) come) n (λ e. omega (arith, e));
      within = (omega arith, omega (arith, n));
      taken = c.read_line.ensures.taken;
    }

pub returns-in-Some-Failed-clause-none : goal.returns-in-Some-Failed-clause-none
returns-in-Some-Failed-clause-none g c =
    let b = c.read_line.new.self.bytes in
    let n : length c.kept-length.result.now ≡ length b = ap length c.kept-length.ensures.value in
    let far : length b ≤ position_or_len is_newline b = omega (arith, n, c.in-Ok.ensures.place) in
    record {
      all = b;
      reads = c.read_line.ensures.reads;
      none = λ rest come. fails_left b rest far (g.met.C.Source.over_gives c.read_line.new.source Failed rest (c.read_line.ensures.reported ∙ (sym c.over.ensures ∙ (c.in-Some-Failed.is ∙ ap (λ (e : Ending). Some e) c.in-Some-Failed.field-0-is))) come);
      many = λ e. absurd (cc e);
    }
