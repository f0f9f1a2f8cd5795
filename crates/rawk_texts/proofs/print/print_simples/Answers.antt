use Rattle.std.proofs.Common.{◌∙◌, ◌++◌, ap, arith, map}
use Rattle.rawk_value.specs.Values.{text_of}
use Rattle.rawk_frames.specs.LaidFrames.{frames_of}
use Rattle.rawk_code.specs.declared.code.Simple.{Simple}
use Rattle.rawk_operators.specs.Borrowed.{borrowed_value}
use Rattle.rawk_operate.specs.Line.{pieces_behind}
use Rattle.rawk_operands.specs.Moving.{simple_of}
use Rattle.rawk_texts.proofs.Lines.{simple_printed}
use Rattle.rawk_texts.proofs.print.print_simples.Goals as goal

pub loop-simple-preserved : goal.loop-simple-preserved
loop-simple-preserved c =
    let f = λ (from : Simple). text_of (simple_of from c.args.globals.now.now (frames_of c.args.frames.now.now) c.args.current.now.now) in
    record {
      line = simple_printed (text_of (borrowed_value c.args.separator)) c.loop-simple.leads (c.args.output.now.now ++ pieces_behind (text_of (borrowed_value c.args.separator)) c.args.first (map f c.args.simples.now)) c.loop-simple.output.now c.print_piece.new.output.now
          f c.args.simples.now c.loop-simple.simple-index c.simple-item.result (text_of (borrowed_value c.simple_borrowed.result)) c.simple-item.is (omega arith) (ap text_of c.simple_borrowed.ensures) c.loop-simple.invariant.line c.in_ok-print_piece.ensures.did;
      start = c.print_piece.ensures.start ∙ c.loop-simple.invariant.start;
    }
