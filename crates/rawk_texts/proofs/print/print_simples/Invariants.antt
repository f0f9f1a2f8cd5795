use Rattle.std.proofs.Common.{◌≡◌, ◌++◌, map, drop}
use Rattle.rawk_value.specs.Values.{text_of}
use Rattle.rawk_frames.specs.LaidFrames.{frames_of}
use Rattle.rawk_operators.specs.Borrowed.{borrowed_value}
use Rattle.rawk_operate.specs.Line.{pieces_behind}
use Rattle.rawk_operands.specs.Moving.{simple_of}
use Rattle.rawk_texts.proofs.print.print_simples.Given as goal

abbrev pub invariant-loop-simple : goal.invariant-loop-simple
invariant-loop-simple l = record {
  line :
      l.fn.output.now ++ pieces_behind (text_of (borrowed_value l.separator)) l.fn.first (map (λ from. text_of (simple_of from l.globals.now (frames_of l.frames.now) l.current.now)) l.simples) ≡
      l.output.now ++ pieces_behind (text_of (borrowed_value l.separator)) l.leads (map (λ from. text_of (simple_of from l.globals.now (frames_of l.frames.now) l.current.now)) (drop l.simple-index l.simples));
  start : l.output.start ≡ l.fn.output.start;
}
