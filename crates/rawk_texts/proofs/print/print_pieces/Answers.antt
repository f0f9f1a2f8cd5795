use Rattle.std.proofs.Common.{◌∙◌, ◌++◌, List, ap, map}
use Rattle.rawk_value.specs.Values.{text_of}
use Rattle.rawk_store.specs.Stacked.{live_values}
use Rattle.rawk_code.specs.declared.code.Simple.{Simple}
use Rattle.rawk_operators.specs.Borrowed.{borrowed_value}
use Rattle.rawk_operate.specs.Line.{pieces_behind}
use Rattle.rawk_operands.specs.Moving.{moving, simple_of}
use Rattle.rawk_texts.proofs.Lines.{print_line}
use Rattle.rawk_texts.proofs.Prints.{print_done}
use Rattle.rawk_texts.proofs.print.print_pieces.Goals as goal

pub returns-clause-did : goal.returns-clause-did
returns-clause-did c =
    let m = moving c.args.store.now in
    let simples = c.args.simples.now in
    let texts = λ (xs : List Simple). c.print_operands.new.output.now ++ pieces_behind (text_of (borrowed_value c.global_borrowed-separator.result)) c.in_ok-leads.leads (map (λ from. text_of (simple_of from m.globals m.frames m.current)) xs) in
    print_done c.args.count simples m c.print_separator.new.output.now (live_values c.drop_newest.new.self.now)
    (print_line c.args.count simples m (borrowed_value c.global_borrowed-separator.result) (borrowed_value c.global_borrowed.result) c.print_operands.new.output.now c.print_simples.new.output.now c.print_separator.new.output.now c.in_ok-leads.leads
    c.global_borrowed-separator.ensures c.global_borrowed.ensures c.in_ok-leads.ensures.did (c.in_ok-print_simples.ensures.did ∙ ap texts c.as_slice.ensures) c.in_ok-print_separator.ensures.did)
    c.drop_newest.ensures.did
