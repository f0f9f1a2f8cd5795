use Rattle.std.proofs.Common.{◌++◌, ◌∙◌, ap}
use Rattle.rawk_tree.specs.declared.tree.Program.{Program}
use Rattle.rawk_tree.specs.Sites.{line_at}
use Rattle.rawk_answers.specs.Activations.{name_of, function_at}
use Rattle.rawk_answers.specs.Texts.{backtrace}
use Rattle.rawk_answers.proofs.Outward.{one_more}
use Rattle.rawk_answers.proofs.text.push_backtrace.Goals as goal

pub loop-number-preserved : goal.loop-number-preserved
loop-number-preserved g c =
    let machine = c.args.machine.now in
    let p = (g.M.Stepper.position machine).program in
    let call = c.in-Some.call in
    one_more p (g.M.Stepper.held machine).state.frames c.loop-number.number c.loop-number.line c.line_of_site-line.result call
    c.function_name.result.now c.loop-number.out.items c.push_frame_line.new.out.items (c.args.out.now.items ++ backtrace p (g.M.Stepper.held machine)) c.in-Some.ensures
    (c.function_name.ensures ∙ ap (λ (x : Program). name_of (function_at x call.function)) c.program-program.ensures)
    (c.line_of_site-line.ensures ∙ ap (λ (x : Program). line_at x.lines.items call.site) c.program-program.ensures)
    c.in_ok-push_frame_line.ensures c.loop-number.invariant
