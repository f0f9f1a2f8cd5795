use Rattle.std.proofs.Common.{◌≡◌, ◌++◌, drop}
use Rattle.rawk_debug.specs.Answers.{stop_lines}
use Rattle.rawk_debug.proofs.answer.push_stop_lines.Given as goal

abbrev pub invariant-loop-entry : goal.invariant-loop-entry
invariant-loop-entry g l =
    let machine = l.session.machine in
    let lines = stop_lines (g.M.Stepper.position machine).program.names.items (g.M.Stepper.before machine) (g.M.Stepper.held machine) in
    l.out.items ++ lines (drop l.entry-index l.entry-items) ≡ l.fn.out.items ++ lines l.entry-items
