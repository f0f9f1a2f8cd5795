use Rattle.std.proofs.Common.{◌≡◌, ◌++◌, drop}
use Rattle.rawk_answers.specs.Texts.{frame_lines, backtrace}
use Rattle.rawk_answers.proofs.text.push_backtrace.Given as goal

abbrev pub invariant-loop-number : goal.invariant-loop-number
invariant-loop-number g l =
    let program = (g.M.Stepper.position l.machine).program in
    let held = g.M.Stepper.held l.machine in
    l.out.items ++ frame_lines program l.number l.line (drop l.number held.state.frames) ≡ l.fn.out.items ++ backtrace program held
