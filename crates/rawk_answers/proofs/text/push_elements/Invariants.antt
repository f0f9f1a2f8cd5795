use Rattle.std.proofs.Common.{◌≡◌, ◌++◌, drop}
use Rattle.std.specs.Prelude.{flat_map}
use Rattle.rawk_answers.specs.Texts.{shown_line}
use Rattle.rawk_answers.specs.declared.stop.Lvalue.TheVariants.{Element}
use Rattle.rawk_answers.proofs.text.push_elements.Given as goal

abbrev pub invariant-loop-key : goal.invariant-loop-key
invariant-loop-key g l =
    let lines = flat_map (λ key. shown_line (g.M.Stepper.position l.machine).program (Element l.array key) (g.M.Stepper.held l.machine)) in
    l.out.items ++ lines (drop l.key-index l.keys) ≡ l.fn.out.items ++ lines l.keys
