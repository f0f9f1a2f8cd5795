use Rattle.std.proofs.Common.{◌≡◌, ◌+◌, ◌∙◌, ◌++◌, ◌∷◌, [], ap, arith}
use Rattle.rawk_arrays.specs.Elements.{no_elements}
use Rattle.rawk_arrays.specs.Laid.{arrays_of}
use Rattle.rawk_arrays.specs.ListLaws.{added_arrays}
use Rattle.rawk_arrays.proofs.arrays.Arrays.add.Goals as goal

pub returns-clause-did : goal.returns-clause-did
returns-clause-did g c =
    let s = c.self.inside in
    let next : c.in-Some.live ≡ s.live + 1 = omega (arith, c.in-Some.ensures) in
    ap (λ n. arrays_of (record { index = s.index; slots = c.empty.new.cells.now; live = n })) next
    ∙ (added_arrays s.index s.cells.now c.empty.new.cells.now s.live c.in_ok-walked.ensures.did ∙ ap (λ w. arrays_of w.now ++ no_elements ∷ []) c.self.view_is)
