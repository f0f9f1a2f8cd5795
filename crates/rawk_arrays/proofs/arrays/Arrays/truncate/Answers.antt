use Rattle.std.proofs.Common.{◌∙◌, ap, take}
use Rattle.rawk_arrays.specs.Laid.{arrays_of}
use Rattle.rawk_arrays.specs.ListLaws.{taken_arrays}
use Rattle.rawk_arrays.proofs.arrays.Arrays.truncate.Goals as goal

pub returns-clause-did : goal.returns-clause-did
returns-clause-did c =
    let s = c.self.inside in
    ap (λ n. arrays_of (record { index = s.index; slots = s.cells.now; live = n })) c.min-self-inside.ensures
    ∙ (taken_arrays s.index s.cells.now s.live c.args.count ∙ ap (λ w. take c.args.count (arrays_of w.now)) c.self.view_is)
