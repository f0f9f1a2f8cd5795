use Rattle.std.proofs.Common.{◌∙◌, ap, refl}
use Rattle.rawk_arrays.specs.Laid.{Laid, arrays_of}
use Rattle.rawk_arrays.specs.ListLaws.{same_arrays}
use Rattle.rawk_arrays.proofs.arrays.Arrays.pack.Goals as goal

pub returns-then-is_sparse-clause-now : goal.returns-then-is_sparse-clause-now
returns-then-is_sparse-clause-now c =
    let s = c.self.inside in
    let l : Laid = record { index = s.index; slots = s.cells.now; live = s.live } in
    let m : Laid = record { index = c.pack.new.index; slots = c.pack.new.cells.now; live = s.live } in
    same_arrays l m refl (λ b lt. c.pack.ensures.same b lt) ∙ ap (λ w. arrays_of w.now) c.self.view_is
