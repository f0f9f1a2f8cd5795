use Rattle.std.proofs.Common.{◌∙◌, ap, refl}
use Rattle.rawk_arrays.specs.Elements.{no_elements, cleared}
use Rattle.rawk_arrays.specs.Laid.{Laid, arrays_of}
use Rattle.rawk_arrays.specs.ListLaws.{emptied_arrays, no_put}
use Rattle.rawk_arrays.proofs.arrays.Arrays.clear.Goals as goal

pub returns-in_ok-walked-clause-did : goal.returns-in_ok-walked-clause-did
returns-in_ok-walked-clause-did g c =
    let s = c.self.inside in
    let l : Laid = record { index = s.index; slots = s.cells.now; live = s.live } in
    let m : Laid = record { index = s.index; slots = c.empty.new.cells.now; live = s.live } in
    emptied_arrays l m c.args.array refl refl c.in_ok-walked.ensures.did ∙ ap (λ w. cleared c.args.array (arrays_of w.now)) c.self.view_is

pub returns-else-array-self-clause-did : goal.returns-else-array-self-clause-did
returns-else-array-self-clause-did g c =
    let s = c.self.inside in
    let l : Laid = record { index = s.index; slots = s.cells.now; live = s.live } in
    rw (← ap (λ w. arrays_of w.now) c.self.view_is) (no_put l c.args.array no_elements c.if-array-self.false)
