use Rattle.std.proofs.Common.{◌∙◌, ap, sym}
use Rattle.std.specs.FinMap.{get, get-empty}
use Rattle.std.specs.Ordering.{nat_cmp}
use Rattle.std.specs.Cmp.Lexicographic.{slice_cmp}
use Rattle.rawk_arrays.specs.Elements.{Elements, element_at}
use Rattle.rawk_arrays.specs.Laid.{Laid, arrays_of}
use Rattle.rawk_arrays.specs.ListLaws.{array_there, array_past}
use Rattle.rawk_arrays.proofs.arrays.Arrays.element.Goals as goal

pub returns-then-array-self : goal.returns-then-array-self
returns-then-array-self c =
    let s = c.self.inside in
    let l : Laid = record { index = s.index; slots = s.cells.now; live = s.live } in
    c.element.ensures ∙ (ap (λ (e : Elements). get e c.args.key.now) (sym (array_there l c.args.array c.if-array-self.true)) ∙ ap (λ w. element_at c.args.array c.args.key.now (arrays_of w.now)) c.self.view_is)

pub returns : goal.returns
returns c =
    let s = c.self.inside in
    let l : Laid = record { index = s.index; slots = s.cells.now; live = s.live } in
    sym (get-empty (slice_cmp nat_cmp) c.args.key.now)
    ∙ (ap (λ (e : Elements). get e c.args.key.now) (sym (array_past l c.args.array c.if-array-self.false)) ∙ ap (λ w. element_at c.args.array c.args.key.now (arrays_of w.now)) c.self.view_is)
