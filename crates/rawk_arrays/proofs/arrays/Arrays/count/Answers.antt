use Rattle.std.proofs.Common.{◌∙◌, List, ℕ, ap, get_or, sym}
use Rattle.std.specs.FinMap.{len, len-empty}
use Rattle.std.specs.Ordering.{nat_cmp}
use Rattle.std.specs.Cmp.Lexicographic.{slice_cmp}
use Rattle.rawk_value.specs.declared.value.Value.{Value}
use Rattle.rawk_arrays.specs.Elements.{Elements, array_at}
use Rattle.rawk_arrays.specs.Laid.{Laid, arrays_of}
use Rattle.rawk_arrays.specs.ListLaws.{array_there, array_past}
use Rattle.rawk_arrays.proofs.arrays.Arrays.count.Goals as goal

pub returns-then-array-self : goal.returns-then-array-self
returns-then-array-self c =
    let s = c.self.inside in
    let l : Laid = record { index = s.index; slots = s.cells.now; live = s.live } in
    c.count.ensures ∙ (ap (λ (xs : List ℕ). get_or xs c.args.array 0) c.deref.ensures.value ∙ (c.self.invariant.counted.counted c.args.array ∙ (ap (λ (e : Elements). len e) (sym (array_there l c.args.array c.if-array-self.true)) ∙ ap (λ w. len (array_at c.args.array (arrays_of w.now))) c.self.view_is)))

pub returns : goal.returns
returns c =
    let s = c.self.inside in
    let l : Laid = record { index = s.index; slots = s.cells.now; live = s.live } in
    sym (len-empty (slice_cmp nat_cmp) Value)
    ∙ (ap (λ (e : Elements). len e) (sym (array_past l c.args.array c.if-array-self.false)) ∙ ap (λ w. len (array_at c.args.array (arrays_of w.now))) c.self.view_is)
