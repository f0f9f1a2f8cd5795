use Rattle.std.specs.Prelude.{not}
use Rattle.std.proofs.Common.{◌≡◌, ◌<◌, ◌∙◌, ℕ, nat_eq, ap, sym, subst, length, Option, Some, arith}
use Rattle.rawk_cells.specs.declared.cells.Grown.{Grown}
use Rattle.rawk_cells.specs.Cells.{before_growth, Grew, GrewAlone, HasGrown}
use Rattle.rawk_cells.proofs.Puts.{before_on, grew_first}
use Rattle.rawk_slots.specs.Saving.{OnTrue-any, OnTrue-map}
use Rattle.rawk_cells.proofs.cells.Cells.append.Goals as goal

pub returns-in-Some-2-clause-start : goal.returns-in-Some-2-clause-start
returns-in-Some-2-clause-start g c =
    let s = c.self.inside.slots in
    let n = c.in-Some-2.count in
    let w : Grew c.args.place c.args.more.now s.now c.grow.new.slots (Some n) = subst (λ (o : Option ℕ). Grew c.args.place c.args.more.now s.now c.grow.new.slots o) c.in-Some-2.is c.in_ok-count-in-None.ensures.did in
    let size : c.len.result ≡ length s.now = c.len.ensures in
    let within : c.args.place < length s.now = omega arith in
    let grown : Grown = record { place = c.args.place; count = n } in
    let a = grew_first s c.grow.new.slots c.args.place n c.args.more.now within c.if-is_at_rest.ensures w in
    let made = c.noted-self-inside.result in
    OnTrue-map (not (nat_eq g.row.SAVES 0)) (made ≡ Some grown) (before_growth made c.grow.new.slots.start ≡ c.args.self.now.start)
    (λ e. ap (λ (o : Option Grown). before_growth o c.grow.new.slots.start) e
    ∙ (before_on grown s c.grow.new.slots c.args.more.now n a.0 w
    ∙ (a.1 ∙ (ap (λ (o : Option Grown). before_growth o s.start) (sym c.in-None.is) ∙ ap (λ j. j.start) c.self.view_is))))
    c.noted-self-inside.ensures.saved

pub returns-in-Some-3-clause-start : goal.returns-in-Some-3-clause-start
returns-in-Some-3-clause-start g c =
    let s = c.self.inside.slots in
    let grown = c.in-Some.grown in
    let n = c.in-Some-3._count in
    let new = c.grow-then-grown-place.new.slots in
    let w : Grew c.args.place c.args.more.now s.now new (Some n) = subst (λ (o : Option ℕ). Grew c.args.place c.args.more.now s.now new o) c.in-Some-3.is c.in_ok-_count-in-Some.ensures.did in
    let at : Grew grown.place c.args.more.now s.now new (Some n) = subst (λ (p : ℕ). Grew p c.args.more.now s.now new (Some n)) (sym c.if-grown-place.true) w in
    let a : GrewAlone grown s = subst (λ (o : Option Grown). HasGrown o s) c.in-Some.is c.self.invariant in
    OnTrue-any _ _
    (ap (λ (o : Option Grown). before_growth o new.start) c.in-Some.is
    ∙ (before_on grown s new c.args.more.now n a at
    ∙ (ap (λ (o : Option Grown). before_growth o s.start) (sym c.in-Some.is) ∙ ap (λ j. j.start) c.self.view_is)))
