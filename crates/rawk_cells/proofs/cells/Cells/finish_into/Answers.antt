use Rattle.std.proofs.Common.{◌≡◌, ◌∙◌, ap, sym, refl, subst, [], List, Option, append-nil, arith}
use Rattle.std.specs.Prelude.{IfSome}
use Rattle.std.specs.Global.{Box}
use Rattle.rawk_value.specs.declared.value.Value.{Value}
use Rattle.rawk_cells.specs.declared.cells.Appended.{Appended}
use Rattle.rawk_cells.specs.declared.cells.Grown.{Grown}
use Rattle.rawk_cells.specs.Cells.{GrewAlone, HasGrown, IsOf, before_growth, cut_at}
use Rattle.rawk_cells.proofs.cells.Cells.finish_into.Goals as goal

pub returns-in-Some-2-clause-did : goal.returns-in-Some-2-clause-did
returns-in-Some-2-clause-did c =
    let s = c.self.inside.slots in
    let g = c.in-Some.grown in
    let a = c.in-Some-2.appended in
    let of : IsOf g a.value s.now = subst (λ (o : Option (Box Appended)). IfSome o (λ b. IsOf g b.value s.now)) c.in-Some-2.is c.in_ok-appended.ensures in
    let alone : GrewAlone g s = subst (λ (o : Option Grown). HasGrown o s) c.in-Some.is c.self.invariant in
    let now : s.now ≡ c.args.self.now.now = ap (λ j. j.now) c.self.view_is in
    let start : cut_at g.place g.count s.now ≡ c.args.self.now.start =
    ap (λ (xs : List Value). cut_at g.place g.count xs) (sym alone.rest) ∙ (ap (λ (o : Option Grown). before_growth o s.start) (sym c.in-Some.is) ∙ ap (λ j. j.start) c.self.view_is) in
    let same : cut_at a.value.place a.value.count c.args.self.now.now ≡ c.args.self.now.start = ap (λ (xs : List Value). cut_at a.value.place a.value.count xs) (sym now) ∙ (rw (of.place, of.count) refl ∙ start) in
    record {
      added = record { entries = []; is = c.truncate.ensures.items ∙ sym (append-nil _); back = same; below = tt; distinct = λ i j a b p q e. absurd (omega (arith, p)) };
      fits = subst (λ (xs : List Value). Rattle.rawk_cells.specs.Cells.IsAppended a.value xs) now of.is;
      alone = refl;
    }
