use Rattle.std.proofs.Common.{◌≡◌, ◌∙◌, ◌++◌, ap, sym, subst, List}
use Rattle.std.specs.Prelude.{slice_set, OnOk}
use Rattle.std.proofs.lemmas.Option.{get_or_from_slice_get}
use Rattle.rawk_value.specs.declared.value.Value.{Value}
use Rattle.rawk_value.specs.declared.value.Value.TheVariants.{Uninitialized, String}
use Rattle.rawk_value.specs.Values.{text_of}
use Rattle.rawk_cells.specs.Cells.{longer_at}
use Rattle.rawk_cells.proofs.Puts.{longer_past}
use Rattle.rawk_cells.proofs.cells.Cells.append_copy.Goals as goal

pub returns-in-None-clause-did : goal.returns-in-None-clause-did
returns-in-None-clause-did g c =
    subst (λ (xs : List Value). xs ≡ longer_at c.args.place c.args.more.now xs) (ap (λ j. j.now) c.self.view_is) (sym (longer_past c.self.inside.slots.now c.args.place c.args.more.now (sym c.in-None.ensures)))

pub returns-in_ok-longer-in-Some-clause-did : goal.returns-in_ok-longer-in-Some-clause-did
returns-in_ok-longer-in-Some-clause-did g c =
    let xs = c.self.inside.slots.now in
    let same : xs ≡ c.args.self.now.now = ap (λ j. j.now) c.self.view_is in
    let was = get_or_from_slice_get xs c.args.place c.in-Some.value.now Uninitialized (sym c.in-Some.ensures) in
    let is = c.in_ok-longer-in-Some.ensures ∙ ap (λ (v : Value). String (text_of v ++ c.args.more.now)) (sym was) in
    let there : slice_set xs c.args.place c.in_ok-longer-in-Some.longer ≡ longer_at c.args.place c.args.more.now xs = ap (λ (v : Value). slice_set xs c.args.place v) is in
    let all : slice_set c.args.self.now.now c.args.place c.in_ok-longer-in-Some.longer ≡ longer_at c.args.place c.args.more.now c.args.self.now.now =
    subst (λ (ys : List Value). slice_set ys c.args.place c.in_ok-longer-in-Some.longer ≡ longer_at c.args.place c.args.more.now ys) same there in
    subst (λ (ys : List Value). OnOk c.set.result (c.set.new.self.now ≡ ys)) all c.set.ensures.did
