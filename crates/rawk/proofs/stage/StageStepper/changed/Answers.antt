use Rattle.std.proofs.Common.{◌≡◌, ◌∙◌, ap, sym, subst, IsTrue, Option}
use Rattle.std.specs.Prelude.{not, is_some, option_copied}
use Rattle.rawk_value.specs.Values.{Bytes}
use Rattle.rawk_value.specs.declared.value.Value.{Value}
use Rattle.rawk_answers.specs.declared.stop.Watched.TheVariants.{Element}
use Rattle.rawk_store.specs.Observed.{seen}
use Rattle.rawk_answers.specs.Watching.{same_held, differs, value_at}
use Rattle.rawk.specs.Staged.{Staged, seen_or}
use Rattle.rawk.proofs.Stages.{some_of}
use Rattle.rawk.proofs.stage.StageStepper.changed.Goals as goal

pub returns-in-Element : goal.returns-in-Element
returns-in-Element g c =
    let m = c.self.inside.machine in
    let a = c.in-Element.array in
    let key = c.in-Element.key in
    let some = some_of m.before (subst (λ (s : Staged g.row.R.Denot). IsTrue (is_some s.machine.before)) (sym c.self.view_is) c.requires) in
    let left : option_copied c.earlier_element.result ≡ value_at (Element a key) some.0 = c.earlier_element.ensures some.0 some.1 ∙ ap (λ (k : Bytes). value_at (Element a k) some.0) c.as_slice.ensures in
    let right : option_copied c.element.result ≡ value_at (Element a key) (seen m.state) = c.element.ensures ∙ ap (λ (k : Bytes). value_at (Element a k) (seen m.state)) c.as_slice-in-Element.ensures in
    ap not (c.same_held.ensures ∙ ap (λ (o : Option Value). same_held o (option_copied c.element.result)) left ∙ ap (same_held (value_at (Element a key) some.0)) right)
    ∙ ap (λ o. differs (Element a key) (seen_or o) (seen m.state)) (sym some.1)
    ∙ ap (λ (s : Staged g.row.R.Denot). differs (Element a key) (seen_or s.machine.before) (seen s.machine.state)) c.self.view_is
    ∙ ap (λ w. differs w (seen_or c.args.self.now.machine.before) (seen c.args.self.now.machine.state)) (sym c.in-Element.is)
