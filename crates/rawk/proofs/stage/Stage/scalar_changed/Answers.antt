use Rattle.std.proofs.Common.{◌≡◌, ◌-◌, ◌∙◌, ap, sym, subst, Bool, false, IsTrue, if◌then◌else◌}
use Rattle.std.specs.Prelude.{not, is_some, slice_index_or, unwrap_or, option_copied, option_map, ◌==◌}
use Rattle.rawk_record.specs.FieldRefs.{ref_value}
use Rattle.std.proofs.lemmas.Bool.{ne_eqb}
use Rattle.rawk_value.specs.declared.value.Value.{Value}
use Rattle.rawk_value.specs.declared.value.Value.TheVariants.{Uninitialized, Input}
use Rattle.rawk_answers.specs.declared.stop.Scalar.{Scalar}
use Rattle.rawk_answers.specs.declared.stop.Scalar.TheVariants.{Global, Field}
use Rattle.rawk_store.specs.Lent.{lent}
use Rattle.rawk_store.specs.Observed.{Observed, seen}
use Rattle.rawk_answers.specs.Watching.{same_value, scalar_at}
use Rattle.rawk.specs.Staged.{Staged, seen_or}
use Rattle.rawk.proofs.Stages.{some_of, or_at}
use Rattle.rawk.proofs.stage.Stage.scalar_changed.Goals as goal

abbrev apart : Scalar → Observed → Observed → Bool
apart place s t = not (same_value (scalar_at place s) (scalar_at place t))

pub returns-in-Global : goal.returns-in-Global
returns-in-Global g c =
    let m = c.self.inside.machine in
    let n = c.in-Global.number in
    let some = some_of m.before (subst (λ (s : Staged g.row.R.Denot). IsTrue (is_some s.machine.before)) (sym c.self.view_is) c.requires) in
    let left = or_at some.0.globals n (option_map lent c.earlier_global.result) (c.earlier_global.ensures some.0 some.1) in
    let right = or_at m.state.globals n (option_copied c.global.result) c.global.ensures in
    ap not (c.same_global.ensures ∙ ap (λ (v : Value). same_value v (unwrap_or (option_copied c.global.result) Uninitialized)) left ∙ ap (same_value (slice_index_or some.0.globals n Uninitialized)) right)
    ∙ ap (λ o. apart (Global n) (seen_or o) (seen m.state)) (sym some.1)
    ∙ ap (λ (s : Staged g.row.R.Denot). apart (Global n) (seen_or s.machine.before) (seen s.machine.state)) c.self.view_is
    ∙ ap (λ w. apart w (seen_or c.args.self.now.machine.before) (seen c.args.self.now.machine.state)) (sym c.in-Global.is)

pub returns-else-number-eq0 : goal.returns-else-number-eq0
returns-else-number-eq0 g c =
    let m = c.self.inside.machine in
    let n = c.in-Field.number in
    let some = some_of m.before (subst (λ (s : Staged g.row.R.Denot). IsTrue (is_some s.machine.before)) (sym c.self.view_is) c.requires) in
    let left = or_at some.0.fields (n - 1) (option_map ref_value c.earlier_field.result) (c.earlier_field.ensures some.0 some.1) in
    let right = or_at m.state.fields (n - 1) (option_map ref_value c.field.result) c.field.ensures in
    let other : (n == 0) ≡ false = ne_eqb n 0 c.if-number-eq0.false in
    let pick = λ (b : Bool). not (same_value (if b then Input some.0.whole else slice_index_or some.0.fields (n - 1) Uninitialized) (if b then Input m.state.whole else slice_index_or m.state.fields (n - 1) Uninitialized)) in
    ap not (c.same_field.ensures ∙ ap (λ (v : Value). same_value v (unwrap_or (option_map ref_value c.field.result) Uninitialized)) left ∙ ap (same_value (slice_index_or some.0.fields (n - 1) Uninitialized)) right)
    ∙ ap pick (sym other)
    ∙ ap (λ o. apart (Field n) (seen_or o) (seen m.state)) (sym some.1)
    ∙ ap (λ (s : Staged g.row.R.Denot). apart (Field n) (seen_or s.machine.before) (seen s.machine.state)) c.self.view_is
    ∙ ap (λ w. apart w (seen_or c.args.self.now.machine.before) (seen c.args.self.now.machine.state)) (sym c.in-Field.is)
