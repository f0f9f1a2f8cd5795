use Rattle.std.proofs.Common.{◌≡◌, ◌++◌, ◌∙◌, ap, append_assoc}
use Rattle.std.proofs.lemmas.Result.{on_ok_weaker}
use Rattle.rawk_value.specs.Values.{Bytes}
use Rattle.rawk_store.specs.State.{array_in, keys_in}
use Rattle.rawk_answers.specs.Texts.{array_line, element_lines}
use Rattle.rawk_answers.proofs.text.push_array.Goals as goal

pub returns : goal.returns
returns g c =
    let machine = c.args.machine.now in
    let p = (g.M.Stepper.position machine).program in
    let h = g.M.Stepper.held machine in
    let a = c.args.array in
    let old = c.args.out.now.items in
    let mid = c.push_array_line.new.out.items in
    let keys = keys_in (array_in a h.state.frames) h.state.arrays in
    let found = c.deref.result.now in
    on_ok_weaker c.push_elements.result (λ (e : c.push_elements.new.out.items ≡ mid ++ element_lines p a h found). e
    ∙ ap (λ ks. mid ++ element_lines p a h ks) c.deref.ensures.value
    ∙ ap (λ ks. mid ++ element_lines p a h ks) c.in_ok-keys.ensures
    ∙ ap (λ (b : Bytes). b ++ element_lines p a h keys) c.in_ok-push_array_line.ensures
    ∙ append_assoc old (array_line p a h.state) (element_lines p a h keys)) c.push_elements.ensures
