use Rattle.std.proofs.Common.{ℕ, ◌∷◌, pos, Option, None, Some, Result, Ok, Err, refl, ap, subst, ◌∙◌}
use Rattle.rawk_value.specs.declared.fault.Fault.{Fault}
use Rattle.rawk_value.specs.Values.{next_ok}
use Rattle.rawk_replacements.specs.Replaced.{Replaced, made_with}
use Rattle.rawk_value.specs.declared.value.Value.TheVariants.{Number, String}
use Rattle.rawk_code.specs.declared.code.Op.TheVariants as does
use Rattle.rawk_operands.specs.Moving.{HasPut, Moving, moving}
use Rattle.rawk_operate.specs.PutLaws.{put_faults, put_pushes}
use Rattle.rawk_texts.proofs.Replaces.{left_below, left_parts, left_read, place_in, replace_assigns, replace_misses, replace_refused, replaced_known}
use Rattle.rawk_operate.specs.Done.{led_by}
use Rattle.rawk_texts.proofs.replace.replace_in.Goals as goal

pub returns-in-Err-clause-did : goal.returns-in-Err-clause-did
returns-in-Err-clause-did g c =
    let m = moving c.args.store.now in
    let made_in : Result (Option ℕ) Fault → Result (Option Replaced) Fault = λ o. next_ok o (λ n. Ok (made_with c.replaced_text.new.expressions.made.items n)) in
    let mid = moving c.drop_place.new.store in
    let at = c.in_ok-place.ensures m.operands c.popped_borrowed.ensures in
    let is = replaced_known c.args.extent c.args.from.now c.args.to m mid c.in_ok-place.place (made_in c.in_ok-replaced.replaced) (Err c.in-Err.fault) at c.drop_place.ensures.did c.in_ok-replaced.ensures (ap made_in c.in-Err.is) in
    replace_refused c.args.extent c.args.from.now c.args.to m mid c.in-Err.fault (led_by c.faulted.result) c.drop_place.ensures.did is c.faulted.ensures

pub returns-in-None-clause-did : goal.returns-in-None-clause-did
returns-in-None-clause-did g c =
    let m = moving c.args.store.now in
    let made_in : Result (Option ℕ) Fault → Result (Option Replaced) Fault = λ o. next_ok o (λ n. Ok (made_with c.replaced_text.new.expressions.made.items n)) in
    let mid = moving c.drop_place.new.store in
    let read = moving c.touch.new.store in
    let bare = moving c.drop_replacement.new.store in
    let place = c.in_ok-place.place in
    let at = c.in_ok-place.ensures m.operands c.popped_borrowed.ensures in
    let is = replaced_known c.args.extent c.args.from.now c.args.to m mid place (made_in c.in_ok-replaced.replaced) (Ok None) at c.drop_place.ensures.did c.in_ok-replaced.ensures (ap made_in (c.in-Ok.is ∙ ap Ok c.in-None.is)) in
    let left = left_read c.args.from.now c.args.to m mid read bare place at c.drop_place.ensures.did c.in_ok-touch-in-None.ensures.did c.drop_replacement.ensures.did in
    replace_misses c.args.extent c.args.from.now c.args.to m bare (moving c.put.new.store) left c.in_ok-put-in-None.ensures.did is

pub returns-in-Some-refused-clause-did : goal.returns-in-Some-refused-clause-did
returns-in-Some-refused-clause-did g c =
    let m = moving c.args.store.now in
    let made_in : Result (Option ℕ) Fault → Result (Option Replaced) Fault = λ o. next_ok o (λ n. Ok (made_with c.replaced_text.new.expressions.made.items n)) in
    let x = c.args.to in
    let from = c.args.from.now in
    let mid = moving c.drop_place.new.store in
    let bare = moving c.drop_replacement-in-Some.new.store in
    let r : Replaced = record { text = c.replaced_text.new.expressions.made.items; count = c.in-Some.count } in
    let at = c.in_ok-place.ensures m.operands c.popped_borrowed.ensures in
    let is = replaced_known c.args.extent from x m mid c.in_ok-place.place (made_in c.in_ok-replaced.replaced) (Ok (Some r)) at c.drop_place.ensures.did c.in_ok-replaced.ensures (ap made_in (c.in-Ok.is ∙ ap Ok c.in-Some.is)) in
    let left = left_parts from x m mid bare c.drop_place.ensures.did c.drop_replacement-in-Some.ensures.did in
    put_faults (does.Replace c.args.extent from x) (place_in x m) c.in_ok-place.place (String r.text) (String r.text) (Number (pos r.count) ∷ left_below from x m) (left_below from x m) m (moving c.put_text_in.new.store) c.in_ok-refused-in-Some.refused c.in-Some-refused.fault (led_by c.faulted-in-Some-refused.result)
    (replace_assigns c.args.extent from x m r is) at refl (subst (λ (y : Moving). HasPut c.in_ok-place.place (String r.text) c.in_ok-refused-in-Some.refused y (moving c.put_text_in.new.store)) left c.in_ok-refused-in-Some.ensures.did) c.in-Some-refused.is c.faulted-in-Some-refused.ensures

pub returns-clause-did : goal.returns-clause-did
returns-clause-did g c =
    let m = moving c.args.store.now in
    let made_in : Result (Option ℕ) Fault → Result (Option Replaced) Fault = λ o. next_ok o (λ n. Ok (made_with c.replaced_text.new.expressions.made.items n)) in
    let x = c.args.to in
    let from = c.args.from.now in
    let mid = moving c.drop_place.new.store in
    let bare = moving c.drop_replacement-in-Some.new.store in
    let r : Replaced = record { text = c.replaced_text.new.expressions.made.items; count = c.in-Some.count } in
    let at = c.in_ok-place.ensures m.operands c.popped_borrowed.ensures in
    let is = replaced_known c.args.extent from x m mid c.in_ok-place.place (made_in c.in_ok-replaced.replaced) (Ok (Some r)) at c.drop_place.ensures.did c.in_ok-replaced.ensures (ap made_in (c.in-Ok.is ∙ ap Ok c.in-Some.is)) in
    let left = left_parts from x m mid bare c.drop_place.ensures.did c.drop_replacement-in-Some.ensures.did in
    put_pushes (does.Replace c.args.extent from x) (place_in x m) c.in_ok-place.place (String r.text) (String r.text) (Number (pos r.count)) c.in_ok-count-in-Some.count (left_below from x m) m (moving c.put_text_in.new.store) (moving c.put-in-None-refused.new.store) c.in_ok-refused-in-Some.refused
    (replace_assigns c.args.extent from x m r is) at refl (subst (λ (y : Moving). HasPut c.in_ok-place.place (String r.text) c.in_ok-refused-in-Some.refused y (moving c.put_text_in.new.store)) left c.in_ok-refused-in-Some.ensures.did) c.in-None-refused.is c.in_ok-count-in-Some.ensures c.in_ok-put-in-None-refused.ensures.did
