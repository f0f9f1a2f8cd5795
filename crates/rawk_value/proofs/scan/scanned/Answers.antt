-- Each part of the scan is that of the front.
use Rattle.std.proofs.Common.{◌≡◌, ◌+◌, nat_lt, length, drop, ap, subst, sym, ◌∙◌, refl}
use Rattle.std.specs.List.{prefix_len, take_while}
use Rattle.std.proofs.lemmas.List.Folds.{length-prefix_len}
use Rattle.rawk_value.specs.Scans.{Summarizes, part_of, point_size}
use Rattle.rawk_value.specs.Values.{Bytes, is_digit, is_blank, sign_size, exponent_size}
use Rattle.rawk_value.proofs.Fronts.{from_sign, from_sign_at, front_is, part_any}
use Rattle.rawk_value.proofs.scan.scanned.Goals as goal

pub returns : goal.returns
returns c =
    let text : Bytes = c.args.text.now in
    let s : Bytes = c.after-at_sign.result.now in
    let t : Bytes = c.after-at_digits.result.now in
    let u : Bytes = c.after-at_point.result.now in
    let v : Bytes = c.after-at_exponent.result.now in
    let whole_len : c.digits-whole.result.len ≡ length (take_while is_digit t) = c.digits-whole.ensures.len ∙ sym (length-prefix_len is_digit t) in
    let es : s ≡ drop (prefix_len is_blank text) text = c.after-at_sign.ensures ∙ ap (λ n. drop n text) c.blanks.ensures.value in
    let et : t ≡ drop (sign_size s) s = c.after-at_digits.ensures ∙ ap (λ n. drop n s) c.sign.ensures.value in
    let eu : u ≡ drop (length (take_while is_digit t)) t = c.after-at_point.ensures ∙ ap (λ n. drop n t) whole_len in
    let ev : v ≡ drop (point_size u + length (part_of u)) u =
    c.after-at_exponent.ensures ∙ ap (λ n. drop (n + c.part-part.result.len) u) c.point.ensures.value ∙ ap (λ n. drop (point_size u + n) u) c.part-part.ensures.len in
    let ew : c.after.result.now ≡ drop (exponent_size v) v = c.after.ensures ∙ ap (λ n. drop n v) c.exponent-size.ensures.value in
    let whole = front_is text ∙ ap from_sign (sym es) ∙ from_sign_at s t u v c.after.result.now et eu ev ew in
    subst (Summarizes _) (sym whole) (record {
      negative = c.begins_with.ensures;
      size = c.digits-whole.ensures.size;
      has_digits = ap (λ n. nat_lt 0 (n + c.part-part.result.len)) whole_len ∙ ap (λ n. nat_lt 0 (length (take_while is_digit t) + n)) c.part-part.ensures.len;
      has_part = part_any u c.part-part.result.size c.part-part.ensures.size;
      has_exponent = ap (nat_lt 0) c.exponent-size.ensures.value;
      rest = refl;
    })
