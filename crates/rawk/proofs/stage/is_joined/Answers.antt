use Rattle.std.proofs.Common.{◌≡◌, ◌∙◌, ◌++◌, ap, sym, length, take, drop, List, ℕ, false}
use Rattle.std.proofs.lemmas.List.{length-take-le, take-append-drop}
use Rattle.std.specs.Str.{bytes_eq}
use Rattle.std.specs.Cmp.Lexicographic.{same_text}
use Rattle.rawk.proofs.Joined.{same_front, other_front}
use Rattle.rawk.proofs.stage.is_joined.Goals as goal

pub returns-then-eq : goal.returns-then-eq
returns-then-eq c =
    let front = c.args.front.now in
    let behind = c.args.behind.now in
    let text = c.args.text.now in
    let n = length front in
    let whole : text ≡ front ++ drop n text = sym (take-append-drop n text) ∙ ap (λ (t : List ℕ). t ++ drop n text) (sym c.split_at.ensures.front ∙ sym (same_text front c.split_at.result.0.now c.if-eq.ensures)) in
    c.eq-then-eq.ensures ∙ (ap (λ (t : List ℕ). bytes_eq behind t) c.split_at.ensures.back ∙ (sym (same_front front behind (drop n text)) ∙ ap (λ (t : List ℕ). bytes_eq (front ++ behind) t) (sym whole)))

pub returns-else-eq : goal.returns-else-eq
returns-else-eq c =
    let front = c.args.front.now in
    let behind = c.args.behind.now in
    let text = c.args.text.now in
    let n = length front in
    let differs : bytes_eq front (take n text) ≡ false = ap (λ (t : List ℕ). bytes_eq front t) (sym c.split_at.ensures.front) ∙ sym c.if-eq.ensures in
    c.if-eq.false ∙ (sym (other_front front behind (take n text) (drop n text) (sym (length-take-le n text c.if-text-front.false)) differs) ∙ ap (λ (t : List ℕ). bytes_eq (front ++ behind) t) (take-append-drop n text))
