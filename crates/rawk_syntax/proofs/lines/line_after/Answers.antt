use Rattle.std.proofs.Common.{◌≡◌, ℕ, ◌+◌, ◌-◌, ◌≤◌, ◌==◌, cond, List, length, take, drop, take-add, ap, ◌∙◌, arith}
use Rattle.std.proofs.lemmas.List.Sums.{sum_by-append}
use Rattle.rawk_lexer.specs.Lines.{newlines}
use Rattle.rawk_syntax.proofs.lines.line_after.Goals as goal

-- the newlines of a text's front, in two pieces
in_pieces : (text : List ℕ) (a b : ℕ) → a ≤ b → newlines (take b text) ≡ newlines (take a text) + newlines (take (b - a) (drop a text))
in_pieces text a b h =
    let e : b ≡ a + (b - a) = omega arith in
    ap (λ n. newlines (take n text)) e ∙ ap newlines (take-add a (b - a) text) ∙ sum_by-append (λ x. cond (x == 10) 1 0) (take a text) (take (b - a) (drop a text))

joined : (a b m line n : ℕ) → b ≡ a + m → line ≡ a + 1 → n ≡ m → line + n ≡ b + 1
joined a b m line n whole known more = omega arith

pub returns-then-before-text : goal.returns-then-before-text
returns-then-before-text c =
    let whole = in_pieces c.args.text.now (length c.args.text.now - c.args.before) (length c.args.text.now - c.args.left) (omega arith) in
    joined _ _ _ _ _ whole c.requires c.newlines.ensures.value
