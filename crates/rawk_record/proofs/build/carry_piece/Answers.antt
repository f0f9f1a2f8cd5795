use Rattle.std.proofs.Common.{[], cond, length, List, nat_lt, None, arith, refl, ap, ◌+◌, ◌++◌, ◌-◌, ◌∙◌, ◌∷◌, ◌≡◌, ℕ}
use Rattle.std.proofs.lemmas.List.{length-append}
use Rattle.std.specs.Prelude.{slice_range}
use Rattle.rawk_value.specs.declared.value.Value.TheVariants.{Input}
use Rattle.rawk_record.specs.Drafts.{ahead_values, with_ahead, IsDraftOf}
use Rattle.rawk_record.specs.Shown.{values}
use Rattle.rawk_record.proofs.Drafts.{kept-none, length-slice_range, length-with_ahead, more-both}
use Rattle.rawk_record.proofs.build.carry_piece.Goals as goal

pub overflow_sub-start-2 : goal.overflow_sub-start-2
overflow_sub-start-2 c =
    let from : List ℕ = c.args.from.now in
    let p = c.args.piece in
    let spaced : List ℕ = with_ahead c.args.parts.now.text.items from c.args.ahead ++ cond (nat_lt 0 c.len-needed.result) c.args.separator.now [] in
    let grown = length-with_ahead c.reach.new.text.items from c.in_ok-reached.reached c.in_ok-reached.ensures.range in
    let all = ap length c.in_ok-reached.ensures.text ∙ length-append spaced (slice_range from p.start p.end) in
    omega (arith, grown, all, length-slice_range from p.start p.end c.requires.piece.1, c.len.ensures, c.reach.new.text.ok.0)

-- the draft with the piece, and its fields
carried : (c : goal.In_ok-push) → let from = c.args.from.now in let grown = with_ahead c.reach.new.text.items from c.in_ok-reached.reached in
    IsDraftOf c.args.separator.now grown c.push.new.self.items c.args.parts.now.kept.items
    × (values grown c.push.new.self.items c.args.parts.now.kept.items ≡ ahead_values c.args.parts.now from c.args.ahead ++ Input (slice_range from c.args.piece.start c.args.piece.end) ∷ [])
carried c =
    let from : List ℕ = c.args.from.now in
    let s = c.args.parts.now in
    let p = c.args.piece in
    let r = c.in_ok-reached.reached in
    let end = c.len.result + (r.end - r.start) in
    let spaced : List ℕ = with_ahead s.text.items from c.args.ahead ++ cond (nat_lt 0 c.len-needed.result) c.args.separator.now [] in
    let grown : List ℕ = with_ahead c.reach.new.text.items from r in
    let size = length-with_ahead c.reach.new.text.items from r c.in_ok-reached.ensures.range in
    let all = ap length c.in_ok-reached.ensures.text ∙ length-append spaced (slice_range from p.start p.end) in
    let part = length-slice_range from p.start p.end c.requires.piece.1 in
    let count : c.len-needed.result ≡ length s.pieces.items = omega (arith, s.pieces.ok.0, c.len-needed.ensures) in
    let text : c.len.result ≡ length c.reach.new.text.items = omega (arith, c.reach.new.text.ok.0, c.len.ensures) in
    more-both c.args.separator.now (with_ahead s.text.items from c.args.ahead) spaced grown s.pieces.items c.push.new.self.items s.kept.items s.kept.items c.len-needed.result (end - (p.end - p.start)) end
    (Input (slice_range from p.start p.end)) None
    c.requires.ahead.draft count refl c.in_ok-reached.ensures.text refl (omega (arith, size, all, part, text)) (omega (arith, size, text)) c.in_ok-push.ensures.items
    (kept-none (length s.pieces.items) s.kept.items None refl c.requires.ahead.draft.aligned) (omega (arith, c.requires.ahead.draft.aligned))

pub returns-clause-ahead : goal.returns-clause-ahead
returns-clause-ahead c = record { draft = (carried c).0; range = c.in_ok-reached.ensures.range }

pub returns-clause-fields : goal.returns-clause-fields
returns-clause-fields c = (carried c).1
