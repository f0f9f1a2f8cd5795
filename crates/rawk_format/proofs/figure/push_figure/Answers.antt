-- The pieces are those of the definition.
use Rattle.std.proofs.Common.{◌≡◌, ◌∙◌, Bool, sym, ap, length}
use Rattle.std.specs.Prelude.{◌||◌, if◌then◌else◌}
use Rattle.rawk_format.specs.Format.{head_text, figure_body}
use Rattle.rawk_format.proofs.Grown.{follows_then, padded_in_pieces}
use Rattle.rawk_format.proofs.figure.push_figure.Goals as goal
use Rattle.rawk_format.proofs.figure.push_figure.Goals.{then-left, else-left}

pub returns-clause-added : goal.returns-clause-added
returns-clause-added c =
    let both : c.if-left.room_unless ≡ (c.args.left || c.args.figure.filled) = elim c.if-left.branch [
      | then-left w ↦ w.room_unless-is ∙ w.if-left.true ∙ sym (ap (λ b. b || c.args.figure.filled) w.if-left.true)
      | else-left w ↦ w.room_unless-is ∙ sym (ap (λ b. b || c.args.figure.filled) w.if-left.false)
    ] in
    padded_in_pieces c.args.left c.args.figure.filled c.args.width c.room-room.result c.room_unless.result c.room_if.result c.room_if-2.result (head_text c.args.figure.head) (figure_body c.args.figure) c.head_text-head.result.now
    c.args.out.now.items c.push_fill.new.out.items c.push_bytes.new.out.items c.push_fill-2.new.out.items c.push_body.new.out.items c.push_fill-3.new.out.items
    c.in_ok-push_fill.ensures.added c.in_ok-push_bytes.ensures.added c.in_ok-push_fill-2.ensures.added c.in_ok-push_body.ensures.added c.in_ok-push_fill-3.ensures.added
    c.head_text-head.ensures (c.room-room.ensures (length (figure_body c.args.figure)) c.body_len.ensures) (c.room_unless.ensures ∙ ap (λ (b : Bool). if b then 0 else c.room-room.result) both) c.room_if.ensures c.room_if-2.ensures

pub returns-clause-kept : goal.returns-clause-kept
returns-clause-kept c =
    follows_then c.push_fill.ensures.kept (follows_then c.push_bytes.ensures.kept
    (follows_then c.push_fill-2.ensures.kept (follows_then c.push_body.ensures.kept c.push_fill-3.ensures.kept)))
