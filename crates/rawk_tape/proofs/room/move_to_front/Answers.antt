use Rattle.std.proofs.Common.{◌∙◌, ap, take, ◌-◌, List, ℕ}
use Rattle.rawk_tape.proofs.Kept.{moved_to_front}
use Rattle.rawk_tape.proofs.room.move_to_front.Goals as goal

pub returns-clause-kept : goal.returns-clause-kept
returns-clause-kept c =
    ap (λ (x : List ℕ). take (c.args.end - c.args.start) x) c.copy_within.ensures.items ∙ moved_to_front c.args.items.now.items c.args.start c.args.end c.requires.low c.requires.high
