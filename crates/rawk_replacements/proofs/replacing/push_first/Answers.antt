use Rattle.std.proofs.Common.{[], ◌∙◌}
use Rattle.rawk_replacements.proofs.Cutting.{last_text, one_text}
use Rattle.rawk_replacements.proofs.replacing.push_first.Goals as goal

pub returns-clause-items : goal.returns-clause-items
returns-clause-items c =
    last_text c.args.by.now c.args.text.now c.push_match.new.out.items c.extend_from_slice.new.self.items c.args.first.end c.in_ok-extend_from_slice.ensures.items
    ∙ one_text c.args.by.now c.args.text.now c.args.out.now.items c.push_match.new.out.items 0 c.args.first [] c.in_ok-push_match.ensures
