use Rattle.std.proofs.Common.{◌∷◌, [], ◌++◌, map, ap, ◌∙◌}
use Rattle.rawk_ere_tree.specs.Kept.{shown}
use Rattle.rawk_ere_tree.proofs.KeptLemmas.{kept_more}
use Rattle.rawk_ere_tree.proofs.code.Code.push.Goals as goal

pub returns : goal.returns
returns c =
    ap (map (shown c.keep.new.sets.items)) c.in_ok-push.ensures.items
    ∙ kept_more c.self.inside.sets.items c.keep.new.sets.items c.self.inside.kept.items c.in_ok-kept.kept c.args.instruction.now c.keep.ensures.grows c.self.invariant c.in_ok-kept.ensures.shown
    ∙ ap (λ l. l ++ c.args.instruction.now ∷ []) c.self.view_is
