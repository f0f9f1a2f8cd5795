use Rattle.std.proofs.Common.{◌∙◌, ap, sym, length, take, reverse}
use Rattle.std.proofs.lemmas.List.{length-reverse}
use Rattle.rawk_frames.specs.KeptStacks.{lists_of}
use Rattle.rawk_history.proofs.Saved.{length_of}
use Rattle.rawk_history.proofs.full.Full.len.Goals as goal

pub returns : goal.returns
returns c =
    let i = c.self.inside in
    let all = length_of (reverse i.marks.items) (reverse i.slows.items) (take i.live i.globals.items) (lists_of i.stacks) (reverse i.others.items) (reverse i.records.items) (reverse i.sets.items) in
    c.len.ensures ∙ (i.marks.ok.0 ∙ (sym (length-reverse i.marks.items) ∙ (sym all ∙ ap (λ k. length k.kept) c.self.view_is)))
