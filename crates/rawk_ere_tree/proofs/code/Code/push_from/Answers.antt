use Rattle.std.proofs.Common.{◌<◌, ◌∷◌, [], ◌++◌, map, length, arith, ap, ◌∙◌, sym}
use Rattle.std.specs.Prelude.{slice_get}
use Rattle.std.proofs.lemmas.List.{length-map}
use Rattle.rawk_ere_tree.specs.Kept.{shown}
use Rattle.rawk_ere_tree.proofs.KeptLemmas.{kept_more, shown_at}
use Rattle.rawk_ere_tree.proofs.code.Code.push_from.Goals as goal

pub returns : goal.returns
returns c =
    let x = shown c.other.inside.sets.items c.index.result.now in
    let ks = c.other.inside.kept.items in
    let within : c.args.index < length ks = omega (arith, c.requires, ap length c.other.view_is, length-map ks (shown c.other.inside.sets.items)) in (
      x,
      ap (λ l. slice_get l c.args.index) (sym c.other.view_is)
          ∙ shown_at c.other.inside.sets.items ks c.args.index c.index.result.now within c.index.ensures,
      ap (map (shown c.keep_again.new.sets.items)) c.in_ok-push.ensures.items
          ∙ kept_more c.self.inside.sets.items c.keep_again.new.sets.items c.self.inside.kept.items c.in_ok-kept.kept x c.keep_again.ensures.grows c.self.invariant (c.in_ok-kept.ensures.shown ∙ ap (λ s. shown s c.index.result.now) c.deref.ensures.value)
          ∙ ap (λ l. l ++ x ∷ []) c.self.view_is,
    )
