use Rattle.std.proofs.Common.{◌∙◌, ap, sym, drop, Bool, Some, None, if◌then◌else◌}
use Rattle.rawk_history.specs.Steps.{Forth}
use Rattle.rawk_history.proofs.Flats.{behind_is}
use Rattle.rawk_history.proofs.full.FullKeeper.ahead.Goals as goal

pub returns : goal.returns
returns c =
    let i = c.self.inside in
    let f : Forth = record { globals = drop i.live i.globals.items; others = i.newer_others; current = i.newer_record; sets = i.newer_sets.items } in
    (f, sym (ap (λ k. k.forth) c.self.view_is) ∙ ap (λ (b : Bool). if b then Some f else None) c.if-not-self.false, behind_is i.live c.deref.result.now i.globals.items c.deref.ensures.value, c.as_ref.ensures.value, c.as_ref-2.ensures.value)
