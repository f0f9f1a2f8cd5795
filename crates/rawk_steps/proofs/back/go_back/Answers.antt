use Rattle.std.proofs.Common.{◌≡◌, ◌∙◌, ap, sym, subst, List}
use Rattle.rawk_value.specs.declared.value.Value.{Value}
use Rattle.rawk_record.specs.Shown.{Shown}
use Rattle.rawk_arrays.specs.Laid.{Laid}
use Rattle.rawk_store.specs.Groups.{Group}
use Rattle.rawk_history.specs.Steps.{Kept}
use Rattle.rawk_store.specs.GroupBack.{FitsIn, put_back}
use Rattle.rawk_store.specs.Layout.{Layout}
use Rattle.rawk_store.specs.Stores.{now_of}
use Rattle.rawk_steps.specs.Leading.{AllArraysFit, arrays_forth, globals_forth, record_forth}
use Rattle.rawk_steps.proofs.back.go_back.Goals as goal

pub put_back-requires : goal.put_back-requires
put_back-requires g c = λ item items is.
    let r = c.requires.fits_step in
    let same : r.0 ≡ item = cc (r.2, is) in
    subst (λ (k : Kept). FitsIn k.step (now_of c.undo_all.new.store)) same (subst (λ (l : Layout). FitsIn r.0.step l) (sym c.undo_all.ensures.now) r.3)

pub returns-clause-back : goal.returns-clause-back
returns-clause-back g c = λ item items is.
    let p = c.put_back.ensures.back item items is in
    let f = p.forth.forth in
    record {
      now = p.now ∙ ap (λ (l : Layout). put_back l item.step) c.undo_all.ensures.now;
      here = p.sets;
      left = p.left;
      forth = f;
      is = p.forth.is;
      globals = ap (λ (xs : List Value). globals_forth xs f.sets) p.forth.globals ∙ (ap (λ (gs : List Group). globals_forth c.undo_all.new.store.globals.now gs) p.forth.sets ∙ c.undo_all.ensures.globals);
      arrays = ap (λ (a : Laid). arrays_forth a f.sets) p.forth.arrays ∙ (ap (λ (gs : List Group). arrays_forth c.undo_all.new.store.arrays.now gs) p.forth.sets ∙ c.undo_all.ensures.arrays);
      fits = p.forth.fits;
      sets_fit = subst (λ (a : Laid). AllArraysFit a f.sets) (sym p.forth.arrays) (subst (λ (gs : List Group). AllArraysFit c.undo_all.new.store.arrays.now gs) (sym p.forth.sets) c.undo_all.ensures.fits);
      current = ap (λ (s : Shown). record_forth s f.sets) p.forth.current ∙ (ap (λ (gs : List Group). record_forth c.undo_all.new.store.current.now gs) p.forth.sets ∙ c.undo_all.ensures.record);
    }
