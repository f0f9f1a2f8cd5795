use Rattle.std.proofs.Common.{◌≡◌, ◌-◌, ◌≤◌, ◌∙◌, sym, subst, arith, get_or, length, take, reverse}
use Rattle.std.proofs.lemmas.List.{length-set, take-set}
use Rattle.rawk_store.specs.Layout.{Layout}
use Rattle.rawk_store.specs.Stores.{now_of}
use Rattle.rawk_steps.specs.Closing.{FitAll}
use Rattle.rawk_steps.proofs.Undos.{same_at, left_fits, done_one, arrays_one, fits_one, globals_one, record_one, take_less}
use Rattle.rawk_steps.proofs.journal.undo_all.Goals as goal

pub undo-requires : goal.undo-requires
undo-requires c =
    let v = c.loop-i.invariant in
    let fn = c.args.groups.now.items in
    let x = c.index_mut.result.now in
    let is : x ≡ get_or fn (c.loop-i.i - 1) x = c.index_mut.ensures.value ∙ same_at c.loop-i.groups.items fn c.loop-i.i (c.loop-i.i - 1) x v.left (omega (arith, c.loop-i-test.true)) in
    (left_fits (now_of c.loop-i.store) fn c.loop-i.i x c.loop-i-test.true v.within is v.fits).0

pub loop-i-preserved : goal.loop-i-preserved
loop-i-preserved c =
    let v = c.loop-i.invariant in
    let fn = c.args.groups.now.items in
    let gs = c.loop-i.groups.items in
    let i = c.loop-i.i in
    let pos = c.loop-i-test.true in
    let x = c.index_mut.result.now in
    let y = c.undo.new.group in
    let l = now_of c.loop-i.store in
    let is : x ≡ get_or fn (i - 1) x = c.index_mut.ensures.value ∙ same_at gs fn i (i - 1) x v.left (omega (arith, pos)) in
    let fits = left_fits l fn i x pos v.within is v.fits in
    let within : i ≤ length gs = omega (arith, v.within, v.same_length) in
    record {
      within = omega (arith, v.within);
      same_length = length-set gs (i - 1) y ∙ v.same_length;
      left = take-set gs (i - 1) y ∙ take_less gs fn i (i - 1) (omega arith) v.left;
      now = c.undo.ensures.now ∙ done_one (now_of c.args.store.now) l fn i x pos v.within is v.now;
      rest = c.undo.ensures.rest;
      fits = subst (λ (m : Layout). FitAll m (reverse (take (i - 1) fn))) (sym c.undo.ensures.now) fits.1;
      globals = globals_one c.undo.new.self.globals.now c.loop-i.store.globals.now gs i y pos within c.undo.ensures.newer_globals ∙ v.globals;
      arrays = arrays_one c.undo.new.self.arrays.now c.loop-i.store.arrays.now gs i y pos within c.undo.ensures.newer_arrays ∙ v.arrays;
      arrays_fit = fits_one c.undo.new.self.arrays.now c.loop-i.store.arrays.now gs i y pos within c.undo.ensures.newer_arrays c.undo.ensures.newer_fits v.arrays_fit;
      record_is = record_one c.undo.new.self.current.now c.loop-i.store.current.now gs i y pos within c.undo.ensures.newer_record ∙ v.record_is;
    }
