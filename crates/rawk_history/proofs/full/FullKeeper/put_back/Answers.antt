use Rattle.std.proofs.Common.{◌∙◌, ap, refl, sym}
use Rattle.rawk_store.specs.declared.registers.Registers.{Registers}
use Rattle.rawk_store.specs.GroupBack.{put_back}
use Rattle.rawk_frames.specs.KeptStacks.{lists_of, newest_frames, newest_operands}
use Rattle.rawk_history.specs.Flat.{step_by}
use Rattle.rawk_store.specs.Stores.{now_of}
use Rattle.rawk_history.proofs.Flats.{fits_newest, popped_is, put_back_is}
use Rattle.rawk_history.proofs.full.FullKeeper.put_back.Goals as goal

pub undo_behind-requires-clause-fits : goal.undo_behind-requires-clause-fits
undo_behind-requires-clause-fits c =
    let i = c.self.inside in
    fits_newest i.marks.items c.pop.new.self.items c.in-Some.mark i.slows.items c.newest_slow-slow.result i.globals.items i.live (lists_of i.stacks) i.others.items i.records.items i.sets.items
    _ _ c.take_if.result c.take_if-in-Some.result c.registers_by.result c.truncate.new.self.items (now_of c.args.store.now) c.args.self.now.kept
    (popped_is i.marks.items c.pop.new.self.items c.pop.result c.in-Some.mark c.pop.ensures.items c.in-Some.is) c.truncate.ensures.items
    refl refl c.take_if.ensures.first c.take_if-in-Some.ensures.first c.newest_slow-slow.ensures c.registers_by.ensures (sym (ap (λ k. k.kept) c.self.view_is)) c.requires

pub returns-in-Some-clause-back : goal.returns-in-Some-clause-back
returns-in-Some-clause-back c = λ item rest e.
    let i = c.self.inside in
    let u = c.undo_behind.ensures in
    put_back_is i.marks.items c.pop.new.self.items c.in-Some.mark i.slows.items c.drop_if.new.list.items c.newest_slow-slow.result i.globals.items c.undo_behind.new.globals.items i.live
    (lists_of i.stacks) (lists_of c.undo_behind.new.stacks) i.others.items c.take_if.new.list.items i.records.items c.take_if-in-Some.new.list.items i.sets.items c.take_if-in-Some-2.new.list.items
    _ _ c.take_if.result c.take_if-in-Some.result c.take_if-in-Some-2.result item rest (now_of c.args.store.now) (now_of c.undo_behind.new.store) c.truncate.new.self.items
    c.args.sets.now.items c.exchange.new.sets.items c.exchange.new.newer.items c.undo_behind.new.newer_others c.undo_behind.new.newer_record
    (popped_is i.marks.items c.pop.new.self.items c.pop.result c.in-Some.mark c.pop.ensures.items c.in-Some.is) c.truncate.ensures.items
    refl refl u.stacks c.take_if.ensures.first c.take_if-in-Some.ensures.first c.take_if-in-Some-2.ensures.first c.newest_slow-slow.ensures c.drop_if.ensures c.take_if.ensures.rest c.take_if-in-Some.ensures.rest c.take_if-in-Some-2.ensures.rest
    u.earlier
    (u.now ∙ ap (λ (r : Registers). put_back (now_of c.args.store.now) (step_by c.in-Some.mark.globals c.newest_slow-slow.result.output r c.truncate.new.self.items (newest_frames c.in-Some.mark.stacks (lists_of i.stacks)) (newest_operands c.in-Some.mark.stacks (lists_of i.stacks)) c.take_if.result c.take_if-in-Some.result)) c.registers_by.ensures)
    u.globals u.arrays u.fits u.current c.exchange.ensures.ready c.exchange.ensures.stood (ap (λ k. k.kept) c.self.view_is ∙ e)
