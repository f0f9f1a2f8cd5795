use Rattle.std.proofs.Common.{◌<◌, ◌-◌, ◌++◌, ◌∙◌, ap, sym, arith, take}
use Rattle.rawk_store.specs.Stores.{now_of}
use Rattle.rawk_history.specs.Parts.{kept_in}
use Rattle.rawk_history.proofs.Parts.{first_last, put_back_last, within_last}
use Rattle.rawk_history.proofs.ring.RingKeeper.put_back.Goals as goal

pub put_back-requires : goal.put_back-requires
put_back-requires c = λ item rest e.
    let i = c.self.inside in
    let behind = kept_in c.come_forward.new.older.items in
    let some : 0 < i.count = omega (arith, c.if-self-eq0.false) in
    c.requires item (take (i.count - 1) (rest ++ behind)) (sym (ap (λ k. k.kept) c.self.view_is) ∙ first_last i.count (i.newest.kept ++ kept_in i.older.items) c.come_forward.new.newest.kept behind item rest some c.come_forward.ensures.all e)

pub invariant_of-self : goal.invariant_of-self
invariant_of-self c =
    let i = c.self.inside in
    let v = c.self.invariant in
    let some : 0 < i.count = omega (arith, c.if-self-eq0.false) in
    record {
      filled = c.come_forward.ensures.filled v.filled;
      within = within_last i.count i.gone (i.newest.kept ++ kept_in i.older.items) c.come_forward.new.newest.kept c.put_back.new.self.kept (kept_in c.come_forward.new.older.items) some v.within c.come_forward.ensures.all (c.come_forward.ensures.some v.filled) (λ item rest e. (c.put_back.ensures.back item rest e).left);
      few = omega (arith, v.few);
    }

pub returns-clause-back : goal.returns-clause-back
returns-clause-back c = λ item rest e.
    let i = c.self.inside in
    let some : 0 < i.count = omega (arith, c.if-self-eq0.false) in
    put_back_last i.count (i.newest.kept ++ kept_in i.older.items) c.come_forward.new.newest.kept c.put_back.new.self.kept (kept_in c.come_forward.new.older.items) item rest
    (now_of c.args.store.now) (now_of c.put_back.new.store) c.args.sets.now.items c.put_back.new.sets.items c.put_back.new.self.forth
    some c.come_forward.ensures.all (c.come_forward.ensures.some c.self.invariant.filled) c.put_back.ensures.back (ap (λ k. k.kept) c.self.view_is ∙ e)
