use Rattle.std.proofs.Common.{◌≡◌, ◌∙◌, ◌∷◌, ◌++◌, [], ap, refl, take, reverse, if◌then◌else◌, Some, None}
use Rattle.rawk_frames.specs.KeptStacks.{lists_of}
use Rattle.rawk_history.specs.declared.full.Mark.{Mark}
use Rattle.rawk_history.specs.declared.full.RareRegisters.{RareRegisters}
use Rattle.rawk_history.specs.Flat.{newest_slow, registers_by}
use Rattle.rawk_history.proofs.Flats.{full_added, is_added, kept_added, registers_are, site_is}
use Rattle.rawk_history.proofs.full.FullKeeper.keep.Goals as goal

pub invariant_of-self-2 : goal.invariant_of-self-2
invariant_of-self-2 c =
    let i = c.self.inside in
    let r = c.in_ok-rest.rest in
    let e = c.in_ok-rest.ensures.did in
    let m : Mark = record {
      place = r.registers.place;
      here = r.registers.here;
      site = c.unwrap_or.result;
      consumed = r.registers.consumed;
      globals = i.live;
      has_site = c.is_some.result;
      has_state = c.add_slow.result;
      has_others = r.has_others;
      has_record = r.has_record;
      has_sets = c.add_if.result;
      stacks = r.stacks;
    } in
    full_added i.marks.items c.push_reserved.new.self.items m i.globals.items (take i.live i.globals.items) c.finish_behind.new.globals.items e.entries i.live c.len-self-inside.result
    i.others.items c.finish_behind.new.others.items i.records.items c.finish_behind.new.records.items i.sets.items c.add_if.new.list.items
    c.self.invariant e.distinct
    (c.push_reserved.ensures.items ∙ ap (λ xs. xs ++ m ∷ []) c.reserve.ensures.marks) refl refl e.is (c.len-self-inside.ensures ∙ c.finish_behind.new.globals.ok.0)
    (c.in_ok-rest.ensures.others ∙ ap (λ xs. reverse xs) c.reserve.ensures.others) (c.in_ok-rest.ensures.records ∙ ap (λ xs. reverse xs) c.reserve.ensures.records) (c.add_if.ensures.rest ∙ ap (λ xs. reverse xs) c.reserve.ensures.sets)

pub returns-clause-did : goal.returns-clause-did
returns-clause-did c =
    let i = c.self.inside in
    let r = c.in_ok-rest.rest in
    let e = c.in_ok-rest.ensures.did in
    let m : Mark = record {
      place = r.registers.place;
      here = r.registers.here;
      site = c.unwrap_or.result;
      consumed = r.registers.consumed;
      globals = i.live;
      has_site = c.is_some.result;
      has_state = c.add_slow.result;
      has_others = r.has_others;
      has_record = r.has_record;
      has_sets = c.add_if.result;
      stacks = r.stacks;
    } in
    let all = kept_added i.marks.items c.push_reserved.new.self.items m i.slows.items c.add_slow.new.list.items i.globals.items (take i.live i.globals.items) c.finish_behind.new.globals.items e.entries i.live c.len-self-inside.result
    (lists_of i.stacks) (lists_of c.finish_behind.new.stacks) i.others.items c.finish_behind.new.others.items i.records.items c.finish_behind.new.records.items i.sets.items c.add_if.new.list.items
    (c.push_reserved.ensures.items ∙ ap (λ xs. xs ++ m ∷ []) c.reserve.ensures.marks) refl c.self.invariant.within refl e.is (c.len-self-inside.ensures ∙ c.finish_behind.new.globals.ok.0) (c.add_slow.ensures.rest ∙ ap (λ xs. reverse xs) c.reserve.ensures.slows)
    c.in_ok-rest.ensures.older
    (c.in_ok-rest.ensures.others ∙ ap (λ xs. reverse xs) c.reserve.ensures.others) (c.in_ok-rest.ensures.records ∙ ap (λ xs. reverse xs) c.reserve.ensures.records) (c.add_if.ensures.rest ∙ ap (λ xs. reverse xs) c.reserve.ensures.sets) in
    let slow = c.add_slow.ensures.first ∙ c.slow_of.ensures in
    let s = newest_slow (reverse c.add_slow.new.list.items) in
    let site : (if c.is_some.result then Some c.unwrap_or.result else None) ≡ r.registers.site = rw (c.is_some.ensures, c.unwrap_or.ensures) (site_is r.registers.site) in
    is_added _ _ _ _ _ _ _ _ _ _ r.output s.output r.registers (registers_by m s) c.taken.result _ c.args.sets.now.items _ _ _ e all (ap (λ (x : RareRegisters). x.output) slow) (registers_are m s r.registers r.output slow refl refl refl site) refl refl c.add_if.ensures.first c.taken.ensures.is (ap (λ k. k.kept) c.self.view_is)
