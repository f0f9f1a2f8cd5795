use Rattle.std.proofs.Common.{◌∙◌}
use Rattle.rawk_slots.proofs.Groups.{begun_added}
use Rattle.rawk_slots.proofs.stack_groups.StackGroups.keep.Goals as goal

pub invariant_of-self : goal.invariant_of-self
invariant_of-self g c =
    let did = c.finish_behind-live.ensures.did in
    let i = c.self.inside in
    begun_added i.begins.items c.push_reserved.new.self.items _ i.entries.items c.finish_behind-live.new.list.items did.entries c.self.invariant did.distinct c.push_reserved.ensures.items (c.len-entries.ensures ∙ i.entries.ok.0) did.is
