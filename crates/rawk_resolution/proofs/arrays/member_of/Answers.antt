use Rattle.rawk_resolution.specs.Meant.{sense_of}
use Rattle.rawk_resolution.proofs.Settlements.{one_member}
use Rattle.rawk_resolution.proofs.arrays.member_of.Goals as goal

pub returns : goal.returns
returns c = one_member (sense_of c.args.scope.now) c.args.name.now c.the_array.result c.args.subscript c.new-alone.result.items c.push.new.values c.the_array.ensures c.new-alone.ensures.items c.in_ok-push.ensures
