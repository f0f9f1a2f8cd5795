use Rattle.rawk_resolution.specs.InOrder.{names_array}
use Rattle.rawk_resolution.specs.Meant.{sense_of}
use Rattle.rawk_resolution.specs.Settled as spec
use Rattle.rawk_resolution.specs.Orders.{each_at}
use Rattle.rawk_resolution.proofs.Settlements.{more_members}
use Rattle.rawk_resolution.proofs.arrays.members_of.Goals as goal

pub loop-name-init : goal.loop-name-init
loop-name-init c = spec.itself

pub member_of-requires : goal.member_of-requires
member_of-requires c = each_at (names_array (sense_of c.args.scope.now)) c.args.names.now c.loop-name.name-index c.name-item.result c.loop-name-test.true c.name-item.is c.requires

pub loop-name-preserved : goal.loop-name-preserved
loop-name-preserved c =
    more_members (sense_of c.args.scope.now) c.args.subscript c.args.names.now c.loop-name.name-index c.name-item.result c.loop-name.answer c.in_ok-answer.answer
    c.loop-name-test.true c.name-item.is c.loop-name.invariant c.in_ok-answer.ensures
