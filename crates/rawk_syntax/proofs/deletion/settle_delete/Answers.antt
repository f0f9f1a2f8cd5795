use Rattle.std.proofs.Common.{List, subst}
use Rattle.rawk_parsing.specs.declared.tree.Expr.{Expr}
use Rattle.rawk_syntax.specs.Laid as spec
use Rattle.rawk_resolution.specs.Meant.{sense_of}
use Rattle.rawk_resolution.specs.Settled.{Settles, SomeExprs}
use Rattle.rawk_syntax.proofs.StatementOrders.{deleted_name, deleted_element, deleted_field}
use Rattle.rawk_syntax.proofs.deletion.settle_delete.Goals as goal

pub the_array-requires : goal.the_array-requires
the_array-requires c = deleted_name (sense_of c.args.scope.now) c.args.place.now c.in-Name.name c.in-Name.is c.requires

pub settle_list-requires : goal.settle_list-requires
settle_list-requires c = (deleted_element (sense_of c.args.scope.now) c.args.place.now c.in-Element.name c.in-Element.subscripts c.as_slice.result.now c.in-Element.is c.as_slice.ensures c.requires).1

pub the_array-requires-in-Element : goal.the_array-requires-in-Element
the_array-requires-in-Element c = (deleted_element (sense_of c.args.scope.now) c.args.place.now c.in-Element.name c.in-Element.subscripts c.as_slice.result.now c.in-Element.is c.as_slice.ensures c.requires).0

pub unreachable-requires : goal.unreachable-requires
unreachable-requires c = deleted_field (sense_of c.args.scope.now) c.args.place.now c.in-Field.field-0 c.in-Field.is c.requires

pub returns-in-Name : goal.returns-in-Name
returns-in-Name c = rw c.in-Name.is (spec.all c.args.site c.the_array.ensures)

pub returns-in_ok-subscripts-in-Element : goal.returns-in_ok-subscripts-in-Element
returns-in_ok-subscripts-in-Element c =
    let m = sense_of c.args.scope.now in
    let given = subst (λ (es : List Expr). Settles m (SomeExprs es c.in_ok-subscripts-in-Element.subscripts.items)) c.as_slice.ensures c.in_ok-subscripts-in-Element.ensures in
    rw c.in-Element.is (spec.one c.args.site c.in_ok-subscripts-in-Element.subscripts c.the_array-in-Element.ensures given)
