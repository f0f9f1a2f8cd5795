use Rattle.std.proofs.Common.{◌+◌, ◌*◌, max, take}
use denote.Param.Weighed.{most}
use Rattle.rawk_parsing.proofs.tree.Expr.TheLaws as expr
use Rattle.rawk_parsing.proofs.tree.Link.TheLaws as link
use Rattle.rawk_parsing.proofs.tree.Place.TheLaws as place
use Rattle.rawk_resolution.specs.Meant.{sense_of}
use Rattle.rawk_resolution.specs.Settled.{Settles, SomeArguments, SomeLinks, SomeTests, SomeExprs}
use Rattle.rawk_resolution.proofs.expressions.+settle.Given as goal

abbrev pub invariant-settle_links-loop-link : goal.invariant-settle_links-loop-link
invariant-settle_links-loop-link l = Settles (sense_of l.scope) (SomeLinks (take l.link-index l.links) l.settled.items)

abbrev pub invariant-settle_tests-loop-test : goal.invariant-settle_tests-loop-test
invariant-settle_tests-loop-test l = Settles (sense_of l.scope) (SomeTests l.logic (take l.test-index l.tests) l.settled.items)

abbrev pub invariant-settle_list-loop-e : goal.invariant-settle_list-loop-e
invariant-settle_list-loop-e l = Settles (sense_of l.scope) (SomeExprs (take l.e-index l.list) l.settled.items)

abbrev pub invariant-settle_arguments-loop-i : goal.invariant-settle_arguments-loop-i
invariant-settle_arguments-loop-i l = Settles (sense_of l.scope) (SomeArguments ((sense_of l.scope).kinds l.function) (take l.i l.arguments) l.values.items l.arrays.items)

-- the depth, and whose calls come first where it stays

abbrev pub decreases-settle_expr : goal.decreases-settle_expr
decreases-settle_expr l = 5 * goal.size-settle_expr l + 0

abbrev pub decreases-settle_boxed : goal.decreases-settle_boxed
decreases-settle_boxed l = 5 * goal.size-settle_boxed l + 1

abbrev pub decreases-settle_sought : goal.decreases-settle_sought
decreases-settle_sought l = 5 * expr.the_size l.e.now + 1

abbrev pub decreases-settle_right : goal.decreases-settle_right
decreases-settle_right l = 5 * expr.the_size l.e.now + 2

abbrev pub decreases-settle_place : goal.decreases-settle_place
decreases-settle_place l = 5 * goal.size-settle_place l + 0

abbrev pub decreases-settle_links : goal.decreases-settle_links
decreases-settle_links l = 5 * goal.size-settle_links l + 1

abbrev pub decreases-settle_tests : goal.decreases-settle_tests
decreases-settle_tests l = 5 * goal.size-settle_tests l + 1

abbrev pub decreases-settle_list : goal.decreases-settle_list
decreases-settle_list l = 5 * goal.size-settle_list l + 1

abbrev pub decreases-settle_logic : goal.decreases-settle_logic
decreases-settle_logic l = 5 * goal.size-settle_logic l + 2

abbrev pub decreases-settle_match : goal.decreases-settle_match
decreases-settle_match l = 5 * goal.size-settle_match l + 2

abbrev pub decreases-settle_replacement : goal.decreases-settle_replacement
decreases-settle_replacement l = 5 * max (expr.the_size l.sought.now) (expr.the_size l.by.now) + 2

abbrev pub decreases-settle_changed : goal.decreases-settle_changed
decreases-settle_changed l = 5 * expr.the_size l.e.now + 1

abbrev pub decreases-settle_replace : goal.decreases-settle_replace
decreases-settle_replace l = 5 * goal.size-settle_replace l + 3

abbrev pub decreases-settle_applied : goal.decreases-settle_applied
decreases-settle_applied l = 5 * goal.size-settle_applied l + 2

abbrev pub decreases-settle_length : goal.decreases-settle_length
decreases-settle_length l = 5 * goal.size-settle_length l + 3

abbrev pub decreases-settle_builtin : goal.decreases-settle_builtin
decreases-settle_builtin l = 5 * goal.size-settle_builtin l + 4

abbrev pub decreases-settle_parted : goal.decreases-settle_parted
decreases-settle_parted l = 5 * expr.the_size l.text.now + 2

abbrev pub decreases-settle_separator : goal.decreases-settle_separator
decreases-settle_separator l = 5 * expr.the_size l.e.now + 2

abbrev pub decreases-settle_split : goal.decreases-settle_split
decreases-settle_split l = 5 * goal.size-settle_split l + 3

abbrev pub decreases-settle_argument : goal.decreases-settle_argument
decreases-settle_argument l = 5 * expr.the_size l.argument.now + 1

abbrev pub decreases-settle_arguments : goal.decreases-settle_arguments
decreases-settle_arguments l = 5 * goal.size-settle_arguments l + 2

abbrev pub decreases-settle_call : goal.decreases-settle_call
decreases-settle_call l = 5 * goal.size-settle_call l + 3

abbrev pub decreases-settle_power : goal.decreases-settle_power
decreases-settle_power l = 5 * max (expr.the_size l.base.now) (expr.the_size l.exponent.now) + 2

abbrev pub decreases-settle_chain : goal.decreases-settle_chain
decreases-settle_chain l = 5 * max (expr.the_size l.first.now) (most link.the_size l.links.now) + 2

abbrev pub decreases-settle_choice : goal.decreases-settle_choice
decreases-settle_choice l = 5 * max (expr.the_size l.test.now) (max (expr.the_size l.yes.now) (expr.the_size l.no.now)) + 2

abbrev pub decreases-settle_before : goal.decreases-settle_before
decreases-settle_before l = 5 * goal.size-settle_before l + 1

abbrev pub decreases-settle_assign : goal.decreases-settle_assign
decreases-settle_assign l = 5 * max (place.the_size l.place.now) (expr.the_size l.value.now) + 2

abbrev pub decreases-settle_in : goal.decreases-settle_in
decreases-settle_in l = 5 * goal.size-settle_in l + 2

abbrev pub decreases-settle_list_in : goal.decreases-settle_list_in
decreases-settle_list_in l = 5 * goal.size-settle_list_in l + 2
