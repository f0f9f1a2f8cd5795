use denote.Param.Weighed.{most, at_most}
use Rattle.rawk_parsing.specs.declared.tree.Expr.TheViews.{size_is-Link, the_lemmas}
use Rattle.rawk_parsing.proofs.tree.Expr.TheLaws as expr
use Rattle.rawk_parsing.proofs.tree.Link.TheLaws as link
use Rattle.std.proofs.Common.{◌≡◌, max, ◌+◌, ◌*◌, ◌<◌, ◌≤◌, ◌&&◌, ◌∙◌, sym, ap, map, get_or, [], ◌∷◌, Some, arith, rules}
use Rattle.rawk_resolution.specs.Calls.{has_builtin}
use Rattle.rawk_tree.specs.declared.tree.Kind.TheVariants as kind
use Rattle.rawk_tree.specs.declared.tree.Separation.TheVariants as separation
use Rattle.rawk_resolution.specs.InOrder.{builtin_step, calls, each, in_order, link_in_order, names_array, place_in_order, use_of}
use Rattle.rawk_resolution.specs.Meant.{sense_of}
use Rattle.rawk_resolution.specs.Settled as spec
use Rattle.rawk_resolution.specs.Orders.{split, each_at, is_called, argument_fits, pair_of, three_of, getline_to_is, of_is, group_is, signed_is, power_is, chain_is, assign_is, logic_is, choice_is, before_is, after_is, call_is, in_is, list_in_is, builtin_is, name_is, field_is, element_is, link_is, of_changes, unchanged, applied_parts, uncounted_parts}
use Rattle.rawk_resolution.proofs.Settlements.{text_settles, ere_settles, sought_settles, made_settles, right_settles, read_settles, group_settles, boxed_settles, signed_settles, power_settles, after_settles, getline_to_settles, test_settles, name_settles, field_settles, element_settles, link_settles, value_passes, array_passes, argument_settles, matches_separate, split_settles, in_settles, builtin_settles, counted_settles, found_settles, replaced_settles, record_settles, same_count, expr_settles}
use Rattle.rawk_resolution.proofs.expressions.+settle.Goals as goal

pub settle_expr-returns-in-Number : goal.settle_expr-returns-in-Number
settle_expr-returns-in-Number t c = rw (c.in-Number.is, c.settle_number.ensures) spec.number

pub settle_expr-returns-in-Text : goal.settle_expr-returns-in-Text
settle_expr-returns-in-Text t c = text_settles (sense_of c.args.scope.now) c.settle_text.result _ _ _ c.in-Text.is c.as_slice.ensures c.settle_text.ensures

pub settle_expr-returns-in-Ere : goal.settle_expr-returns-in-Ere
settle_expr-returns-in-Ere t c = ere_settles (sense_of c.args.scope.now) c.settle_ere.result _ _ _ _ c.in-Ere.is c.as_slice-in-Ere.ensures c.settle_ere.ensures

pub settle_expr-returns-in-Getline : goal.settle_expr-returns-in-Getline
settle_expr-returns-in-Getline t c = rw c.in-Getline.is spec.getline

pub settle_expr-returns-in_ok-settle_place-in-GetlineTo : goal.settle_expr-returns-in_ok-settle_place-in-GetlineTo
settle_expr-returns-in_ok-settle_place-in-GetlineTo t c =
    getline_to_settles (sense_of c.args.scope.now) c.args.e.now c.in-GetlineTo.place c.in_ok-settle_place-in-GetlineTo.field-0 c.in-GetlineTo.is c.in_ok-settle_place-in-GetlineTo.ensures

pub settle_expr-returns-in_ok-settle_place-in-Of : goal.settle_expr-returns-in_ok-settle_place-in-Of
settle_expr-returns-in_ok-settle_place-in-Of t c = read_settles (sense_of c.args.scope.now) c.args.e.now c.in-Of.place c.in_ok-settle_place-in-Of.field-0 c.in-Of.is c.in_ok-settle_place-in-Of.ensures

pub settle_expr-returns-in-Group : goal.settle_expr-returns-in-Group
settle_expr-returns-in-Group t c = group_settles (sense_of c.args.scope.now) c.settle_expr.result c.args.e.now c.in-Group.inner c.get.result.now c.in-Group.is c.get.ensures c.settle_expr.ensures

pub settle_expr-returns-in_ok-operand-in-Signed : goal.settle_expr-returns-in_ok-operand-in-Signed
settle_expr-returns-in_ok-operand-in-Signed t c =
    signed_settles (sense_of c.args.scope.now) c.in-Signed.sign c.in_ok-operand-in-Signed.operand c.args.e.now c.in-Signed.operand c.get-in-Signed.result.now c.in-Signed.is c.get-in-Signed.ensures c.in_ok-operand-in-Signed.ensures

pub settle_expr-returns-in_ok-place-in-After : goal.settle_expr-returns-in_ok-place-in-After
settle_expr-returns-in_ok-place-in-After t c =
    after_settles (sense_of c.args.scope.now) c.args.e.now c.in-After.change c.in-After.place c.in_ok-place-in-After.place c.operator_of.result c.in-After.is c.operator_of.ensures c.in_ok-place-in-After.ensures

pub settle_sought-returns-in-Ere : goal.settle_sought-returns-in-Ere
settle_sought-returns-in-Ere t c = sought_settles (sense_of c.args.scope.now) c.settle_text.result _ _ _ _ c.in-Ere.is c.as_slice.ensures c.settle_text.ensures

pub settle_sought-returns-in_default : goal.settle_sought-returns-in_default
settle_sought-returns-in_default t c = made_settles (sense_of c.args.scope.now) c.settle_expr.result c.args.e.now c.in_default.not-Ere c.settle_expr.ensures

pub settle_right-returns-in_default : goal.settle_right-returns-in_default
settle_right-returns-in_default t c = right_settles (sense_of c.args.scope.now) c.settle_expr.result c.args.e.now c.args.joiner c.in_default.not-Matches c.in_default.not-NotMatches c.settle_expr.ensures

pub settle_boxed-returns : goal.settle_boxed-returns
settle_boxed-returns t c = boxed_settles (sense_of c.args.scope.now) c.args.e.now c.in_ok-settled.settled c.boxed.result c.boxed.ensures c.in_ok-settled.ensures

pub settle_power-returns : goal.settle_power-returns
settle_power-returns t c =
    power_settles (sense_of c.args.scope.now) c.args.base.now c.args.exponent.now c.in_ok-operand.operand c.in_ok-first.first c.new-powers.result.items c.push.new.values c.new-powers.ensures.items c.in_ok-push.ensures c.in_ok-first.ensures c.in_ok-operand.ensures

pub settle_chain-returns : goal.settle_chain-returns
settle_chain-returns t c = spec.chain c.in_ok-first.first c.in_ok-links.links c.in_ok-first.ensures c.in_ok-links.ensures

pub settle_logic-returns : goal.settle_logic-returns
settle_logic-returns t c = spec.logical c.in_ok-first.first c.in_ok-tests.tests (c.in_ok-first.ensures ∙ c.neutral.ensures) c.in_ok-tests.ensures

pub settle_choice-returns : goal.settle_choice-returns
settle_choice-returns t c = spec.choice c.in_ok-test.test c.in_ok-yes.yes c.in_ok-no.no c.in_ok-test.ensures c.in_ok-yes.ensures c.in_ok-no.ensures

pub settle_before-returns : goal.settle_before-returns
settle_before-returns t c = rw c.operator_of.ensures (spec.before c.in_ok-one.one c.in_ok-place.ensures c.in_ok-one.ensures)

pub settle_assign-returns-in-Plain : goal.settle_assign-returns-in-Plain
settle_assign-returns-in-Plain t c = rw c.in-Plain.is (spec.assign c.in_ok-value.value c.in_ok-place.ensures c.in_ok-value.ensures)

pub settle_assign-returns-in-Update : goal.settle_assign-returns-in-Update
settle_assign-returns-in-Update t c = rw c.in-Update.is (spec.update c.in_ok-value.value c.in_ok-place.ensures c.in_ok-value.ensures)

pub settle_in-returns : goal.settle_in-returns
settle_in-returns t c = in_settles (sense_of c.args.scope.now) c.members_of.result c.args.subscript.now c.args.names.now c.in_ok-subscript.subscript c.in_ok-subscript.ensures c.members_of.ensures

pub settle_list_in-returns : goal.settle_list_in-returns
settle_list_in-returns t c = spec.list_member c.in_ok-subscripts.subscripts c.the_array.ensures c.in_ok-subscripts.ensures

pub settle_argument-returns-in_ok-value-in-Some-Scalar : goal.settle_argument-returns-in_ok-value-in-Some-Scalar
settle_argument-returns-in_ok-value-in-Some-Scalar t c =
    let some : c.args.kind ≡ Some c.in-Some-Scalar.field-0 = c.in-Some-Scalar.is in
    let same : c.in-Some-Scalar.field-0 ≡ kind.Scalar = rw some at c.in-Some-Scalar.field-0-is in
    let is : c.args.kind ≡ Some kind.Scalar = some ∙ ap Some same in
    value_passes (sense_of c.args.scope.now) c.push.result c.in_ok-value-in-Some-Scalar.value c.args.kind c.args.argument.now c.args.values.now.items c.push.new.values.items c.args.arrays.now.items is c.push.ensures c.in_ok-value-in-Some-Scalar.ensures

pub settle_argument-returns-in-Some-Array : goal.settle_argument-returns-in-Some-Array
settle_argument-returns-in-Some-Array t c =
    let some : c.args.kind ≡ Some c.in-Some-Array.field-0 = c.in-Some-Array.is in
    let same : c.in-Some-Array.field-0 ≡ kind.Array = rw some at c.in-Some-Array.field-0-is in
    let is : c.args.kind ≡ Some kind.Array = some ∙ ap Some same in
    array_passes (sense_of c.args.scope.now) c.push-in-Some-Array.result c.array_named.result c.args.kind c.args.argument.now c.args.values.now.items c.args.arrays.now.items c.push-in-Some-Array.new.values.items is c.push-in-Some-Array.ensures c.array_named.ensures

pub settle_arguments-loop-i-init : goal.settle_arguments-loop-i-init
settle_arguments-loop-i-init t c = rw (c.new-values.ensures.items, c.new-arrays.ensures.items) spec.no_arguments

pub settle_arguments-loop-i-preserved : goal.settle_arguments-loop-i-preserved
settle_arguments-loop-i-preserved t c =
    let m = (sense_of c.args.scope.now) in
    argument_settles m (m.kinds c.args.function) c.kind_at-kind.result c.args.arguments.now c.loop-i.i c.index-arguments-i.result c.get.result.now c.loop-i.values.items c.settle_argument.new.values.items c.loop-i.arrays.items c.settle_argument.new.arrays.items
    c.loop-i-test.true c.index-arguments-i.is c.get.ensures c.kind_at-kind.ensures c.in_ok-settle_argument.ensures c.loop-i.invariant

pub settle_call-the_function-function-requires : goal.settle_call-the_function-function-requires
settle_call-the_function-function-requires t c = is_called (sense_of c.args.scope.now) _ _ c.requires

pub settle_call-returns : goal.settle_call-returns
settle_call-returns t c = spec.call c.in_ok-values.values c.in_ok-values.arrays c.the_function-function.ensures c.in_ok-values.ensures

pub settle_match-returns : goal.settle_match-returns
settle_match-returns t c =
    let two = pair_of c.args.arguments.now c.text-item.result c.pattern-item.result c.in-len2.len_at_least c.in-len2.len_below c.text-item.is c.pattern-item.is in
    found_settles (sense_of c.args.scope.now) c.args.arguments.now c.get.result.now c.get-2.result.now c.in_ok-text.text c.in_ok-sought.sought c.in_ok-value.value
    (two ∙ ap (λ z. z ∷ c.pattern-item.result ∷ []) (sym c.get.ensures) ∙ ap (λ z. c.get.result.now ∷ z ∷ []) (sym c.get-2.ensures)) c.in_ok-text.ensures c.in_ok-sought.ensures c.in_ok-value.ensures

pub settle_replacement-returns-clause-sought : goal.settle_replacement-returns-clause-sought
settle_replacement-returns-clause-sought t c = let made = c.in_ok-sought.ensures in rw made c.in_ok-value.ensures

pub settle_replace-returns-in_ok-place-in-len2 : goal.settle_replace-returns-in_ok-place-in-len2
settle_replace-returns-in_ok-place-in-len2 t c =
    let two = pair_of c.args.arguments.now c.sought-item.result c.by-item.result c.in-len2.len_at_least c.in-len2.len_below c.sought-item.is c.by-item.is in
    record_settles (sense_of c.args.scope.now) c.args.function c.args.extent c.args.arguments.now c.get.result.now c.get-in-len2.result.now c.in_ok-sought-in-len2.sought c.in_ok-sought-in-len2.by c.in_ok-place-in-len2.place c.requires.replaces
    (two ∙ ap (λ v. v ∷ c.by-item.result ∷ []) (sym c.get.ensures) ∙ ap (λ v. c.get.result.now ∷ v ∷ []) (sym c.get-in-len2.ensures)) c.in_ok-sought-in-len2.ensures.sought c.in_ok-sought-in-len2.ensures.by c.in_ok-place-in-len2.ensures

pub settle_replace-returns-in_ok-place-in-len3 : goal.settle_replace-returns-in_ok-place-in-len3
settle_replace-returns-in_ok-place-in-len3 t c =
    let x = c.sought-item-then-arguments-lt4.result in
    let y = c.by-item-then-arguments-lt4.result in
    let z = c.changed-item.result in
    let three = three_of c.args.arguments.now x y z c.in-len3.len_at_least c.in-len3.len_below c.sought-item-then-arguments-lt4.is c.by-item-then-arguments-lt4.is c.changed-item.is in
    replaced_settles (sense_of c.args.scope.now) c.args.function c.args.extent c.args.arguments.now c.get-in-len3.result.now c.get-in-len3-2.result.now c.get-in-len3-3.result.now c.in_ok-sought-in-len3.sought c.in_ok-sought-in-len3.by c.in_ok-place-in-len3.place c.requires.replaces
    (three ∙ ap (λ v. v ∷ y ∷ z ∷ []) (sym c.get-in-len3.ensures) ∙ ap (λ v. c.get-in-len3.result.now ∷ v ∷ z ∷ []) (sym c.get-in-len3-2.ensures) ∙ ap (λ v. c.get-in-len3.result.now ∷ c.get-in-len3-2.result.now ∷ v ∷ []) (sym c.get-in-len3-3.ensures))
    c.in_ok-sought-in-len3.ensures.sought c.in_ok-sought-in-len3.ensures.by c.in_ok-place-in-len3.ensures

pub settle_separator-returns-in_ok-pattern-in-Ere : goal.settle_separator-returns-in_ok-pattern-in-Ere
settle_separator-returns-in_ok-pattern-in-Ere t c =
    matches_separate (sense_of c.args.scope.now) c.in_ok-pattern-in-Ere.pattern c.in_ok-text-in-Ere.text c.args.e.now c.in-Ere.field-0 c.in-Ere.text c.as_slice.result.now c.in-Ere.is c.as_slice.ensures c.in_ok-text-in-Ere.ensures c.in_ok-pattern-in-Ere.ensures

pub settle_separator-returns-in_ok-value-in_default : goal.settle_separator-returns-in_ok-value-in_default
settle_separator-returns-in_ok-value-in_default t c = spec.by_value c.in_default.not-Ere c.in_ok-value-in_default.ensures

pub settle_split-returns-in_ok-separator-in-len2 : goal.settle_split-returns-in_ok-separator-in-len2
settle_split-returns-in_ok-separator-in-len2 t c =
    let two = pair_of c.args.arguments.now c.text-item.result c.array-item.result c.in-len2.len_at_least c.in-len2.len_below c.text-item.is c.array-item.is in
    split_settles (sense_of c.args.scope.now) c.args.arguments.now c.get.result.now c.get-in-len2.result.now [] c.in_ok-text-in-len2.text c.in_ok-separator-in-len2.separator c.in_ok-text-in-len2.array separation.Fields
    (two ∙ ap (λ v. v ∷ c.array-item.result ∷ []) (sym c.get.ensures) ∙ ap (λ v. c.get.result.now ∷ v ∷ []) (sym c.get-in-len2.ensures))
    c.in_ok-text-in-len2.ensures.text c.in_ok-text-in-len2.ensures.array (let fields = c.in_ok-separator-in-len2.ensures in rw fields spec.by_fields)

pub settle_split-returns-in_ok-how-in-len3 : goal.settle_split-returns-in_ok-how-in-len3
settle_split-returns-in_ok-how-in-len3 t c =
    let x = c.text-item-then-arguments-lt4.result in
    let y = c.array-item-then-arguments-lt4.result in
    let z = c.separator-item.result in
    let three = three_of c.args.arguments.now x y z c.in-len3.len_at_least c.in-len3.len_below c.text-item-then-arguments-lt4.is c.array-item-then-arguments-lt4.is c.separator-item.is in
    split_settles (sense_of c.args.scope.now) c.args.arguments.now c.get-in-len3.result.now c.get-in-len3-2.result.now (c.get-in-len3-3.result.now ∷ []) c.in_ok-text-in-len3.text c.in_ok-how-in-len3.separator c.in_ok-text-in-len3.array c.in_ok-how-in-len3.how
    (three ∙ ap (λ v. v ∷ y ∷ z ∷ []) (sym c.get-in-len3.ensures) ∙ ap (λ v. c.get-in-len3.result.now ∷ v ∷ z ∷ []) (sym c.get-in-len3-2.ensures) ∙ ap (λ v. c.get-in-len3.result.now ∷ c.get-in-len3-2.result.now ∷ v ∷ []) (sym c.get-in-len3-3.ensures))
    c.in_ok-text-in-len3.ensures.text c.in_ok-text-in-len3.ensures.array c.in_ok-how-in-len3.ensures

pub settle_applied-apply_builtin-requires : goal.settle_applied-apply_builtin-requires
settle_applied-apply_builtin-requires t c = ap (λ n. has_builtin c.args.function n) (same_count (sense_of c.args.scope.now) c.in_ok-arguments.ensures) ∙ c.requires.count

pub settle_applied-returns : goal.settle_applied-returns
settle_applied-returns t c =
    builtin_settles (sense_of c.args.scope.now) c.apply_builtin.result c.args.function c.args.arguments.now c.in_ok-arguments.arguments.items c.in_ok-arguments.ensures c.apply_builtin.ensures

pub settle_length-returns-in-Some : goal.settle_length-returns-in-Some
settle_length-returns-in-Some t c = counted_settles (sense_of c.args.scope.now) c.args.arguments.now c.in-Some.array c.in-Some.ensures.named

pub settle_tests-loop-test-init : goal.settle_tests-loop-test-init
settle_tests-loop-test-init t c = rw c.new-settled.ensures.items spec.no_tests

pub settle_tests-loop-test-preserved : goal.settle_tests-loop-test-preserved
settle_tests-loop-test-preserved t c =
    test_settles (sense_of c.args.scope.now) c.args.logic c.args.tests.now c.loop-test.test-index c.test-item.result c.get.result.now c.in_ok-operand.operand c.loop-test.settled.items c.push.new.values.items
    c.loop-test-test.true c.test-item.is c.get.ensures c.in_ok-push.ensures c.loop-test.invariant c.in_ok-operand.ensures

pub settle_links-loop-link-init : goal.settle_links-loop-link-init
settle_links-loop-link-init t c = rw c.new-settled.ensures.items spec.no_links

pub settle_links-loop-link-preserved : goal.settle_links-loop-link-preserved
settle_links-loop-link-preserved t c =
    link_settles (sense_of c.args.scope.now) c.args.links.now c.loop-link.link-index c.link-item.result c.joiner_of-joiner.result c.get.result.now c.in_ok-operand.operand c.loop-link.settled.items c.push.new.values.items
    c.loop-link-test.true c.link-item.is c.joiner_of-joiner.ensures c.get.ensures c.in_ok-push.ensures c.loop-link.invariant c.in_ok-operand.ensures

pub settle_list-loop-e-init : goal.settle_list-loop-e-init
settle_list-loop-e-init t c = rw c.new-settled.ensures.items spec.no_exprs

pub settle_list-loop-e-preserved : goal.settle_list-loop-e-preserved
settle_list-loop-e-preserved t c =
    expr_settles (sense_of c.args.scope.now) c.args.list.now c.loop-e.e-index c.e-item.result c.get.result.now c.in_ok-value.value c.loop-e.settled.items c.push.new.values.items
    c.loop-e-test.true c.e-item.is c.get.ensures c.in_ok-push.ensures c.loop-e.invariant c.in_ok-value.ensures

pub settle_place-returns-in-Name : goal.settle_place-returns-in-Name
settle_place-returns-in-Name t c = name_settles (sense_of c.args.scope.now) c.args.place.now c.in-Name.name c.the_scalar.result c.scalar_place.result c.in-Name.is c.the_scalar.ensures c.scalar_place.ensures

pub settle_place-returns-in_ok-number-in-Field : goal.settle_place-returns-in_ok-number-in-Field
settle_place-returns-in_ok-number-in-Field t c =
    field_settles (sense_of c.args.scope.now) c.args.place.now c.in-Field.e c.get.result.now c.in_ok-number-in-Field.number c.in-Field.is c.get.ensures c.in_ok-number-in-Field.ensures

pub settle_place-returns-in_ok-subscripts-in-Element : goal.settle_place-returns-in_ok-subscripts-in-Element
settle_place-returns-in_ok-subscripts-in-Element t c =
    element_settles (sense_of c.args.scope.now) c.args.place.now c.in-Element.name c.the_array.result c.in-Element.subscripts c.as_slice.result.now c.in_ok-subscripts-in-Element.subscripts c.in-Element.is c.as_slice.ensures c.the_array.ensures c.in_ok-subscripts-in-Element.ensures

pub settle_expr-settle_place-requires : goal.settle_expr-settle_place-requires
settle_expr-settle_place-requires t c =
    let m = (sense_of c.args.scope.now) in
    (search (rules, the_lemmas), sym (ap (in_order m) c.in-GetlineTo.is ∙ getline_to_is m c.in-GetlineTo.place) ∙ c.requires)

pub settle_expr-settle_place-requires-in-Of : goal.settle_expr-settle_place-requires-in-Of
settle_expr-settle_place-requires-in-Of t c =
    let m = (sense_of c.args.scope.now) in
    (search (rules, the_lemmas), sym (ap (in_order m) c.in-Of.is ∙ of_is m c.in-Of.place) ∙ c.requires)

pub settle_expr-settle_expr-requires : goal.settle_expr-settle_expr-requires
settle_expr-settle_expr-requires t c =
    let m = (sense_of c.args.scope.now) in
    let whole = sym (ap (in_order m) c.in-Group.is ∙ group_is m c.in-Group.inner) ∙ c.requires in
    (search (rules, the_lemmas), ap (in_order m) c.get.ensures ∙ whole)

pub settle_expr-settle_boxed-requires : goal.settle_expr-settle_boxed-requires
settle_expr-settle_boxed-requires t c =
    let m = (sense_of c.args.scope.now) in
    let whole = sym (ap (in_order m) c.in-Signed.is ∙ signed_is m c.in-Signed.sign c.in-Signed.operand) ∙ c.requires in
    (search (rules, the_lemmas), ap (in_order m) c.get-in-Signed.ensures ∙ whole)

pub settle_expr-settle_power-requires : goal.settle_expr-settle_power-requires
settle_expr-settle_power-requires t c =
    let m = (sense_of c.args.scope.now) in
    let whole = sym (ap (in_order m) c.in-Power.is ∙ power_is m c.in-Power.base c.in-Power.exponent) ∙ c.requires in
    let parts = split (in_order m c.in-Power.base) (in_order m c.in-Power.exponent) whole in
    (search (rules, the_lemmas), (ap (in_order m) c.get-in-Power.ensures ∙ parts.0, ap (in_order m) c.get-in-Power-2.ensures ∙ parts.1))

pub settle_expr-settle_chain-requires : goal.settle_expr-settle_chain-requires
settle_expr-settle_chain-requires t c =
    let m = (sense_of c.args.scope.now) in
    let whole = sym (ap (in_order m) c.in-Chain.is ∙ chain_is m c.in-Chain.first c.in-Chain.links) ∙ c.requires in
    let parts = split (in_order m c.in-Chain.first) (each (link_in_order m) c.in-Chain.links) whole in
    (search (rules, the_lemmas), (ap (in_order m) c.get-in-Chain.ensures ∙ parts.0, ap (each (link_in_order m)) c.as_slice-in-Chain.ensures ∙ parts.1))

pub settle_expr-settle_logic-requires : goal.settle_expr-settle_logic-requires
settle_expr-settle_logic-requires t c =
    let m = (sense_of c.args.scope.now) in
    let whole = sym (ap (in_order m) c.in-Logic.is ∙ logic_is m c.in-Logic.logic c.in-Logic.tests) ∙ c.requires in
    (search (rules, the_lemmas), ap (each (in_order m)) c.as_slice-in-Logic.ensures ∙ whole)

pub settle_expr-settle_choice-requires : goal.settle_expr-settle_choice-requires
settle_expr-settle_choice-requires t c =
    let m = (sense_of c.args.scope.now) in
    let whole = sym (ap (in_order m) c.in-Choice.is ∙ choice_is m c.in-Choice.test c.in-Choice.yes c.in-Choice.no) ∙ c.requires in
    let parts = split (in_order m c.in-Choice.test) (in_order m c.in-Choice.yes && in_order m c.in-Choice.no) whole in
    let chosen = split (in_order m c.in-Choice.yes) (in_order m c.in-Choice.no) parts.1 in
    (search (rules, the_lemmas), (ap (in_order m) c.get-in-Choice.ensures ∙ parts.0, (ap (in_order m) c.get-in-Choice-2.ensures ∙ chosen.0, ap (in_order m) c.get-in-Choice-3.ensures ∙ chosen.1)))

pub settle_expr-settle_before-requires : goal.settle_expr-settle_before-requires
settle_expr-settle_before-requires t c =
    let m = (sense_of c.args.scope.now) in
    (search (rules, the_lemmas), sym (ap (in_order m) c.in-Before.is ∙ before_is m c.in-Before.change c.in-Before.place) ∙ c.requires)

pub settle_expr-settle_place-requires-in-After : goal.settle_expr-settle_place-requires-in-After
settle_expr-settle_place-requires-in-After t c =
    let m = (sense_of c.args.scope.now) in
    (search (rules, the_lemmas), sym (ap (in_order m) c.in-After.is ∙ after_is m c.in-After.change c.in-After.place) ∙ c.requires)

pub settle_expr-settle_assign-requires : goal.settle_expr-settle_assign-requires
settle_expr-settle_assign-requires t c =
    let m = (sense_of c.args.scope.now) in
    let whole = sym (ap (in_order m) c.in-Assign.is ∙ assign_is m c.in-Assign.how c.in-Assign.place c.in-Assign.value) ∙ c.requires in
    let parts = split (place_in_order m c.in-Assign.place) (in_order m c.in-Assign.value) whole in
    (search (rules, the_lemmas), (parts.0, ap (in_order m) c.get-in-Assign.ensures ∙ parts.1))

pub settle_expr-settle_in-requires : goal.settle_expr-settle_in-requires
settle_expr-settle_in-requires t c =
    let m = (sense_of c.args.scope.now) in
    let whole = sym (ap (in_order m) c.in-In.is ∙ in_is m c.in-In.subscript c.in-In.names) ∙ c.requires in
    let parts = split (in_order m c.in-In.subscript) (each (names_array m) c.in-In.names) whole in
    (search (rules, the_lemmas), (ap (in_order m) c.get-in-In.ensures ∙ parts.0, ap (each (names_array m)) c.as_slice-in-In.ensures ∙ parts.1))

pub settle_expr-settle_list_in-requires : goal.settle_expr-settle_list_in-requires
settle_expr-settle_list_in-requires t c =
    let m = (sense_of c.args.scope.now) in
    let whole = sym (ap (in_order m) c.in-ListIn.is ∙ list_in_is m c.in-ListIn.name c.in-ListIn.subscripts) ∙ c.requires in
    let parts = split (names_array m c.in-ListIn.name) (each (in_order m) c.in-ListIn.subscripts) whole in
    (search (rules, the_lemmas), (ap (each (in_order m)) c.as_slice-in-ListIn.ensures ∙ parts.1, parts.0))

pub settle_expr-settle_call-requires : goal.settle_expr-settle_call-requires
settle_expr-settle_call-requires t c =
    let m = (sense_of c.args.scope.now) in
    let whole = sym (ap (in_order m) c.in-Call.is ∙ call_is m c.in-Call.name c.in-Call.arguments) ∙ c.requires in
    (search (rules, the_lemmas), ap (λ es. calls m (m.function c.in-Call.name.word) (map (use_of m) es)) c.as_slice-in-Call.ensures ∙ whole)

pub settle_expr-settle_builtin-requires : goal.settle_expr-settle_builtin-requires
settle_expr-settle_builtin-requires t c =
    let m = (sense_of c.args.scope.now) in
    let whole = sym (ap (in_order m) c.in-Builtin.is ∙ builtin_is m c.in-Builtin.function c.in-Builtin.arguments) ∙ c.requires in
    (search (rules, the_lemmas), ap (λ es. builtin_step c.in-Builtin.function (map (use_of m) es)) c.as_slice-in-Builtin.ensures ∙ whole)

pub settle_place-the_scalar-requires : goal.settle_place-the_scalar-requires
settle_place-the_scalar-requires t c =
    let m = (sense_of c.args.scope.now) in
    sym (ap (place_in_order m) c.in-Name.is ∙ name_is m c.in-Name.name) ∙ c.requires

pub settle_place-settle_boxed-requires : goal.settle_place-settle_boxed-requires
settle_place-settle_boxed-requires t c =
    let m = (sense_of c.args.scope.now) in
    (search (rules, the_lemmas), ap (in_order m) c.get.ensures ∙ sym (ap (place_in_order m) c.in-Field.is ∙ field_is m c.in-Field.e) ∙ c.requires)

pub settle_place-settle_list-requires : goal.settle_place-settle_list-requires
settle_place-settle_list-requires t c =
    let m = (sense_of c.args.scope.now) in
    let parts = split (names_array m c.in-Element.name) (each (in_order m) c.in-Element.subscripts) (sym (ap (place_in_order m) c.in-Element.is ∙ element_is m c.in-Element.name c.in-Element.subscripts) ∙ c.requires) in
    (search (rules, the_lemmas), ap (each (in_order m)) c.as_slice.ensures ∙ parts.1)

pub settle_place-the_array-requires : goal.settle_place-the_array-requires
settle_place-the_array-requires t c =
    let m = (sense_of c.args.scope.now) in
    let parts = split (names_array m c.in-Element.name) (each (in_order m) c.in-Element.subscripts) (sym (ap (place_in_order m) c.in-Element.is ∙ element_is m c.in-Element.name c.in-Element.subscripts) ∙ c.requires) in
    parts.0

pub settle_changed-settle_place-requires : goal.settle_changed-settle_place-requires
settle_changed-settle_place-requires t c =
    let m = (sense_of c.args.scope.now) in
    (search (rules, the_lemmas), sym (of_changes m c.args.e.now c.in-Of.place c.in-Of.is) ∙ c.requires)

pub settle_changed-unreachable-requires : goal.settle_changed-unreachable-requires
settle_changed-unreachable-requires t c =
    let m = (sense_of c.args.scope.now) in
    unchanged m c.args.e.now c.in_default.not-Of c.requires

pub settle_builtin-settle_applied-requires : goal.settle_builtin-settle_applied-requires
settle_builtin-settle_applied-requires t c =
    let m = (sense_of c.args.scope.now) in
    let parts = applied_parts m c.args.function c.args.arguments.now c.in_default.not-Length c.in_default.not-Match c.in_default.not-Sub c.in_default.not-Gsub c.in_default.not-Split c.requires in
    (search rules, (parts.0, parts.1))

pub settle_length-settle_applied-requires : goal.settle_length-settle_applied-requires
settle_length-settle_applied-requires t c =
    let m = (sense_of c.args.scope.now) in
    let parts = uncounted_parts m c.args.arguments.now c.in-None.ensures.there c.requires in
    (search rules, (parts.0, parts.1))

pub settle_arguments-settle_argument-requires : goal.settle_arguments-settle_argument-requires
settle_arguments-settle_argument-requires t c =
    let m = (sense_of c.args.scope.now) in
    let d : 5 * most expr.the_size c.args.arguments.now + 2 ≡ t = c.decreases in
    let among : expr.the_size (get_or c.args.arguments.now c.loop-i.i c.index-arguments-i.result) ≤ most expr.the_size c.args.arguments.now = at_most expr.the_size c.args.arguments.now c.loop-i.i c.index-arguments-i.result c.loop-i-test.true in
    let same : expr.the_size c.get.result.now ≡ expr.the_size (get_or c.args.arguments.now c.loop-i.i c.index-arguments-i.result) = ap expr.the_size (c.get.ensures ∙ c.index-arguments-i.is) in
    let falls : 5 * expr.the_size c.get.result.now + 1 < t = omega (arith, d, among, same) in
    (falls, argument_fits m (m.kinds c.args.function) c.kind_at-kind.result c.args.arguments.now c.loop-i.i c.index-arguments-i.result c.get.result.now c.loop-i-test.true c.index-arguments-i.is c.get.ensures c.kind_at-kind.ensures c.requires)

pub settle_links-settle_right-requires : goal.settle_links-settle_right-requires
settle_links-settle_right-requires t c =
    let m = (sense_of c.args.scope.now) in
    let d : 5 * most link.the_size c.args.links.now + 1 ≡ t = c.decreases in
    let among : link.the_size (get_or c.args.links.now c.loop-link.link-index c.link-item.result) ≤ most link.the_size c.args.links.now = at_most link.the_size c.args.links.now c.loop-link.link-index c.link-item.result c.loop-link-test.true in
    let same : link.the_size c.link-item.result ≡ link.the_size (get_or c.args.links.now c.loop-link.link-index c.link-item.result) = ap link.the_size c.link-item.is in
    let one_more : link.the_size c.link-item.result ≡ max 0 (max (expr.the_size c.link-item.result.operand) 0) + 1 = size_is-Link c.link-item.result in
    let operand : expr.the_size c.get.result.now ≡ expr.the_size c.link-item.result.operand = ap expr.the_size c.get.ensures in
    let falls : 5 * expr.the_size c.get.result.now + 2 < t = omega (arith, d, among, same, one_more, operand) in
    (falls, ap (in_order m) c.get.ensures ∙ sym (link_is m c.link-item.result) ∙ each_at (link_in_order m) c.args.links.now c.loop-link.link-index c.link-item.result c.loop-link-test.true c.link-item.is c.requires)
