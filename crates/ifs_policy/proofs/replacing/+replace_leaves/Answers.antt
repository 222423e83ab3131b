-- A chain's operands are smaller than it, and the replaced ones make the replaced chain.
use Rattle.std.proofs.Common.{◌<◌, ap, subst, ◌∙◌, arith}
use Rattle.ifs_parse.specs.Trees.{condition_size}
use Rattle.ifs_parse.specs.Views.{condition_of, OperandsBelow}
use Rattle.ifs_policy.specs.Leaves.{AreReplaced}
use Rattle.ifs_policy.proofs.Replaced.{greatest, below_greatest, greatest_below, all_replaced, any_replaced, same_replaced}
use Rattle.ifs_policy.proofs.replacing.+replace_leaves.Goals as goal

pub replace_leaves-replace_operands-requires : goal.replace_leaves-replace_operands-requires
replace_leaves-replace_operands-requires g t c =
    let whole = condition_size c.args.condition.now in
    let small = subst (OperandsBelow whole) c.in-All.is c.node.ensures.smaller in
    let all_small : greatest c.in-All.rest.items < whole = greatest_below whole c.in-All.rest.items (omega (arith, small.0)) small.2 in
    let same = ap greatest c.as_slice.ensures.value in
    λ κs h. (omega arith, (h.0, (h.1.0, (h.1.1, c.requires))))

pub replace_leaves-replace_operands-requires-in-Any : goal.replace_leaves-replace_operands-requires-in-Any
replace_leaves-replace_operands-requires-in-Any g t c =
    let whole = condition_size c.args.condition.now in
    let small = subst (OperandsBelow whole) c.in-Any.is c.node.ensures.smaller in
    let all_small : greatest c.in-Any.rest.items < whole = greatest_below whole c.in-Any.rest.items (omega (arith, small.0)) small.2 in
    let same = ap greatest c.as_slice-in-Any.ensures.value in
    λ κs h. (omega arith, (h.0, (h.1.0, (h.1.1, c.requires))))

pub replace_operands-replace_leaves-requires : goal.replace_operands-replace_leaves-requires
replace_operands-replace_leaves-requires g t c =
    let small = below_greatest c.args.operands.now c.loop-operand.operand-index c.operand-item.result c.loop-operand-test.true in
    let same = ap condition_size c.operand-item.is in
    λ κs h. (omega arith, (h.0, (h.1.0, (h.1.1, c.requires))))

pub replace_leaves-returns-in_ok-rest-in-All : goal.replace_leaves-returns-in_ok-rest-in-All
replace_leaves-returns-in_ok-rest-in-All g t c =
    let f = g.M.LeafMap.image c.args.map.now in
    let P = g.M.LeafMap.fits c.args.map.now in
    let first = same_replaced f P c.deref-in-All.result.now c.in-All.first.value c.in_ok-replace_leaves-in-All.field-0 c.in_ok-first-in-All.first.value
    c.in_ok-replace_leaves-in-All.ensures c.deref-in-All.ensures c.in_ok-first-in-All.ensures in
    let second = same_replaced f P c.deref-in-All-2.result.now c.in-All.second.value c.in_ok-replace_leaves-in-All-2.field-0 c.in_ok-second-in-All.second.value
    c.in_ok-replace_leaves-in-All-2.ensures c.deref-in-All-2.ensures c.in_ok-second-in-All.ensures in
    let others = subst (λ l. AreReplaced f P l c.in_ok-rest-in-All.rest.items) c.as_slice.ensures.value c.in_ok-rest-in-All.ensures in
    all_replaced f P c.in-All.first.value c.in-All.second.value c.in-All.rest.items c.in_ok-first-in-All.first.value c.in_ok-second-in-All.second.value c.in_ok-rest-in-All.rest.items
    first second others c.args.condition.now c.new-in-All.result (c.node.ensures.value ∙ ap condition_of c.in-All.is) c.new-in-All.ensures

pub replace_leaves-returns-in_ok-rest-in-Any : goal.replace_leaves-returns-in_ok-rest-in-Any
replace_leaves-returns-in_ok-rest-in-Any g t c =
    let f = g.M.LeafMap.image c.args.map.now in
    let P = g.M.LeafMap.fits c.args.map.now in
    let first = same_replaced f P c.deref-in-Any.result.now c.in-Any.first.value c.in_ok-replace_leaves-in-Any.field-0 c.in_ok-first-in-Any.first.value
    c.in_ok-replace_leaves-in-Any.ensures c.deref-in-Any.ensures c.in_ok-first-in-Any.ensures in
    let second = same_replaced f P c.deref-in-Any-2.result.now c.in-Any.second.value c.in_ok-replace_leaves-in-Any-2.field-0 c.in_ok-second-in-Any.second.value
    c.in_ok-replace_leaves-in-Any-2.ensures c.deref-in-Any-2.ensures c.in_ok-second-in-Any.ensures in
    let others = subst (λ l. AreReplaced f P l c.in_ok-rest-in-Any.rest.items) c.as_slice-in-Any.ensures.value c.in_ok-rest-in-Any.ensures in
    any_replaced f P c.in-Any.first.value c.in-Any.second.value c.in-Any.rest.items c.in_ok-first-in-Any.first.value c.in_ok-second-in-Any.second.value c.in_ok-rest-in-Any.rest.items
    first second others c.args.condition.now c.new-in-Any.result (c.node.ensures.value ∙ ap condition_of c.in-Any.is) c.new-in-Any.ensures
