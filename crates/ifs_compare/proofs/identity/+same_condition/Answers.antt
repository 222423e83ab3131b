-- A chain's operands are smaller than it.
use Rattle.std.proofs.Common.{◌<◌, ap, subst, arith}
use Rattle.ifs_parse.specs.Trees.{condition_size}
use Rattle.ifs_parse.specs.Views.{OperandsBelow}
use Rattle.ifs_policy.proofs.Replaced.{greatest, below_greatest, greatest_below}
use Rattle.ifs_compare.proofs.identity.+same_condition.Goals as goal

pub same_condition-same_operands-requires : goal.same_condition-same_operands-requires
same_condition-same_operands-requires t c =
    let whole = condition_size c.args.one.now in
    let small = subst (OperandsBelow whole) c.in-All-All.is-0 c.node.ensures.smaller in
    let all_small : greatest c.in-All-All.rest.items < whole = greatest_below whole c.in-All-All.rest.items (omega (arith, small.0)) small.2 in
    let same = ap greatest c.as_slice.ensures.value in
    (omega arith, tt)

pub same_condition-same_operands-requires-then-same_condition-4 : goal.same_condition-same_operands-requires-then-same_condition-4
same_condition-same_operands-requires-then-same_condition-4 t c =
    let whole = condition_size c.args.one.now in
    let small = subst (OperandsBelow whole) c.in-Any-Any.is-0 c.node.ensures.smaller in
    let all_small : greatest c.in-Any-Any.rest.items < whole = greatest_below whole c.in-Any-Any.rest.items (omega (arith, small.0)) small.2 in
    let same = ap greatest c.as_slice-then-same_condition-4.ensures.value in
    (omega arith, tt)

pub same_operands-same_condition-requires : goal.same_operands-same_condition-requires
same_operands-same_condition-requires t c =
    let small = below_greatest c.args.one.now c.loop-index.index c.index-one-index.result c.loop-index-test.true in
    let same = ap condition_size c.index-one-index.is in
    (omega arith, tt)
