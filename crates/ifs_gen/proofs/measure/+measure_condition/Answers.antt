-- One more operand, and the end of the chain.
use Rattle.std.proofs.Common.{◌+◌, max, ap, refl, arith}
use Rattle.ifs_parse.specs.Views.{condition_of}
use Rattle.ifs_parse.specs.Trees.{condition_size}
use Rattle.ifs_gen.specs.PlainCode.{condition_height}
use Rattle.ifs_policy.proofs.Joined.{chain_of}
use Rattle.ifs_gen.proofs.Measuring.{size_more, height_more, size_all, height_all}
use Rattle.ifs_gen.proofs.measure.+measure_condition.Goals as goal

pub loop-operand-preserved : goal.loop-operand-preserved
loop-operand-preserved t c = record {
  size = λ n start.
      let before = c.loop-operand.invariant.size n start in
      let more = size_more n c.deref-operand-items.result.now c.loop-operand.operand-index c.operand-item.result c.loop-operand-test.true c.operand-item.is in
      let operand = c.measure_condition-in-loop-operand.ensures.size in
      let joined = c.joined-measure-in-loop-operand.ensures.size in
      omega (arith, before, more, operand, joined);
  height = λ n start.
      let before = c.loop-operand.invariant.height n start in
      let more = height_more n c.deref-operand-items.result.now c.loop-operand.operand-index c.operand-item.result c.loop-operand-test.true c.operand-item.is in
      let operand = c.measure_condition-in-loop-operand.ensures.height in
      let joined = c.joined-measure-in-loop-operand.ensures.height in
      omega (arith, before, more, operand, joined);
}

pub returns-after-loop-operand-clause-size : goal.returns-after-loop-operand-clause-size
returns-after-loop-operand-clause-size t c =
    let first = c.in-All.first.value in
    let second = c.in-All.second.value in
    let n = condition_size first + condition_size second + 1 in
    let items = c.deref-operand-items.result.now in
    let chain = chain_of condition_of _ _ _ c.args.condition.now first second c.in-All.rest.items items c.in-All.is refl refl c.node.ensures.value c.deref-operand-items.ensures.value in
    let whole = size_all c.args.condition.now first second items c.loop-operand.operand-index n chain c.loop-operand-test.false refl in
    let one = c.measure_condition.ensures.size in
    let two = c.measure_condition-in-All.ensures.size in
    let joined = c.joined-measure.ensures.size in
    let first_is = ap condition_size c.deref-in-All.ensures in
    let second_is = ap condition_size c.deref-in-All-2.ensures in
    let all = c.loop-operand.invariant.size n (omega (arith, one, two, joined, first_is, second_is)) in
    omega (arith, all, whole)

pub returns-after-loop-operand-clause-height : goal.returns-after-loop-operand-clause-height
returns-after-loop-operand-clause-height t c =
    let first = c.in-All.first.value in
    let second = c.in-All.second.value in
    let n = max (condition_height first) (condition_height second + 1) in
    let items = c.deref-operand-items.result.now in
    let chain = chain_of condition_of _ _ _ c.args.condition.now first second c.in-All.rest.items items c.in-All.is refl refl c.node.ensures.value c.deref-operand-items.ensures.value in
    let whole = height_all c.args.condition.now first second items c.loop-operand.operand-index n chain c.loop-operand-test.false refl in
    let one = c.measure_condition.ensures.height in
    let two = c.measure_condition-in-All.ensures.height in
    let joined = c.joined-measure.ensures.height in
    let first_is = ap condition_height c.deref-in-All.ensures in
    let second_is = ap condition_height c.deref-in-All-2.ensures in
    let all = c.loop-operand.invariant.height n (omega (arith, one, two, joined, first_is, second_is)) in
    omega (arith, all, whole)
