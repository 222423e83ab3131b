-- Operands one after the other, and back from them.
use Rattle.std.proofs.Common.{refl, sym, ap, ◌∙◌, subst, take, length, ◌≡◌, arith, ◌++◌}
use Rattle.ifs_parse.specs.Views.{condition_of}
use Rattle.ifs_solver.specs.Places.{own_place, operand_places, is_chain}
use Rattle.ifs_solver.specs.inner.Judging.{joins}
use Rattle.ifs_solver.specs.inner.Walking.{IsInChain, Walked}
use Rattle.ifs_solver.proofs.Adding.{into_chain, walked_then, chain_goes_on, next_in_chain, out_of_chain, whole_chain, all_of_chain, chain_so_far, so_far_is_chain, join}
use Rattle.ifs_solver.proofs.walking.Walk.+operands.Goals as goal

pub operand-returns : goal.operand-returns
operand-returns t c =
    let operand = c.args.operand.now in
    into_chain c.args.deciding c.args.operand (λ here later. own_place c.args.several here operand ++ operand_places here operand) c.args.self.now c.operands.new.self _
    (walked_then (λ here later. own_place c.args.several here operand) (λ here later. operand_places here operand) c.args.self.now c.own.new.self c.operands.new.self c.in_ok-own.ensures c.in_ok-operands.ensures)
    refl refl refl refl refl c.in_ok-push.ensures.items

pub operands-returns-in_ok-operands-in-Not : goal.operands-returns-in_ok-operands-in-Not
operands-returns-in_ok-operands-in-Not t c =
    subst (λ x. Walked (λ here later. operand_places here x) c.args.self.now c.operands.new.self) (sym (c.node-node.ensures.value ∙ ap condition_of c.in-Not.is))
    (subst (λ x. Walked (λ here later. operand_places here x) c.args.self.now c.operands.new.self) c.deref.ensures c.in_ok-operands-in-Not.ensures)

pub operands-loop-operand-preserved : goal.operands-loop-operand-preserved
operands-loop-operand-preserved t c = λ before start.
    chain_goes_on c.joins-deciding.result before c.args.self.now c.loop-operand.self c.operand-in-loop-operand.new.self c.deref-operand-items.result.now c.loop-operand.operand-index c.operand-item.result
    c.loop-operand-test.true c.operand-item.is (c.loop-operand.invariant before start) c.in_ok-operand-in-All-3.ensures

pub operands-returns-after-loop-operand : goal.operands-returns-after-loop-operand
operands-returns-after-loop-operand t c =
    let deciding = c.joins-deciding.result in
    let first = c.deref-in-All-2.result.now in
    let second = c.deref-in-All-3.result.now in
    let items = c.deref-operand-items.result.now in
    let i = c.loop-operand.operand-index in
    let whole =
    whole_chain condition_of joins _ _ _ c.args.condition.now c.in-All.first.value c.in-All.second.value c.in-All.rest.items deciding c.in-All.is refl refl refl refl c.node-node.ensures.value
    c.joins-deciding.ensures in
    let all =
    all_of_chain deciding c.args.condition.now first second c.in-All.first.value c.in-All.second.value items c.in-All.rest.items i whole c.deref-in-All-2.ensures c.deref-in-All-3.ensures
    c.deref-operand-items.ensures.value c.loop-operand-test.false in
    let start =
    next_in_chain deciding first second c.args.self.now c.operand.new.self c.operand-in-All.new.self
    (subst (λ several. IsInChain deciding first (λ here later. own_place several here first ++ operand_places here first) c.args.self.now c.operand.new.self) (c.is_chain.ensures ∙ ap (is_chain deciding) (c.deref-in-All.ensures ∙ sym c.deref-in-All-2.ensures)) c.in_ok-operand-in-All.ensures)
    c.in_ok-operand-in-All-2.ensures in
    let deep : c.len-depth.result ≡ length c.args.self.now.context.items = omega (arith, c.len-depth.ensures, c.args.self.now.context.ok) in
    out_of_chain deciding c.args.condition.now (chain_so_far deciding first second (take i items)) c.len-depth.result c.args.self.now c.loop-operand.self c.leave.new.self all
    (so_far_is_chain deciding first second (take i items)) deep (c.loop-operand.invariant (join deciding first second) start) c.leave.ensures
