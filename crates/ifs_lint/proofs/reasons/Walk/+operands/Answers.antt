-- The operands of a chain, one after the other.
use Rattle.std.proofs.Common.{refl, ap, sym, ◌∙◌, ◌++◌}
use Rattle.std.specs.List.{flat_map}
use Rattle.ifs_parse.specs.Views.{condition_of}
use Rattle.ifs_lint.specs.inner.Marking.{is_chain, joins, next_kinds, operand_kinds, own_kinds}
use Rattle.ifs_lint.proofs.Marking.{node_kinds, none_left, one_after}
use Rattle.ifs_lint.proofs.reasons.Walk.+operands.Goals as goal

pub operands-returns-after-loop-operand : goal.operands-returns-after-loop-operand
operands-returns-after-loop-operand t c =
    let first = c.in-All.first.value in
    let second = c.in-All.second.value in
    let items = c.deref-operand-items.result.now in
    let start = c.args.passed.now.items in
    let sign = joins c.node-node.result.now in
    let own =
    ap own_kinds (c.is_chain.ensures ∙ ap (λ d. is_chain d c.deref-in-All.result.now) c.joins-deciding.ensures ∙ ap (is_chain sign) c.deref-in-All.ensures) in
    one_after start c.operand.new.passed.items c.operand-in-All.new.passed.items c.loop-operand.passed.items
    (own_kinds (is_chain sign first) ++ operand_kinds first) (next_kinds second) (flat_map next_kinds items) (operand_kinds c.args.condition.now)
    (c.in_ok-operand-in-All.ensures ∙ ap (λ xs. start ++ (xs ++ operand_kinds c.deref-in-All-2.result.now)) own
    ∙ ap (λ o. start ++ (own_kinds (is_chain sign first) ++ operand_kinds o)) c.deref-in-All-2.ensures)
    (c.in_ok-operand-in-All-2.ensures ∙ ap (λ o. c.operand.new.passed.items ++ next_kinds o) c.deref-in-All-3.ensures)
    (none_left next_kinds c.loop-operand.passed.items _ items c.loop-operand.operand-index c.loop-operand-test.false c.loop-operand.invariant)
    (ap operand_kinds c.node-node.ensures.value ∙ node_kinds condition_of joins c.node-node.result.now _ _ first second c.in-All.rest.items c.in-All.is refl refl refl refl
    ∙ ap (λ xs. ((own_kinds (is_chain sign first) ++ operand_kinds first) ++ next_kinds second) ++ flat_map next_kinds xs) (sym c.deref-operand-items.ensures.value))
