-- The walk over the items has the result of the tree.
use Rattle.std.proofs.Common.{List, ap, sym, subst, ◌∙◌}
use Rattle.std.proofs.lemmas.Result.{err_from_is_err_and}
use Rattle.std.specs.List.{list_any}
use Rattle.ifs_policy.specs.Faults.{is_state, no_state}
use Rattle.ifs_parse.specs.declared.tree.Item.{Item}
use Rattle.ifs_policy.specs.inner.Walked.{Walked}
use Rattle.ifs_policy.proofs.Fitting.{resolved_fits}
use Rattle.ifs_policy.proofs.Refusals.{refused_has_none, walk_refuses, resolved}
use Rattle.ifs_policy.proofs.resolving.resolve.Goals as goal

pub returns-then-not-has_state-clause-refused : goal.returns-then-not-has_state-clause-refused
returns-then-not-has_state-clause-refused c = λ other. no_state (ap (list_any is_state) (sym c.items-items.ensures.items) ∙ sym c.if-not-has_state.ensures)

pub returns-in_err-initial-clause-refused : goal.returns-in_err-initial-clause-refused
returns-in_err-initial-clause-refused c =
    let p = err_from_is_err_and c.from_residual.result c.from_residual.ensures.1 in
    rw p.1 (walk_refuses c.args.tree.now.items _ _ c.in_err-initial.field-0.0 p.2 c.items-items.ensures.items (sym c.if-not-has_state.ensures) c.in_err-initial.ensures.refused)

pub returns-in_err-initial-clause-none : goal.returns-in_err-initial-clause-none
returns-in_err-initial-clause-none c =
    let p = err_from_is_err_and c.from_residual.result c.from_residual.ensures.1 in
    rw p.1 (λ other. refused_has_none c.args.tree.now.items _
    (walk_refuses c.args.tree.now.items _ _ c.in_err-initial.field-0.0 p.2 c.items-items.ensures.items (sym c.if-not-has_state.ensures) c.in_err-initial.ensures.refused other))

pub new-requires : goal.new-requires
new-requires c =
    let items = c.args.tree.now.items in
    let placed = c.in_ok-initial.field-0 in
    let names = c.walk.new.names in
    let some = ap (list_any is_state) (sym c.items-items.ensures.items) ∙ sym c.if-not-has_state.ensures in
    let walked = subst (λ (l : List Item). Walked l placed names) c.items-items.ensures.items c.in_ok-initial.ensures.walked in
    resolved_fits c.args.tree.now (record { tables = names.tables; initial = placed.initial; always = placed.always; states = placed.states }) c.items-items.ensures.said (resolved items placed names some walked)
