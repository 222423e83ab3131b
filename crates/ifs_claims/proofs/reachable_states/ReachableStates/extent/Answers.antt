-- The answer of the state.
use Rattle.std.proofs.Common.{Some, sym, ap, ◌∙◌, subst}
use Rattle.std.specs.Prelude.{slice_get}
use Rattle.std.proofs.lemmas.Option.{slice_get-get_or}
use Rattle.ifs_solver.specs.Situations.{IsEntryOf}
use Rattle.ifs_claims.proofs.reachable_states.ReachableStates.extent.Goals as goal

pub returns-in-Some : goal.returns-in-Some
returns-in-Some c =
    let found = c.in-Some.ensures.lookup in
    subst (λ policy. IsEntryOf policy c.args.state c.in-Some.answer.now.entered) c.self.view_is
    (c.self.invariant.0.each c.args.state.0 c.in-Some.answer.now
    (ap (λ xs. slice_get xs c.args.state.0) (sym c.as_slice.ensures) ∙ ap (λ n. slice_get c.as_slice.result.now n) (sym c.from.ensures)
    ∙ slice_get-get_or c.as_slice.result.now c.from.result c.in-Some.answer.now found.3.0 ∙ ap (λ x. Some x) (sym found.1))).entered
