-- The outcomes of the state.
use Rattle.std.proofs.Common.{Some, sym, ap, ◌∙◌, subst}
use Rattle.std.specs.Prelude.{slice_get}
use Rattle.std.proofs.lemmas.Option.{slice_get-get_or}
use Rattle.ifs_gen.specs.Trees.{Policy}
use Rattle.ifs_levels.specs.declared.moments.Moment.TheVariants.{In}
use Rattle.ifs_levels.specs.Outcomes.{AreOutcomesOf}
use Rattle.ifs_levels.proofs.Tables.{at_state}
use Rattle.ifs_levels.proofs.policy_outcomes.PolicyOutcomes.in_state.Goals as goal

pub returns-in-Some : goal.returns-in-Some
returns-in-Some c =
    let policy = c.self.inside.policy.now in
    let found = c.in-Some.ensures.lookup in
    let at =
    ap (λ xs. slice_get xs c.args.state.0) (sym c.as_slice.ensures.value) ∙ ap (λ n. slice_get c.as_slice.result.now n) (sym c.from.ensures)
    ∙ slice_get-get_or c.as_slice.result.now c.from.result c.in-Some.found.now found.3.0 ∙ ap (λ x. Some x) (sym found.1) in
    subst (λ (p : Policy). AreOutcomesOf p (In c.args.state) c.as_slice-in-Some.result.now) c.self.view_is
    (subst (AreOutcomesOf policy (In c.args.state)) (sym c.as_slice-in-Some.ensures.value) (at_state policy c.args.state c.self.inside.states.items c.in-Some.found.now c.self.invariant.1 at))
