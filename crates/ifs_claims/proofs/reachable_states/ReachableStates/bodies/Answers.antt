-- The set of the state.
use Rattle.std.proofs.Common.{◌≡◌, Some, None, sym, ap, ◌∙◌, subst}
use Rattle.std.specs.Prelude.{slice_get}
use Rattle.std.proofs.lemmas.Option.{slice_get-get_or, slice_get_past}
use Rattle.ifs_gen.specs.Trees.{Part, Policy}
use Rattle.ifs_solver.specs.declared.fact_sets.FactSet.{FactSet}
use Rattle.ifs_solver.specs.FactSets.{scope_of}
use Rattle.ifs_claims.specs.inner.AskedSets.{IsAskedSet, asked_fact_set}
use Rattle.ifs_claims.proofs.Zipped.{zip_at, zip_none}
use Rattle.ifs_claims.proofs.reachable_states.ReachableStates.bodies.Goals as goal

pub returns-in-Some-get-clause-set : goal.returns-in-Some-get-clause-set
returns-in-Some-get-clause-set c =
    let policy = c.self.inside.policy.now in
    let part = c.in-Some.part.now in
    let found = c.in-Some-get.ensures.lookup in
    let set_at =
    ap (λ xs. slice_get xs c.args.state.0) (sym c.as_slice.ensures.value) ∙ ap (λ n. slice_get c.as_slice.result.now n) (sym c.from.ensures)
    ∙ slice_get-get_or c.as_slice.result.now c.from.result c.in-Some-get.set.now found.3.0 ∙ ap (λ x. Some x) (sym found.1) in
    let part_at = subst (λ (p : Policy). slice_get p.states c.args.state.0 ≡ Some part) (sym c.self.view_is) c.in-Some.ensures.there in
    zip_at (λ (one : Part) (set : FactSet). IsAskedSet policy one set) policy.states c.self.inside.sets.items c.args.state.0 part c.in-Some-get.set.now c.self.invariant.1 part_at set_at
    ∙ ap (λ (always : Part). asked_fact_set (scope_of policy) always.body part.body) (sym c.always.ensures)
    ∙ ap (λ (p : Policy). asked_fact_set (scope_of p) c.always.result.now.body part.body) c.self.view_is

pub returns-in-None-clause-none : goal.returns-in-None-clause-none
returns-in-None-clause-none c =
    let policy = c.self.inside.policy.now in
    let none =
    ap (λ xs. slice_get xs c.args.state.0) (sym c.as_slice.ensures.value) ∙ ap (λ n. slice_get c.as_slice.result.now n) (sym c.from.ensures)
    ∙ slice_get_past c.as_slice.result.now c.from.result c.in-None.ensures.lookup.3 in
    subst (λ (p : Policy). slice_get p.states c.args.state.0 ≡ None) c.self.view_is
    (zip_none (λ (one : Part) (set : FactSet). IsAskedSet policy one set) policy.states c.self.inside.sets.items c.args.state.0 c.self.invariant.1 none)
