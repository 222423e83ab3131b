-- Those of one more state.
use Rattle.std.proofs.Common.{Option, Vec, length, ◌+◌, IfSome, [], ◌∷◌, sym, ap, ◌∙◌, subst, arith}
use Rattle.std.proofs.lemmas.List.{length-append}
use Rattle.std.specs.declared.alloc.Global.{Global}
use Rattle.ifs_levels.specs.declared.moments.Moment.TheVariants.{In}
use Rattle.ifs_levels.specs.declared.moments.Outcome.{Outcome}
use Rattle.ifs_levels.specs.declared.policy_outcomes.StateOutcomes.{StateOutcomes}
use Rattle.ifs_levels.specs.Outcomes.{AreOutcomesOf}
use Rattle.ifs_levels.specs.inner.Tables.{AreAllFrom}
use Rattle.ifs_levels.proofs.Spending.{spent_twice}
use Rattle.ifs_levels.proofs.Tables.{state_at, one_more_state}
use Rattle.ifs_levels.proofs.policy_outcomes.states_of.Goals as goal

pub loop-index-preserved : goal.loop-index-preserved
loop-index-preserved c =
    let policy = c.args.policy.now in
    let before = c.loop-index.states.items in
    let index = c.loop-index.index in
    let next : StateOutcomes = record { outcomes = c.in-Some.outcomes } in
    let so_far = c.loop-index.invariant.0 in
    let many = c.loop-index.invariant.1 in
    let is = c.in_ok-push.ensures.items in
    let one = subst (λ (o : Option (Vec Outcome Global)). IfSome o (λ outcomes. AreOutcomesOf policy (In (state_at index)) outcomes.items)) c.in-Some.is c.in_ok-outcomes.ensures.found in (
      subst (AreAllFrom policy 0) (sym is) (one_more_state policy 0 index before next (omega (arith, many)) so_far one),
      ap length is ∙ length-append before (next ∷ []) ∙ ap (λ n. n + 1) many,
      spent_twice c.args.budget.now c.loop-index.budget c.outcomes.new.budget c.loop-index.invariant.2 c.in_ok-outcomes.ensures.spent,
    )
