-- All that may come of evaluations, state by state.
use Rattle.std.specs.Prelude.{ℕ, suc, List, [], ◌∷◌}
use Rattle.ifs_gen.specs.Trees.{Policy}
use Rattle.ifs_levels.specs.declared.moments.Moment.TheVariants.{In}
use Rattle.ifs_levels.specs.declared.policy_outcomes.StateOutcomes.{StateOutcomes}
use Rattle.ifs_levels.specs.Outcomes.{AreOutcomesOf}

-- These are all that may come of evaluations in the states from a number on, in order.
abbrev pub AreAllFrom : Policy → ℕ → List StateOutcomes → Type 0
AreAllFrom policy n [] = Unit {0}
AreAllFrom policy n (first ∷ rest) = AreOutcomesOf policy (In (record { 0 = n })) first.outcomes.items × AreAllFrom policy (suc n) rest
