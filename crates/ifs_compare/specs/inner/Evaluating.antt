-- What handlers do at a moment within a range.
use Rattle.std.specs.Prelude.{◌≡◌, Option, slice_get}
use Rattle.ifs_base.specs.Facts.{Facts}
use Rattle.ifs_base.specs.Effects.{Effects}
use Rattle.ifs_base.specs.declared.ids.StateId.{StateId}
use Rattle.ifs_gen.specs.Events.{yield_in}
use Rattle.ifs_policy.specs.Meaning.{body_yield}
use Rattle.ifs_solver.specs.declared.domains.Branch.{Branch}
use Rattle.ifs_solver.specs.declared.fact_sets.Scope.{Scope}
use Rattle.ifs_solver.specs.FactSets.{FactSet, Within}
use Rattle.ifs_solver.specs.declared.reaching.Reached.{Reached}
use Rattle.ifs_compare.specs.declared.choosing.Both.{Both}
use Rattle.ifs_compare.specs.declared.choosing.Both.TheVariants as both
use Rattle.ifs_compare.specs.declared.evaluating.Evaluated.{Evaluated}
use Rattle.ifs_compare.specs.declared.evaluating.Evaluated.TheVariants as evaluated
use Rattle.ifs_compare.specs.declared.evaluating.Moment.{Moment}
use Rattle.ifs_compare.specs.declared.evaluating.Outcome.{Outcome}
use Rattle.ifs_compare.specs.declared.evaluating.Outcomes.{Outcomes}
use Rattle.ifs_compare.specs.declared.sides.Side.{Side}
use Rattle.ifs_compare.specs.declared.sides.Sides.{Sides}
use Rattle.ifs_compare.specs.Differing.{Blocks, entry_yield, MomentsDiffer, bodies_yield, moment_yield}
use Rattle.ifs_solver.specs.Reaching.{Yields}
use Rattle.ifs_compare.specs.inner.Comparing.{blocks_in}

-- The effects of a value of the code.
abbrev pub outcome_effects : Outcome → Effects
outcome_effects outcome = record { commands = outcome.commands.items; wish = outcome.next }

-- The commands that are reached, and a state.
abbrev pub effects_with : Reached → Option StateId → Effects
effects_with reached next = record { commands = reached.commands.items; wish = next }

-- What is reached of both bodies of an evaluation is so.
abbrev pub AreReachedIn : FactSet → Blocks → StateId → Effects → Effects → Option Branch → Type 0
AreReachedIn range blocks state before after pending = Yields range (bodies_yield blocks state) before after pending

-- It is so of a state's own body.
abbrev pub IsOwnReached : FactSet → Blocks → StateId → Effects → Effects → Option Branch → Type 0
IsOwnReached range blocks state before after pending = Yields range (λ facts. yield_in (λ part. body_yield facts part.body) (slice_get blocks.states state.0)) before after pending

-- It is so of the init of a state that is entered.
abbrev pub IsEntryReached : FactSet → Blocks → Option StateId → Effects → Effects → Option Branch → Type 0
IsEntryReached range blocks entered before after pending = Yields range (λ facts. entry_yield blocks facts entered) before after pending

-- What is known of a function of facts within a range is so.
abbrev pub IsEvaluated : FactSet → (Facts → Effects) → Evaluated → Type 0
IsEvaluated range yield (evaluated.Known outcome) = (facts : Facts) → Within range facts → yield facts ≡ outcome_effects outcome
IsEvaluated range yield (evaluated.Open ask) = Unit {0}

-- Both policies do this at a moment, under all facts within a range.
pub record AreOutcomes (range : FactSet) (sides : Sides) (moment : Moment) (outcomes : Outcomes) : Type 0 where
  pub old : (facts : Facts) → Within range facts → moment_yield (blocks_in sides.old) moment facts ≡ outcome_effects outcomes.old
  pub new : (facts : Facts) → Within range facts → moment_yield (blocks_in sides.new) moment facts ≡ outcome_effects outcomes.new

-- What is known of both within a range is so.
abbrev pub AreEvaluated : FactSet → Sides → Moment → Both → Type 0
AreEvaluated range sides moment (both.Known outcomes) = AreOutcomes range sides moment outcomes
AreEvaluated range sides moment (both.Open ask) = Unit {0}

-- Under some facts they do something else at a moment.
abbrev pub DoMomentsDiffer : Scope → Sides → Type 0
DoMomentsDiffer scope sides = MomentsDiffer scope (blocks_in sides.old) (blocks_in sides.new)
