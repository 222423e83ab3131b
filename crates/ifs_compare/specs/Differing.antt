-- What two policies over the same tables do otherwise.
use Rattle.std.specs.Prelude.{◌≡◌, ◌≢◌, ◌<◌, ◌⊎◌, List, ◌++◌, length, map, Option, Some, None, slice_get}
use Rattle.ifs_base.specs.Facts.{Facts}
use Rattle.ifs_base.specs.Effects.{Effects, nothing_yet, followed}
use Rattle.ifs_base.specs.declared.ids.StateId.{StateId}
use Rattle.ifs_base.specs.declared.ids.TestId.{TestId}
use Rattle.ifs_gen.specs.Trees.{Part, Policy}
use Rattle.ifs_gen.specs.Events.{yield_in}
use Rattle.ifs_gen.specs.PlainSizes.{room_of}
use Rattle.ifs_policy.specs.declared.tables.Tables.{Tables}
use Rattle.ifs_policy.specs.Meaning.{init_yield, body_yield}
use Rattle.ifs_policy.specs.Visits.{mentions}
use Rattle.ifs_solver.specs.declared.fact_sets.Scope.{Scope}
use Rattle.ifs_solver.specs.FactSets.{AreFactsOf, scope_of}
use Rattle.ifs_compare.specs.declared.evaluating.Moment.{Moment}
use Rattle.ifs_compare.specs.declared.evaluating.Moment.TheVariants.{Opening, In}
use Rattle.ifs_compare.specs.Renumbering.{HaveSameNames, state_number, renumbered_part, part_named}
use Rattle.ifs_solver.specs.Reaching.{settled, evaluation_yield}
use Rattle.ifs_compare.specs.Alike.{IsTheSame}

-- The initial state of a policy, and its parts.
pub record Blocks : Type 0 where
  pub initial : StateId
  pub always : Part
  pub states : List Part

-- Those of a policy.
abbrev pub blocks_of : Policy → Blocks
blocks_of policy = record { initial = policy.initial; always = policy.always; states = policy.states }

-- Two functions differ on some facts of so many links and tests.
pub record DifferOn (scope : Scope) (one other : Facts → Effects) : Type 0 where
  pub facts : Facts
  pub are : AreFactsOf scope facts
  pub differ : one facts ≢ other facts

-- Other tests are active in two parts: the body of one alone mentions a test.
pub record HaveOtherTests (scope : Scope) (one other : Part) : Type 0 where
  pub test : TestId
  pub there : test.0 < scope.tests
  pub differ : mentions test one.body ≢ mentions test other.body

-- A state has these parts in two policies.
pub record ArePartsOf (old new : Blocks) (state : StateId) (one other : Part) : Type 0 where
  pub before : slice_get old.states state.0 ≡ Some one
  pub after : slice_get new.states state.0 ≡ Some other

-- Two policies begin in other states, have other numbers of states, or other tests are active in them.
pub data AreApart (scope : Scope) (old new : Blocks) : Type 0 where
  by_initial : old.initial ≢ new.initial → AreApart scope old new
  by_count : length old.states ≢ length new.states → AreApart scope old new
  by_tests : HaveOtherTests scope old.always new.always → AreApart scope old new
  by_tests_in : (state : StateId) (one other : Part) → ArePartsOf old new state one other → HaveOtherTests scope one other → AreApart scope old new

-- Under some facts the inits outside any state, the inits of a state, or evaluations in a state do something else.
pub data HandlersDiffer (scope : Scope) (old new : Blocks) : Type 0 where
  in_opening : DifferOn scope (λ facts. init_yield facts old.always.init) (λ facts. init_yield facts new.always.init) → HandlersDiffer scope old new
  in_init : (state : StateId) (one other : Part) → ArePartsOf old new state one other → DifferOn scope (λ facts. init_yield facts one.init) (λ facts. init_yield facts other.init) → HandlersDiffer scope old new
  in_evaluation : (state : StateId) (one other : Part) → ArePartsOf old new state one other
      → DifferOn scope (evaluation_yield state old.always.body one.body) (evaluation_yield state new.always.body other.body) → HandlersDiffer scope old new

-- What the init of a state yields, if one is entered that is there.
abbrev pub entry_yield : Blocks → Facts → Option StateId → Effects
entry_yield blocks facts None = nothing_yet
entry_yield blocks facts (Some state) = yield_in (λ part. init_yield facts part.init) (slice_get blocks.states state.0)

-- Effects with the commands of the init of a state that is entered.
abbrev pub with_entry : Blocks → Facts → Option StateId → Effects → Effects
with_entry blocks facts entered effects = record { commands = effects.commands ++ (entry_yield blocks facts entered).commands; wish = effects.wish }

-- What the bodies of an evaluation in a state yield.
abbrev pub bodies_yield : Blocks → StateId → Facts → Effects
bodies_yield blocks state facts = followed (body_yield facts blocks.always.body) (yield_in (λ part. body_yield facts part.body) (slice_get blocks.states state.0))

-- What handlers do at a moment under facts: the commands that it queues, in order, and the other state that it leads to. An init mentions no test, so it does not matter that tests lose their values where a state is entered.
abbrev pub moment_yield : Blocks → Moment → Facts → Effects
moment_yield blocks Opening facts = with_entry blocks facts (Some blocks.initial) (record { commands = (init_yield facts blocks.always.init).commands; wish = None })
moment_yield blocks (In state) facts = with_entry blocks facts (settled state (bodies_yield blocks state facts)).wish (settled state (bodies_yield blocks state facts))

-- A policy has the state of a moment.
abbrev pub IsMomentOf : Blocks → Moment → Type 0
IsMomentOf blocks Opening = Unit {0}
IsMomentOf blocks (In state) = state.0 < length blocks.states

-- Under some facts handlers do something else at a moment.
pub record MomentsDiffer (scope : Scope) (old new : Blocks) : Type 0 where
  pub moment : Moment
  pub there : IsMomentOf old moment
  pub differ : DifferOn scope (moment_yield old moment) (moment_yield new moment)

-- The blocks of a policy with other numbers.
abbrev pub blocks_over : Tables → Tables → Policy → Blocks
blocks_over from to policy = record { initial = state_number from to policy.initial; always = renumbered_part from to policy.always; states = map (part_named policy from to) to.states }

-- The blocks of a policy with the numbers of another one.
abbrev pub blocks_as : Policy → Policy → Blocks
blocks_as old new = blocks_over new.tables old.tables new

-- A policy differs from another one: in a name, or in the greatest number of commands of an event; or with the other's numbers it begins elsewhere, has other active tests, or does something else at a moment under some facts.
pub data DoDiffer (old new : Policy) : Type 0 where
  in_names : ¬ HaveSameNames old.tables new.tables → DoDiffer old new
  in_room : room_of old ≢ room_of new → DoDiffer old new
  in_tests : AreApart (scope_of old) (blocks_of old) (blocks_as old new) → DoDiffer old new
  in_moments : MomentsDiffer (scope_of old) (blocks_of old) (blocks_as old new) → DoDiffer old new

-- Handlers of a policy, with the numbers of another one, do something else than the other's under some facts; or it begins elsewhere or has other active tests.
abbrev pub AreOther : Policy → Policy → Type 0
AreOther old new = AreApart (scope_of old) (blocks_of old) (blocks_as old new) ⊎ HandlersDiffer (scope_of old) (blocks_of old) (blocks_as old new)

-- Policies that differ in such a way are not the same.
pub record DifferencesAreReal : Type 0 where
  pub differ : (old new : Policy) → DoDiffer old new → IsTheSame old new → ⊥
  pub other : (old new : Policy) → AreOther old new → IsTheSame old new → ⊥
