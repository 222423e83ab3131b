-- What comes of a course of handlers within a set of facts.
use Rattle.std.specs.Prelude.{ℕ, ◌≡◌, ◌≤◌, true, is_some, List, ◌++◌, Option, Some, None, slice_get, All, Any}
use Rattle.ifs_base.specs.Facts.{Facts}
use Rattle.ifs_base.specs.Effects.{Effects, nothing_yet, followed}
use Rattle.ifs_base.specs.declared.ids.CommandId.{CommandId}
use Rattle.ifs_base.specs.declared.ids.StateId.{StateId}
use Rattle.ifs_core.specs.Event.{AlwaysInit, AlwaysBody, Body}
use Rattle.ifs_gen.specs.Events.{yield_in, yield_of}
use Rattle.ifs_gen.specs.Trees.{Part, Policy}
use Rattle.ifs_policy.specs.Meaning.{init_yield}
use Rattle.ifs_solver.specs.declared.domains.Branch.{Branch}
use Rattle.ifs_solver.specs.declared.domains.Domain.{Domain}
use Rattle.ifs_solver.specs.declared.reaching.Yielded.{Yielded}
use Rattle.ifs_solver.specs.FactSets.{FactSet, AreFactsOf, Within, HasDomain, with_domain}
use Rattle.ifs_solver.specs.Reaching.{Yields, effects_of, settled, yield_by}
use Rattle.ifs_solver.specs.declared.fact_sets.Scope.{Scope}
use Rattle.ifs_levels.specs.declared.moments.Moment.{Moment}
use Rattle.ifs_levels.specs.declared.moments.Moment.TheVariants.{Opening, In}
use Rattle.ifs_levels.specs.declared.moments.Outcome.{Outcome}
use Rattle.ifs_levels.specs.declared.courses.Course.{Course}
use Rattle.ifs_levels.specs.declared.courses.Evaluated.{Evaluated}
use Rattle.ifs_levels.specs.declared.courses.Evaluated.TheVariants.{Known, Open}

-- Effects, with a wish for a state that is entered whatever they wish for.
abbrev pub entering : Option StateId → Effects → Effects
entering None effects = effects
entering (Some state) effects = record { commands = effects.commands; wish = Some state }

-- What the first handler of a course yields.
abbrev pub begun_by : Course → Facts → Effects
begun_by course facts = entering course.initial (yield_by course.first facts)

-- What is known of it within a set is so.
abbrev pub IsBegun : Course → FactSet → Yielded → Type 0
IsBegun course set it = Yields set (begun_by course) nothing_yet (effects_of it.reached) it.pending

-- What the init of a state yields: nothing without one.
abbrev pub init_of : List Part → Option StateId → Facts → Effects
init_of states None facts = nothing_yet
init_of states (Some next) facts = yield_in (λ part. init_yield facts part.init) (slice_get states next.0)

-- What is known of it within a set is so.
abbrev pub IsInitReached : List Part → Option StateId → FactSet → Effects → Effects → Option Branch → Type 0
IsInitReached states next set before after pending = Yields set (init_of states next) before after pending

-- The state that a course enters.
abbrev pub next_of : Course → Facts → Option StateId
next_of course facts = (begun_by course facts).wish

-- The commands that a course queues.
abbrev pub commands_by : Course → Facts → List CommandId
commands_by course facts = (begun_by course facts).commands ++ (init_of course.states.now (next_of course facts) facts).commands

-- This comes of a course under some facts.
pub record ComesOf (course : Course) (facts : Facts) (outcome : Outcome) : Type 0 where
  pub next : next_of course facts ≡ outcome.next
  pub commands : commands_by course facts ≡ outcome.commands.items

-- What is known of a course within a set is so.
abbrev pub IsEvaluated : Course → FactSet → Evaluated → Type 0
IsEvaluated course set (Known outcome) = (facts : Facts) → Within set facts → ComesOf course facts outcome
IsEvaluated course set (Open branch) = HasDomain branch set

-- After a first handler with these effects, what is known of a course within a set is so.
abbrev pub IsFinished : Course → FactSet → Effects → Evaluated → Type 0
IsFinished course set mid it = ((facts : Facts) → Within set facts → begun_by course facts ≡ mid) → IsEvaluated course set it

-- One of these comes of a course under some facts.
abbrev pub ComesToOne : Course → List Outcome → Facts → Type 0
ComesToOne course outcomes facts = Any (ComesOf course facts) outcomes

-- This comes of a course under some facts of so many links and tests.
abbrev pub IsRealOf : Scope → Course → Outcome → Type 0
IsRealOf scope course outcome = (facts : Facts) × AreFactsOf scope facts × ComesOf course facts outcome

-- All facts within a set are of so many links and tests.
abbrev pub IsOfScope : Scope → FactSet → Type 0
IsOfScope scope set = (facts : Facts) → Within set facts → AreFactsOf scope facts

-- Later outcomes have all of earlier ones, and what comes of a course under any facts within a set. There are no others.
pub record Covers (course : Course) (set : FactSet) (before after : List Outcome) : Type 0 where
  pub kept : (facts : Facts) → ComesToOne course before facts → ComesToOne course after facts
  pub all : (facts : Facts) → Within set facts → ComesToOne course after facts
  pub real : (scope : Scope) → IsOfScope scope set → All (IsRealOf scope course) before → All (IsRealOf scope course) after

-- A search adds all within a part of a set, which stays.
pub record AddsAll (course : Course) (covered before after : FactSet) (budget : ℕ) (found found_now : List Outcome) (left : ℕ) : Type 0 where
  pub stays : after ≡ before
  pub within : left ≤ budget
  pub covers : Covers course covered found found_now

-- A search adds all within a set, or its budget runs out.
abbrev pub Adds : Course → FactSet → FactSet → ℕ → List Outcome → List Outcome → Option ℕ → Type 0
Adds course before after budget found found_now None = Unit {0}
Adds course before after budget found found_now (Some left) = AddsAll course before before after budget found found_now left

-- A search adds all within the part of a set with another domain at a place, or its budget runs out.
abbrev pub AddsPart : Course → Branch → Domain → FactSet → FactSet → ℕ → List Outcome → List Outcome → Option ℕ → Type 0
AddsPart course branch part before after budget found found_now None = Unit {0}
AddsPart course branch part before after budget found found_now (Some left) = AddsAll course (with_domain branch part before) before after budget found found_now left

-- Under all facts of so many links and tests, one of these comes of a course, and each of them does under some.
pub record AreAllOfCourse (scope : Scope) (course : Course) (outcomes : List Outcome) : Type 0 where
  pub all : (facts : Facts) → AreFactsOf scope facts → ComesToOne course outcomes facts
  pub real : All (IsRealOf scope course) outcomes

-- A search that did not run out of its budget keeps what it found.
pub record IsCompleted (left : Option ℕ) (found outcomes : List Outcome) : Type 0 where
  pub same : outcomes ≡ found
  pub there : is_some left ≡ true

-- What a search has left of its budget: nothing if it ran out.
abbrev pub what_is_left : Option ℕ → ℕ
what_is_left None = 0
what_is_left (Some left) = left

-- What runs first at a moment of a policy.
abbrev pub begun_at : Policy → Moment → Facts → Effects
begun_at policy Opening facts = entering (Some policy.initial) (yield_of policy AlwaysInit facts)
begun_at policy (In state) facts = settled state (followed (yield_of policy AlwaysBody facts) (yield_of policy (Body state.0) facts))

-- A course is what runs at a moment of a policy.
pub record IsCourseOf (policy : Policy) (moment : Moment) (course : Course) : Type 0 where
  pub begun : (facts : Facts) → begun_by course facts ≡ begun_at policy moment facts
  pub states : course.states.now ≡ policy.states
