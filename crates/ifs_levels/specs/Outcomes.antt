-- What comes of a moment of a policy: the state that is entered, and the commands that are queued.
use Rattle.std.specs.Prelude.{◌≡◌, ◌⊎◌, Bool, false, List, ◌++◌, Option, Some, None, slice_get, All, Any}
use Rattle.std.specs.List.{list_all}
use Rattle.ifs_base.specs.Facts.{Facts}
use Rattle.ifs_base.specs.declared.ids.CommandId.{CommandId}
use Rattle.ifs_base.specs.declared.ids.StateId.{StateId}
use Rattle.ifs_core.specs.Event.{AlwaysInit, Init}
use Rattle.ifs_gen.specs.Events.{yield_of}
use Rattle.ifs_gen.specs.Trees.{Part, Policy}
use Rattle.ifs_solver.specs.FactSets.{AreFactsOf, scope_of}
use Rattle.ifs_solver.specs.Situations.{leads_to}
use Rattle.ifs_claims.specs.Asked.{untested}
use Rattle.ifs_claims.specs.Moves.{commands_of}
use Rattle.ifs_levels.specs.declared.moments.Moment.{Moment}
use Rattle.ifs_levels.specs.declared.moments.Moment.TheVariants.{Opening, In}
use Rattle.ifs_levels.specs.declared.moments.Outcome.{Outcome}

-- The state that is entered.
abbrev pub next_at : Policy → Moment → Facts → Option StateId
next_at policy Opening facts = Some policy.initial
next_at policy (In state) facts = leads_to policy facts state

-- The commands that are queued.
abbrev pub commands_at : Policy → Moment → Facts → List CommandId
commands_at policy Opening facts = (yield_of policy AlwaysInit facts).commands ++ (yield_of policy (Init policy.initial.0) facts).commands
commands_at policy (In state) facts = commands_of policy facts state

-- This comes of a moment under some facts.
pub record ComesTo (policy : Policy) (moment : Moment) (facts : Facts) (outcome : Outcome) : Type 0 where
  pub next : next_at policy moment facts ≡ outcome.next
  pub commands : commands_at policy moment facts ≡ outcome.commands.items

-- This comes of a moment under some facts of the policy.
abbrev pub IsReal : Policy → Moment → Outcome → Type 0
IsReal policy moment outcome = (facts : Facts) × AreFactsOf (scope_of policy) facts × ComesTo policy moment facts outcome

-- Under all facts of the policy one of these outcomes comes of a moment, and each of them does under some.
pub record AreOutcomesOf (policy : Policy) (moment : Moment) (outcomes : List Outcome) : Type 0 where
  pub all : (facts : Facts) → AreFactsOf (scope_of policy) facts → Any (ComesTo policy moment facts) outcomes
  pub real : All (IsReal policy moment) outcomes

-- The init of a part has no external test.
abbrev pub has_no_test : Part → Bool
has_no_test part = untested part.init

-- No init of these parts has one.
abbrev pub have_no_tests : List Part → Bool
have_no_tests states = list_all has_no_test states

-- A moment is one of a state that the policy does not have.
abbrev pub IsMissing : Policy → Moment → Type 0
IsMissing policy Opening = ⊥
IsMissing policy (In state) = slice_get policy.states state.0 ≡ None

-- A moment is not looked at: an init of a state has an external test, or the state is missing.
abbrev pub IsUnasked : Policy → Moment → Type 0
IsUnasked policy moment = (have_no_tests policy.states ≡ false) ⊎ IsMissing policy moment
