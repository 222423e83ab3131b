-- Which external tests conditions and bodies ask for.
use Rattle.std.specs.Prelude.{◌≡◌, ◌||◌, Bool, true, false, not, Option, Some, None, slice_get}
use Rattle.std.specs.List.{list_any}
use Rattle.ifs_base.specs.Facts.{Facts}
use Rattle.ifs_base.specs.declared.ids.StateId.{StateId}
use Rattle.ifs_base.specs.declared.ids.TestId.{TestId}
use Rattle.ifs_gen.specs.Trees.{Part, Policy}
use Rattle.ifs_policy.specs.Meaning.{Block, mentioned}
use Rattle.ifs_policy.specs.Visits.{mentions}
use Rattle.ifs_solver.specs.FactSets.{AreFactsOf, scope_of}
use Rattle.ifs_solver.specs.Situations.{HoldsAfterSteps}

-- Each external test.
abbrev pub any_test : TestId → Bool
any_test test = true

-- An external test that a block does not ask for.
abbrev pub is_unshared : Block → TestId → Bool
is_unshared always test = not (mentions test always)

-- A block asks for no external test.
abbrev pub untested : Block → Bool
untested block = not (list_any any_test (mentioned block))

-- A block asks for no external test but those that another block asks for too.
abbrev pub shares : Block → Block → Bool
shares always block = not (list_any (is_unshared always) (mentioned block))

-- The always body asks for an external test, or the body of a state does.
abbrev pub asked_in : TestId → Option Part → Bool
asked_in test None = false
asked_in test (Some part) = mentions test part.body

abbrev pub is_asked : Policy → StateId → TestId → Bool
is_asked policy state test = mentions test policy.always.body || asked_in test (slice_get policy.states state.0)

-- Facts of a policy in a state: only tests that are asked for there have a value.
pub record AreFactsIn (policy : Policy) (state : StateId) (facts : Facts) : Type 0 where
  pub are : AreFactsOf (scope_of policy) facts
  pub asked : (test : TestId) (value : Bool) → slice_get facts.tests test.0 ≡ Some (Some value) → is_asked policy state test ≡ true

-- After any steps, only tests that are asked for in the current state have a value.
abbrev pub ValuesAreAsked : Type 0
ValuesAreAsked = (policy : Policy) → HoldsAfterSteps policy (λ s. AreFactsIn policy s.current s.facts)
