-- States that the policy does not leave so often.
use Rattle.std.specs.Prelude.{ℕ, ◌≡◌, ◌<◌, ◌≤◌, ◌==◌, not, ◌&&◌, ◌||◌, suc, Bool, true, false, List, length, map, Option, Some, None, slice_get}
use Rattle.ifs_base.specs.Facts.{Facts}
use Rattle.ifs_base.specs.declared.ids.StateId.{StateId}
use Rattle.ifs_core.specs.declared.step.Step.{Step}
use Rattle.ifs_core.specs.Event.{Body}
use Rattle.ifs_core.specs.Gateway.{Known}
use Rattle.ifs_gen.specs.Events.{yield_of}
use Rattle.ifs_gen.specs.Trees.{Part, Policy}
use Rattle.ifs_policy.specs.Meaning.{Block, is_held, reached}
use Rattle.ifs_solver.specs.declared.constraints.Aim.TheVariants.{To}
use Rattle.ifs_solver.specs.declared.searching.Extent.{Extent}
use Rattle.ifs_solver.specs.Asking.{hits, IsAnswered}
use Rattle.ifs_solver.specs.Places.{Here}
use Rattle.ifs_solver.specs.FactSets.{AreFactsOf, scope_of}
use Rattle.ifs_solver.specs.Situations.{IsKnownFor, HoldsAfterSteps, situation_after, leads_to}
use Rattle.ifs_claims.specs.Asked.{shares, untested}
use Rattle.ifs_claims.specs.Moves.{kept_facts}
use Rattle.ifs_claims.specs.Changes.{World, AgreesWith, AllKeepTo, changes, part_hits, may_be_silent, could_move, any_below, could_change, WouldChange}

-- The facts of a world.
abbrev pub facts_of : World → Facts
facts_of world = record { links = world.links; tests = map (λ value. Some value) world.results }

-- Under these facts a policy could go on so often from a state.
abbrev pub goes_far : Policy → Facts → ℕ → StateId → Bool
goes_far policy facts n state = could_change policy.always.body policy.states (length policy.states) facts n state

-- The same as a test of facts: from a state alone, where another one was left for it before, and where the always body wishes for it.
abbrev pub where_far : Policy → ℕ → StateId → Here
where_far policy most state facts = goes_far policy facts (suc most) state

abbrev pub where_led_far : Policy → ℕ → StateId → StateId → Here
where_led_far policy most state previous facts = could_move policy.always.body policy.states facts previous state.0 && goes_far policy facts (suc most) state

abbrev pub where_wished_far : Policy → ℕ → StateId → Here
where_wished_far policy most state facts = hits (To state) (reached facts policy.always.body).wish && goes_far policy facts (suc most) state

-- No facts let it.
abbrev pub GoesNever : Policy → ℕ → StateId → Type 0
GoesNever policy n state = (facts : Facts) → AreFactsOf (scope_of policy) facts → goes_far policy facts n state ≡ false

-- From where steps lead to this state, at most so many further steps change the state while they keep to a world.
abbrev pub IsQuietFor : Policy → ℕ → StateId → Type 0
IsQuietFor policy most state =
    (known : Known) → IsKnownFor policy known → (begun : List Step) (world : World) → (situation_after policy known begun).current ≡ state → AgreesWith policy world (situation_after policy known begun).facts
    → (steps : List Step) → AllKeepTo world steps → changes policy known begun steps ≤ most

-- The same where an evaluation is owed or not.
abbrev pub IsQuietWhere : Bool → Policy → ℕ → StateId → Type 0
IsQuietWhere owed policy most state =
    (known : Known) → IsKnownFor policy known → (begun : List Step) (world : World) → (situation_after policy known begun).owed ≡ owed → (situation_after policy known begun).current ≡ state
    → AgreesWith policy world (situation_after policy known begun).facts → (steps : List Step) → AllKeepTo world steps → changes policy known begun steps ≤ most

-- Where an evaluation leads from one state to another, in no world could it go on more often than this from there.
abbrev pub IsQuietEntry : Policy → ℕ → StateId → StateId → Type 0
IsQuietEntry policy most state previous =
    (known : Known) → IsKnownFor policy known → (steps : List Step) → (situation_after policy known steps).current ≡ previous → (facts : Facts) → AreFactsOf (scope_of policy) facts
    → leads_to policy facts previous ≡ Some state → (world : World) → AgreesWith policy world (kept_facts policy facts) → goes_far policy (facts_of world) (suc most) state ≡ false

-- The body of a state that steps lead to never wishes for another state.
abbrev pub IsNotLed : Policy → StateId → StateId → Type 0
IsNotLed policy state previous =
    (known : Known) → IsKnownFor policy known → (steps : List Step) → (situation_after policy known steps).current ≡ previous → (previous.0 ≡ state.0 → ⊥) → (facts : Facts) → AreFactsOf (scope_of policy) facts
    → part_hits facts state.0 (slice_get policy.states previous.0) ≡ false

-- The same while the always body is held back.
abbrev pub IsNotLedHeld : Policy → StateId → StateId → Type 0
IsNotLedHeld policy state previous =
    (known : Known) → IsKnownFor policy known → (steps : List Step) → (situation_after policy known steps).current ≡ previous → (previous.0 ≡ state.0 → ⊥) → (facts : Facts) → AreFactsOf (scope_of policy) facts
    → is_held facts policy.always.body ≡ true → (yield_of policy (Body previous.0) facts).wish ≡ Some state → ⊥

abbrev pub AreNotLed : Policy → StateId → ℕ → Type 0
AreNotLed policy state count = (previous : StateId) → previous.0 < count → IsNotLedHeld policy state previous

-- The body of a state that the policy has asks for no external test but those of the always body.
pub record SharesTests (policy : Policy) (state : StateId) : Type 0 where
  pub part : Part
  pub there : slice_get policy.states state.0 ≡ Some part
  pub shared : shares policy.always.body part.body ≡ true

-- The body of a state that the policy has asks for each external test of the always body.
pub record CoversTests (policy : Policy) (state : StateId) : Type 0 where
  pub part : Part
  pub there : slice_get policy.states state.0 ≡ Some part
  pub covers : shares part.body policy.always.body ≡ true

-- In a state the always body is never held back.
abbrev pub IsNeverHeld : Policy → StateId → Type 0
IsNeverHeld policy state = HoldsAfterSteps policy (λ s. s.current ≡ state → is_held s.facts policy.always.body ≡ false)

-- The body of a state may be held back where nothing is owed: it has a test, if the always body may be held back too, or else one of its own.
abbrev pub may_wait : Bool → Block → Block → Bool
may_wait true always body = not (untested body)
may_wait false always body = not (shares always body)

abbrev pub may_wait_in : Bool → Block → Option Part → Bool
may_wait_in held always None = false
may_wait_in held always (Some part) = may_wait held always part.body

-- The body of a state wishes for another state, and so may the always body, each if it is given leave to.
abbrev pub could_leave : Bool → Bool → Block → List Part → Facts → StateId → ℕ → Bool
could_leave own held always states facts state next =
    not (next == state.0)
    && ((own && part_hits facts next (slice_get states state.0)) || (held && (may_be_silent always facts (slice_get states state.0) && hits (To (record { 0 = next })) (reached facts always).wish)))

-- It does, and so many changes could follow, among the first states.
abbrev pub could_start : Bool → Bool → Block → List Part → ℕ → Facts → ℕ → StateId → ℕ → Bool
could_start own held always states count facts n state others =
    any_below (λ next. could_leave own held always states facts state next && could_change always states count facts n (record { 0 = next })) others

-- No facts let a policy start so.
abbrev pub StartsNever : Policy → Bool → Bool → ℕ → StateId → Type 0
StartsNever policy own held n state =
    (facts : Facts) → AreFactsOf (scope_of policy) facts → could_start own held policy.always.body policy.states (length policy.states) facts n state (length policy.states) ≡ false

-- The answers to how often a state is left, of one state and of the first ones.
abbrev pub IsStateQuietFor : Policy → ℕ → StateId → Extent → Type 0
IsStateQuietFor policy most state = IsAnswered (IsQuietFor policy most state) (WouldChange policy most)

abbrev pub AreQuietFor : Policy → ℕ → ℕ → Extent → Type 0
AreQuietFor policy most count = IsAnswered ((state : StateId) → state.0 < count → IsQuietFor policy most state) (WouldChange policy most)

-- Where nothing is owed.
abbrev pub IsQuietAtRest : Policy → ℕ → StateId → Extent → Type 0
IsQuietAtRest policy most state = IsAnswered (IsQuietWhere false policy most state) (WouldChange policy most)

-- Where it was just entered, from one state and from the first ones.
abbrev pub IsEntryQuiet : Policy → ℕ → StateId → StateId → Extent → Type 0
IsEntryQuiet policy most state previous = IsAnswered (IsQuietEntry policy most state previous) (WouldChange policy most)

abbrev pub AreEntriesQuiet : Policy → ℕ → StateId → ℕ → Extent → Type 0
AreEntriesQuiet policy most state count = IsAnswered ((previous : StateId) → previous.0 < count → IsQuietEntry policy most state previous) (WouldChange policy most)
