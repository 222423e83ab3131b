-- How often the state changes while no fact does.
use Rattle.std.specs.Prelude.{ℕ, ◌≡◌, ◌≤◌, zero, suc, ◌==◌, not, ◌&&◌, ◌||◌, Bool, true, false, List, [], ◌∷◌, ◌++◌, length, Option, Some, None, is_some, slice_get}
use Rattle.ifs_base.specs.Facts.{Facts}
use Rattle.ifs_base.specs.declared.ids.StateId.{StateId}
use Rattle.ifs_base.specs.declared.op.LinkState.{LinkState}
use Rattle.ifs_core.specs.declared.step.Step.{Step}
use Rattle.ifs_core.specs.declared.step.Step.TheVariants.{Link, Finished, Tick, Take}
use Rattle.ifs_core.specs.Event.{Behaviour}
use Rattle.ifs_core.specs.Machine.{IsBehaviour}
use Rattle.ifs_core.specs.Gateway.{Known, IsKnownOf}
use Rattle.ifs_gen.specs.PlainSizes.{CodeFits}
use Rattle.ifs_gen.specs.PolicyImage.{image_of}
use Rattle.ifs_policy.specs.Fits.{PolicyFits}
use Rattle.ifs_gen.specs.Trees.{Part, Policy}
use Rattle.ifs_policy.specs.Meaning.{Block, reached}
use Rattle.ifs_solver.specs.declared.constraints.Aim.TheVariants.{To}
use Rattle.ifs_solver.specs.Asking.{hits, IsAnswered}
use Rattle.ifs_solver.specs.FactSets.{AreFactsOf, scope_of}
use Rattle.ifs_solver.specs.Situations.{Situation, IsKnownFor, situation_after}
use Rattle.ifs_claims.specs.Asked.{shares}
use Rattle.ifs_claims.specs.Claims.{situation_of_core}
use Rattle.ifs_solver.specs.declared.searching.Extent.{Extent}
use Rattle.ifs_claims.specs.declared.known_changes.KnownChanges.{KnownChanges}

-- A world: a link state of each interface and a result of each test, which stay.
pub record World : Type 0 where
  pub links : List LinkState
  pub results : List Bool

-- Facts agree with a world: the links are its own, and so is each value that a test has.
pub record AgreesWith (policy : Policy) (world : World) (facts : Facts) : Type 0 where
  pub links : facts.links ≡ world.links
  pub many : length world.results ≡ length policy.tables.tests
  pub values : (test : ℕ) (value : Bool) → slice_get facts.tests test ≡ Some (Some value) → slice_get world.results test ≡ Some value

-- A step reports only what is so in a world.
abbrev pub KeepsTo : World → Step → Type 0
KeepsTo world (Link interface link) = slice_get world.links interface.0 ≡ Some link
KeepsTo world (Finished test run value) = slice_get world.results test.0 ≡ Some value
KeepsTo world (Tick now) = Unit {0}
KeepsTo world Take = Unit {0}

-- All of some steps do.
abbrev pub AllKeepTo : World → List Step → Type 0
AllKeepTo world [] = Unit {0}
AllKeepTo world (step ∷ steps) = KeepsTo world step × AllKeepTo world steps

-- One more, unless the state is the same.
abbrev pub counted : Bool → ℕ → ℕ
counted true n = n
counted false n = suc n

-- How many of some further steps change the state, by the situations after all of them.
abbrev pub changes_of : (List Step → Situation) → List Step → List Step → ℕ
changes_of situation begun [] = 0
changes_of situation begun (step ∷ steps) =
    counted ((situation (begun ++ step ∷ [])).current.0 == (situation begun).current.0) (changes_of situation (begun ++ step ∷ []) steps)

-- The same of a policy's run.
abbrev pub changes : Policy → Known → List Step → List Step → ℕ
changes policy known begun steps = changes_of (situation_after policy known) begun steps

-- From wherever steps lead to, at most so many further steps change the state while they keep to a world.
abbrev pub RestsWithin : Policy → ℕ → Type 0
RestsWithin policy most =
    (known : Known) → IsKnownFor policy known → (begun : List Step) (world : World) → AgreesWith policy world (situation_after policy known begun).facts
    → (steps : List Step) → AllKeepTo world steps → changes policy known begun steps ≤ most

-- The same of a core that is opened on the policy's image.
abbrev pub CoreRestsWithin : Policy → Behaviour → Known → ℕ → Type 0
CoreRestsWithin policy b known most =
    (begun : List Step) (world : World) → AgreesWith policy world (situation_of_core policy b known begun).facts
    → (steps : List Step) → AllKeepTo world steps → changes_of (situation_of_core policy b known) begun steps ≤ most

-- If it holds of a policy, it holds of each core that is opened on its image.
abbrev pub ChangesCarryOver : Type 0
ChangesCarryOver =
    (policy : Policy) → PolicyFits policy → CodeFits policy → (b : Behaviour) → IsBehaviour (image_of policy) b → (known : Known) → IsKnownOf (image_of policy) known
    → (most : ℕ) → RestsWithin policy most → CoreRestsWithin policy b known most

-- The last `set-state` that a state's body reaches is for this state.
abbrev pub part_hits : Facts → ℕ → Option Part → Bool
part_hits facts next None = false
part_hits facts next (Some part) = hits (To (record { 0 = next })) (reached facts part.body).wish

-- While the always body is not held back, the body of a state wishes for no state, or it has a test of its own and may be held back.
abbrev pub may_be_silent : Block → Facts → Option Part → Bool
may_be_silent always facts None = true
may_be_silent always facts (Some part) = not (shares always part.body) || not (is_some (reached facts part.body).wish)

-- The body of a state wishes for another state, or the always body does while that of the state may be silent.
abbrev pub could_move : Block → List Part → Facts → StateId → ℕ → Bool
could_move always states facts state next =
    not (next == state.0) && (part_hits facts next (slice_get states state.0) || (may_be_silent always facts (slice_get states state.0) && hits (To (record { 0 = next })) (reached facts always).wish))

-- A test of a number below another one passes.
abbrev pub any_below : (ℕ → Bool) → ℕ → Bool
any_below test zero = false
any_below test (suc n) = any_below test n || test n

-- Under the same facts it could go on so often, among the first states.
abbrev pub could_change : Block → List Part → ℕ → Facts → ℕ → StateId → Bool
could_change always states count facts zero state = true
could_change always states count facts (suc n) state =
    any_below (λ next. could_move always states facts state next && could_change always states count facts n (record { 0 = next })) count

-- Facts under which a state of the policy could be followed by more changes.
pub record WouldChange (policy : Policy) (most : ℕ) : Type 0 where
  pub state : StateId
  pub facts : Facts
  pub are : AreFactsOf (scope_of policy) facts
  pub could : could_change policy.always.body policy.states (length policy.states) facts (suc most) state ≡ true

-- What is reported of how often the state changes.
abbrev pub IsToldOfChanges : Policy → ℕ → Extent → Type 0
IsToldOfChanges policy most = IsAnswered (RestsWithin policy most) (WouldChange policy most)

-- What is known of how often the state changes is so: never more often than one number, and more often than another one under some facts.
pub record AreKnown (policy : Policy) (known : KnownChanges) : Type 0 where
  pub never_more : (most : ℕ) → known.never_more ≡ Some most → RestsWithin policy most
  pub more : (most : ℕ) → known.more ≡ Some most → WouldChange policy most
