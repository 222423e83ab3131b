-- What the claims of a file say of a policy, and of each core that is opened on its image.
use Rattle.std.specs.Prelude.{◌≡◌, ◌≢◌, ◌⊎◌, List, [], ◌∷◌, ◌++◌, All, Contains}
use Rattle.ifs_base.specs.declared.ids.StateId.{StateId}
use Rattle.ifs_claim_parse.specs.declared.claim.Claim.{Claim}
use Rattle.ifs_claim_parse.specs.declared.claim.Premise.{Premise}
use Rattle.ifs_claim_parse.specs.declared.claim.Values.{Values}
use Rattle.ifs_claim_parse.specs.declared.claim.Values.TheVariants.{Any, Known as AllKnown, Unknown as OneUnknown}
use Rattle.ifs_claim_parse.specs.declared.claim.Claim.TheVariants as claims
use Rattle.ifs_claims.specs.Changes.{RestsWithin, CoreRestsWithin, WouldChange}
use Rattle.ifs_claims.specs.Claims.{NeverSettles, RestsIn, NeverFrom, NeverEntersWhile, NeverRuns, NeverIn, IsUnsettled, IsRestIn, IsFalseIn, CoreNeverEntersWhile, CoreNeverRuns, situation_of_core}
use Rattle.ifs_claims.specs.Moves.{Moves}
use Rattle.ifs_claims.specs.Told.{IsMissing, WouldSettle, WouldRestElsewhere, WouldBe, WouldEnter, WouldRun}
use Rattle.ifs_solver.specs.Budgets.{IsUsedUp}
use Rattle.ifs_core.specs.declared.step.Step.{Step}
use Rattle.ifs_core.specs.Event.{Behaviour}
use Rattle.ifs_core.specs.Machine.{IsBehaviour}
use Rattle.ifs_core.specs.Gateway.{Known, IsKnownOf}
use Rattle.ifs_gen.specs.Trees.{Policy}
use Rattle.ifs_gen.specs.PlainSizes.{CodeFits}
use Rattle.ifs_gen.specs.PolicyImage.{image_of}
use Rattle.ifs_solver.specs.Situations.{IsNeverEntered, IsLedTo}
use Rattle.ifs_policy.specs.Fits.{PolicyFits}
use Rattle.ifs_policy.specs.Meaning.{Condition}
use Rattle.ifs_solver.specs.declared.searching.Budget.{Budget}
use Rattle.ifs_solver.specs.declared.searching.Extent.{Extent}
use Rattle.ifs_solver.specs.Asking.{Guard, WhileTrue, WhileKnown, WhileUnknown, IsAnswered}

-- The premise of a claim, as a guard.
abbrev pub guard_by : Values → Condition → Guard
guard_by Any condition = WhileTrue condition
guard_by AllKnown condition = WhileKnown condition
guard_by OneUnknown condition = WhileUnknown condition

abbrev pub guard_in : Premise → Guard
guard_in premise = guard_by premise.values premise.condition

-- A claim holds of a policy, whatever is known at an opening and after any steps. A claim on several states or commands holds of each of them.
abbrev pub ClaimHolds : Policy → Claim → Type 0
ClaimHolds policy (claims.NeverRests states premise) = All (λ state. NeverSettles policy state (guard_in premise)) states.items
ClaimHolds policy (claims.RestsIn states premise) = RestsIn policy states.items (guard_in premise)
ClaimHolds policy (claims.NeverFrom from to) = All (λ state. All (λ next. NeverFrom policy state next) to.items) from.items
ClaimHolds policy (claims.NeverEnters states) = All (IsNeverEntered policy) states.items
ClaimHolds policy (claims.NeverEntersWhile states premise) = All (λ state. NeverEntersWhile policy state (guard_in premise)) states.items
ClaimHolds policy (claims.NeverRuns commands premise) = All (λ command. NeverRuns policy command (guard_in premise)) commands.items
ClaimHolds policy (claims.RestsWithin most) = RestsWithin policy most
ClaimHolds policy (claims.NeverIn states premise) = All (λ state. NeverIn policy state (guard_in premise)) states.items
ClaimHolds policy (claims.MayFlap states) = Unit {0}

-- One of some values is so.
abbrev pub IsOneOf : {X : Type 0} → List X → (X → Type 0) → Type 0
IsOneOf {X} values P = (value : X) × Contains values value × P value

-- Some facts of an evaluation would break a claim. Whether steps lead there is not said.
abbrev pub WouldBreak : Policy → Claim → Type 0
WouldBreak policy (claims.NeverRests states premise) = IsOneOf states.items (λ state. WouldSettle policy state (guard_in premise))
WouldBreak policy (claims.RestsIn states premise) = WouldRestElsewhere policy states.items (guard_in premise)
WouldBreak policy (claims.NeverFrom from to) = IsOneOf from.items (λ state. IsOneOf to.items (λ next. Moves policy state next))
WouldBreak policy (claims.NeverEnters states) = IsOneOf states.items (IsLedTo policy)
WouldBreak policy (claims.NeverEntersWhile states premise) = IsOneOf states.items (λ state. WouldEnter policy state (guard_in premise))
WouldBreak policy (claims.NeverRuns commands premise) = IsOneOf commands.items (λ command. WouldRun policy command (guard_in premise))
WouldBreak policy (claims.RestsWithin most) = WouldChange policy most
WouldBreak policy (claims.NeverIn states premise) = IsOneOf states.items (λ state. WouldBe policy state (guard_in premise))
WouldBreak policy (claims.MayFlap states) = ⊥

-- The policy has not a state that a claim names, or the claim names one state before and behind `to`. Of `never enter` it is not said, since its answer is that of the search for states that are entered.
abbrev pub IsAmiss : Policy → Claim → Type 0
IsAmiss policy (claims.NeverRests states premise) = IsOneOf states.items (IsMissing policy)
IsAmiss policy (claims.NeverFrom from to) = IsOneOf from.items (λ state. IsOneOf to.items (λ next. IsMissing policy state ⊎ (state.0 ≡ next.0)))
IsAmiss policy (claims.NeverEnters states) = Unit {0}
IsAmiss policy (claims.NeverIn states premise) = IsOneOf states.items (IsMissing policy)
IsAmiss policy _ = ⊥

-- A claim has no answer: as much of the budget is gone as a question may use up, or the claim is amiss.
abbrev pub IsUnanswered : Policy → Claim → Budget → Budget → Type 0
IsUnanswered policy claim before after = IsUsedUp before after ⊎ IsAmiss policy claim

-- What is reported of a claim is so: it holds, or these facts would break it.
abbrev pub IsToldOfClaim : Policy → Claim → Extent → Type 0
IsToldOfClaim policy claim = IsAnswered (ClaimHolds policy claim) (WouldBreak policy claim)

-- No step of a core leads from one state to another.
abbrev pub CoreNeverFrom : Policy → Behaviour → Known → StateId → StateId → Type 0
CoreNeverFrom policy b known state next =
    (steps : List Step) (step : Step) → (situation_of_core policy b known steps).current ≡ state → (situation_of_core policy b known (steps ++ step ∷ [])).current ≢ next

-- A claim holds of a core that was opened with this knowledge on the image of a policy.
abbrev pub HoldsOfCore : Policy → Behaviour → Known → Claim → Type 0
HoldsOfCore policy b known (claims.NeverRests states premise) = All (λ state. (steps : List Step) → IsUnsettled policy state (guard_in premise) (situation_of_core policy b known steps)) states.items
HoldsOfCore policy b known (claims.RestsIn states premise) = (steps : List Step) → IsRestIn policy states.items (guard_in premise) (situation_of_core policy b known steps)
HoldsOfCore policy b known (claims.NeverFrom from to) = All (λ state. All (λ next. CoreNeverFrom policy b known state next) to.items) from.items
HoldsOfCore policy b known (claims.NeverEnters states) = All (λ state. (steps : List Step) → (situation_of_core policy b known steps).current ≢ state) states.items
HoldsOfCore policy b known (claims.NeverEntersWhile states premise) = All (λ state. CoreNeverEntersWhile policy b known state (guard_in premise)) states.items
HoldsOfCore policy b known (claims.NeverRuns commands premise) = All (λ command. CoreNeverRuns policy b known command (guard_in premise)) commands.items
HoldsOfCore policy b known (claims.RestsWithin most) = CoreRestsWithin policy b known most
HoldsOfCore policy b known (claims.NeverIn states premise) = All (λ state. (steps : List Step) → IsFalseIn state (guard_in premise) (situation_of_core policy b known steps)) states.items
HoldsOfCore policy b known (claims.MayFlap states) = Unit {0}

-- A claim that holds of a policy holds of each core that is opened on its image.
abbrev pub ClaimsHoldOfCores : Type 0
ClaimsHoldOfCores =
    (policy : Policy) → PolicyFits policy → CodeFits policy → (b : Behaviour) → IsBehaviour (image_of policy) b → (known : Known) → IsKnownOf (image_of policy) known
    → (claim : Claim) → ClaimHolds policy claim → HoldsOfCore policy b known claim
