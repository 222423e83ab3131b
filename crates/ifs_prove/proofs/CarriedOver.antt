-- Claims of a policy hold of the cores on its image.
use Rattle.std.proofs.Common.{◌≢◌, ℕ, List}
use Rattle.std.specs.Prelude.{All}
use Rattle.std.proofs.lemmas.List.Elements.{All-weaker}
use Rattle.ifs_claim_parse.specs.declared.claim.Claim.{Claim}
use Rattle.ifs_claim_parse.specs.declared.claim.Claim.TheVariants as claims
use Rattle.ifs_claims.specs.Changes.{RestsWithin, CoreRestsWithin, ChangesCarryOver}
use Rattle.ifs_claims.specs.Claims.{NeverSettles, NeverIn, NeverFrom, NeverEntersWhile, NeverRuns, IsUnsettled, IsFalseIn, CoreNeverEntersWhile, CoreNeverRuns, CarryOver, ClaimsCarryOver, situation_of_core}
use Rattle.ifs_core.specs.declared.step.Step.{Step}
use Rattle.ifs_core.specs.Event.{Behaviour}
use Rattle.ifs_core.specs.Gateway.{Known}
use Rattle.ifs_gen.specs.Trees.{Policy}
use Rattle.ifs_solver.specs.Situations.{IsNeverEntered}
use Rattle.ifs_prove.specs.Claiming.{guard_in, ClaimHolds, CoreNeverFrom, HoldsOfCore, ClaimsHoldOfCores}

module _ (policy : Policy) (b : Behaviour) (known : Known) (carry : CarryOver policy b known) (changes : (most : ℕ) → RestsWithin policy most → CoreRestsWithin policy b known most) where
  holds_of_core : (claim : Claim) → ClaimHolds policy claim → HoldsOfCore policy b known claim
  holds_of_core (claims.NeverRests states premise) h =
      All-weaker (λ state. NeverSettles policy state (guard_in premise)) (λ state. (steps : List Step) → IsUnsettled policy state (guard_in premise) (situation_of_core policy b known steps))
      (λ state each. carry.never_settles state (guard_in premise) each) states.items h
  holds_of_core (claims.RestsIn states premise) h = carry.rests_in states.items (guard_in premise) h
  holds_of_core (claims.NeverFrom from to) h =
      All-weaker (λ state. All (λ next. NeverFrom policy state next) to.items) (λ state. All (λ next. CoreNeverFrom policy b known state next) to.items)
      (λ state some. All-weaker (λ next. NeverFrom policy state next) (λ next. CoreNeverFrom policy b known state next) (λ next each. carry.never_from state next each) to.items some) from.items h
  holds_of_core (claims.NeverEnters states) h =
      All-weaker (IsNeverEntered policy) (λ state. (steps : List Step) → (situation_of_core policy b known steps).current ≢ state) (λ state each. carry.never_enters state each) states.items h
  holds_of_core (claims.NeverEntersWhile states premise) h =
      All-weaker (λ state. NeverEntersWhile policy state (guard_in premise)) (λ state. CoreNeverEntersWhile policy b known state (guard_in premise))
      (λ state each. carry.never_enters_while state (guard_in premise) each) states.items h
  holds_of_core (claims.NeverRuns commands premise) h =
      All-weaker (λ command. NeverRuns policy command (guard_in premise)) (λ command. CoreNeverRuns policy b known command (guard_in premise))
      (λ command each. carry.never_runs command (guard_in premise) each) commands.items h
  holds_of_core (claims.RestsWithin most) h = changes most h
  holds_of_core (claims.NeverIn states premise) h =
      All-weaker (λ state. NeverIn policy state (guard_in premise)) (λ state. (steps : List Step) → IsFalseIn state (guard_in premise) (situation_of_core policy b known steps))
      (λ state each. carry.never_in state (guard_in premise) each) states.items h
  holds_of_core (claims.MayFlap states) h = tt

pub claims_hold_of_cores : ClaimsCarryOver → ChangesCarryOver → ClaimsHoldOfCores
claims_hold_of_cores carry changes policy fits code b is known known_is claim h =
    holds_of_core policy b known (carry policy fits code b is known known_is) (λ most each. changes policy fits code b is known known_is most each) claim h
