-- Steps that break a claim on a policy.
use Rattle.std.specs.Prelude.{ℕ, ◌≡◌, ◌≢◌, ◌<◌, Bool, true, List, [], ◌∷◌, ◌++◌, Contains}
use Rattle.ifs_base.specs.declared.ids.CommandId.{CommandId}
use Rattle.ifs_claim_parse.specs.declared.claim.Claim.{Claim}
use Rattle.ifs_claim_parse.specs.declared.claim.Claim.TheVariants as claims
use Rattle.ifs_claims.specs.Changes.{World, AgreesWith, AllKeepTo, changes}
use Rattle.ifs_claims.specs.Claims.{IsSettled, queues}
use Rattle.ifs_claims.specs.Moves.{seen, queued_by}
use Rattle.ifs_core.specs.declared.step.Step.{Step}
use Rattle.ifs_core.specs.Gateway.{Known}
use Rattle.ifs_gen.specs.Events.{policy_opened}
use Rattle.ifs_gen.specs.Trees.{Policy}
use Rattle.ifs_solver.specs.Situations.{Situation, situation_after, IsKnownFor}
use Rattle.ifs_solver.specs.Asking.{is_met}
use Rattle.ifs_prove.specs.declared.trial.Ending.{Ending}
use Rattle.ifs_prove.specs.declared.trial.Ending.TheVariants.{There, By, Opening, Within}
use Rattle.ifs_prove.specs.Claiming.{ClaimHolds, IsOneOf, guard_in}

-- A situation breaks a claim.
abbrev pub IsBrokenIn : Policy → Claim → Situation → Type 0
IsBrokenIn policy (claims.NeverRests states premise) s = IsSettled policy s × Contains states.items s.current × (is_met s.facts (guard_in premise) ≡ true)
IsBrokenIn policy (claims.RestsIn states premise) s = IsSettled policy s × (¬ Contains states.items s.current) × (is_met s.facts (guard_in premise) ≡ true)
IsBrokenIn policy (claims.NeverEnters states) s = Contains states.items s.current
IsBrokenIn policy (claims.NeverIn states premise) s = Contains states.items s.current × (is_met s.facts (guard_in premise) ≡ true)
IsBrokenIn policy (claims.NeverFrom from to) s = ⊥
IsBrokenIn policy (claims.NeverEntersWhile states premise) s = ⊥
IsBrokenIn policy (claims.NeverRuns commands premise) s = ⊥
IsBrokenIn policy (claims.RestsWithin most) s = ⊥
IsBrokenIn policy (claims.MayFlap states) s = ⊥

-- One of some commands is queued.
abbrev pub IsOneQueued : List CommandId → List CommandId → Type 0
IsOneQueued commands queued = IsOneOf commands (λ command. queues command queued ≡ true)

-- A step breaks a claim: by the situations before and after it, and by the commands that it queues.
abbrev pub IsBrokenAcross : Claim → Step → Situation → Situation → List CommandId → Type 0
IsBrokenAcross (claims.NeverFrom from to) step before after queued = Contains from.items before.current × Contains to.items after.current
IsBrokenAcross (claims.NeverEntersWhile states premise) step before after queued =
    (before.current ≢ after.current) × Contains states.items after.current × (is_met (seen step before.facts) (guard_in premise) ≡ true)
IsBrokenAcross (claims.NeverRuns commands premise) step before after queued = IsOneQueued commands.items queued × (is_met (seen step before.facts) (guard_in premise) ≡ true)
IsBrokenAcross (claims.NeverRests states premise) step before after queued = ⊥
IsBrokenAcross (claims.RestsIn states premise) step before after queued = ⊥
IsBrokenAcross (claims.NeverEnters states) step before after queued = ⊥
IsBrokenAcross (claims.RestsWithin most) step before after queued = ⊥
IsBrokenAcross (claims.NeverIn states premise) step before after queued = ⊥
IsBrokenAcross (claims.MayFlap states) step before after queued = ⊥

-- An opening breaks a claim: by its situation, and by the commands that it queues.
abbrev pub IsBrokenAtOnce : Claim → Situation → List CommandId → Type 0
IsBrokenAtOnce (claims.NeverRuns commands premise) s queued = IsOneQueued commands.items queued × (is_met s.facts (guard_in premise) ≡ true)
IsBrokenAtOnce (claims.NeverRests states premise) s queued = ⊥
IsBrokenAtOnce (claims.RestsIn states premise) s queued = ⊥
IsBrokenAtOnce (claims.NeverFrom from to) s queued = ⊥
IsBrokenAtOnce (claims.NeverEnters states) s queued = ⊥
IsBrokenAtOnce (claims.NeverEntersWhile states premise) s queued = ⊥
IsBrokenAtOnce (claims.RestsWithin most) s queued = ⊥
IsBrokenAtOnce (claims.NeverIn states premise) s queued = ⊥
IsBrokenAtOnce (claims.MayFlap states) s queued = ⊥

-- So many changes of the state break a claim.
abbrev pub IsBrokenByChanges : Claim → ℕ → Type 0
IsBrokenByChanges (claims.RestsWithin most) count = most < count
IsBrokenByChanges (claims.NeverRests states premise) count = ⊥
IsBrokenByChanges (claims.RestsIn states premise) count = ⊥
IsBrokenByChanges (claims.NeverFrom from to) count = ⊥
IsBrokenByChanges (claims.NeverEnters states) count = ⊥
IsBrokenByChanges (claims.NeverEntersWhile states premise) count = ⊥
IsBrokenByChanges (claims.NeverRuns commands premise) count = ⊥
IsBrokenByChanges (claims.NeverIn states premise) count = ⊥
IsBrokenByChanges (claims.MayFlap states) count = ⊥

-- The world with the links of a situation and these results.
abbrev pub world_in : Situation → List Bool → World
world_in s results = record { links = s.facts.links; results = results }

-- Steps change the state so often that a claim is broken, while they keep to the world in which they begin.
pub record IsBrokenWithin (policy : Policy) (known : Known) (begun steps : List Step) (results : List Bool) (claim : Claim) : Type 0 where
  pub agrees : AgreesWith policy (world_in (situation_after policy known begun) results) (situation_after policy known begun).facts
  pub keeps : AllKeepTo (world_in (situation_after policy known begun) results) steps
  pub more : IsBrokenByChanges claim (changes policy known begun steps)

-- Steps from an opening on break a claim: the situation after them does, or a further step, or the opening itself, or further steps in a world.
abbrev pub IsBrokenBy : Policy → Known → List Step → Ending → Claim → Type 0
IsBrokenBy policy known begun There claim = IsBrokenIn policy claim (situation_after policy known begun)
IsBrokenBy policy known begun (By step) claim =
    IsBrokenAcross claim step (situation_after policy known begun) (situation_after policy known (begun ++ step ∷ [])) (queued_by policy known begun step)
IsBrokenBy policy known begun Opening claim = IsBrokenAtOnce claim (situation_after policy known []) (policy_opened policy known).queue
IsBrokenBy policy known begun (Within steps results) claim = IsBrokenWithin policy known begun steps.items results.items claim

-- No claim holds and is broken by steps.
abbrev pub NoneIsBoth : Type 0
NoneIsBoth = (policy : Policy) (claim : Claim) → ClaimHolds policy claim → (known : Known) → IsKnownFor policy known → (begun : List Step) (ending : Ending) → ¬ IsBrokenBy policy known begun ending claim
