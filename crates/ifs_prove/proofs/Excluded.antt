-- A claim that holds is not broken by steps.
use Rattle.std.proofs.Common.{ℕ, ◌≤◌, ◌<◌, Bool, List, [], ◌∷◌, ◌++◌, refl, sym, ◌∙◌, arith}
use Rattle.std.specs.Prelude.{All}
use Rattle.std.proofs.lemmas.Bool.{true≢false}
use Rattle.std.proofs.lemmas.List.Elements.{All-contains}
use Rattle.ifs_claim_parse.specs.declared.claim.Claim.{Claim}
use Rattle.ifs_claim_parse.specs.declared.claim.Claim.TheVariants as claims
use Rattle.ifs_claims.specs.Changes.{changes}
use Rattle.ifs_claims.specs.Claims.{NeverSettles, NeverIn, NeverFrom, NeverEntersWhile, NeverRuns}
use Rattle.ifs_claims.specs.Moves.{queued_by}
use Rattle.ifs_core.specs.declared.step.Step.{Step}
use Rattle.ifs_core.specs.Gateway.{Known}
use Rattle.ifs_gen.specs.Events.{policy_opened}
use Rattle.ifs_gen.specs.Trees.{Policy}
use Rattle.ifs_solver.specs.Situations.{situation_after, IsKnownFor, IsNeverEntered}
use Rattle.ifs_prove.specs.declared.trial.Ending.TheVariants.{There, By, Opening, Within}
use Rattle.ifs_prove.specs.Claiming.{guard_in, ClaimHolds}
use Rattle.ifs_prove.specs.Breaking.{IsBrokenIn, IsBrokenAcross, IsBrokenAtOnce, IsBrokenWithin, NoneIsBoth}

module _ (policy : Policy) (known : Known) (fits : IsKnownFor policy known) (begun : List Step) where
  not_there : (claim : Claim) → ClaimHolds policy claim → ¬ IsBrokenIn policy claim (situation_after policy known begun)
  not_there (claims.NeverRests states premise) h b =
      true≢false (sym b.2 ∙ All-contains (λ state. NeverSettles policy state (guard_in premise)) states.items (situation_after policy known begun).current h b.1 known fits begun b.0 refl)
  not_there (claims.RestsIn states premise) h b = b.1 (h known fits begun b.0 b.2)
  not_there (claims.NeverFrom from to) h b = b
  not_there (claims.NeverEnters states) h b = All-contains (IsNeverEntered policy) states.items (situation_after policy known begun).current h b known fits begun refl
  not_there (claims.NeverEntersWhile states premise) h b = b
  not_there (claims.NeverRuns commands premise) h b = b
  not_there (claims.RestsWithin most) h b = b
  not_there (claims.NeverIn states premise) h b =
      true≢false (sym b.1 ∙ All-contains (λ state. NeverIn policy state (guard_in premise)) states.items (situation_after policy known begun).current h b.0 known fits begun refl)
  not_there (claims.MayFlap states) h b = b

  not_across : (step : Step) (claim : Claim) → ClaimHolds policy claim
      → ¬ IsBrokenAcross claim step (situation_after policy known begun) (situation_after policy known (begun ++ step ∷ [])) (queued_by policy known begun step)
  not_across step (claims.NeverRests states premise) h b = b
  not_across step (claims.RestsIn states premise) h b = b
  not_across step (claims.NeverFrom from to) h b =
      let before = (situation_after policy known begun).current in
      let after = (situation_after policy known (begun ++ step ∷ [])).current in
      let all = All-contains (λ state. All (λ next. NeverFrom policy state next) to.items) from.items before h b.0 in
      All-contains (λ next. NeverFrom policy before next) to.items after all b.1 known fits begun step refl refl
  not_across step (claims.NeverEnters states) h b = b
  not_across step (claims.NeverEntersWhile states premise) h b =
      true≢false (sym b.2 ∙ All-contains (λ state. NeverEntersWhile policy state (guard_in premise)) states.items (situation_after policy known (begun ++ step ∷ [])).current h b.1 known fits begun step b.0 refl)
  not_across step (claims.NeverRuns commands premise) h b =
      true≢false (sym b.1 ∙ (All-contains (λ command. NeverRuns policy command (guard_in premise)) commands.items b.0.0 h b.0.1).step known fits begun step b.0.2)
  not_across step (claims.RestsWithin most) h b = b
  not_across step (claims.NeverIn states premise) h b = b
  not_across step (claims.MayFlap states) h b = b

  not_at_once : (claim : Claim) → ClaimHolds policy claim → ¬ IsBrokenAtOnce claim (situation_after policy known []) (policy_opened policy known).queue
  not_at_once (claims.NeverRests states premise) h b = b
  not_at_once (claims.RestsIn states premise) h b = b
  not_at_once (claims.NeverFrom from to) h b = b
  not_at_once (claims.NeverEnters states) h b = b
  not_at_once (claims.NeverEntersWhile states premise) h b = b
  not_at_once (claims.NeverRuns commands premise) h b =
      true≢false (sym b.1 ∙ (All-contains (λ command. NeverRuns policy command (guard_in premise)) commands.items b.0.0 h b.0.1).opening known fits b.0.2)
  not_at_once (claims.RestsWithin most) h b = b
  not_at_once (claims.NeverIn states premise) h b = b
  not_at_once (claims.MayFlap states) h b = b

  too_many : (most count : ℕ) → most < count → count ≤ most → ⊥
  too_many most count lt le = omega (arith, lt, le)

  not_within : (steps : List Step) (results : List Bool) (claim : Claim) → ClaimHolds policy claim → ¬ IsBrokenWithin policy known begun steps results claim
  not_within steps results (claims.NeverRests states premise) h b = b.more
  not_within steps results (claims.RestsIn states premise) h b = b.more
  not_within steps results (claims.NeverFrom from to) h b = b.more
  not_within steps results (claims.NeverEnters states) h b = b.more
  not_within steps results (claims.NeverEntersWhile states premise) h b = b.more
  not_within steps results (claims.NeverRuns commands premise) h b = b.more
  not_within steps results (claims.RestsWithin most) h b = too_many most (changes policy known begun steps) b.more (h known fits begun _ b.agrees steps b.keeps)
  not_within steps results (claims.NeverIn states premise) h b = b.more
  not_within steps results (claims.MayFlap states) h b = b.more

pub none_is_both : NoneIsBoth
none_is_both policy claim h known fits begun There b = not_there policy known fits begun claim h b
none_is_both policy claim h known fits begun (By step) b = not_across policy known fits begun step claim h b
none_is_both policy claim h known fits begun Opening b = not_at_once policy known fits begun claim h b
none_is_both policy claim h known fits begun (Within steps results) b = not_within policy known fits begun steps.items results.items claim h b
