-- The answers to the claims of a file.
use Rattle.std.specs.Prelude.{◌≡◌, List, Option, Some, None}
use Rattle.std.specs.List.{AllZip}
use Rattle.ifs_claim_parse.specs.declared.claim.Claim.{Claim}
use Rattle.ifs_claim_parse.specs.declared.claim.Claim.TheVariants as claims
use Rattle.ifs_claim_parse.specs.declared.stated.Stated.{Stated}
use Rattle.ifs_core.specs.declared.step.Step.{Step}
use Rattle.ifs_core.specs.Gateway.{Known, nothing_known}
use Rattle.ifs_gen.specs.PolicyImage.{image_of}
use Rattle.ifs_gen.specs.Trees.{Policy}
use Rattle.ifs_solver.specs.Situations.{IsKnownFor}
use Rattle.ifs_prove.specs.declared.trial.Ending.{Ending}
use Rattle.ifs_prove.specs.declared.verdicts.Verdict.{Verdict}
use Rattle.ifs_prove.specs.declared.verdicts.Obstacle.{Obstacle}
use Rattle.ifs_prove.specs.declared.verdicts.Obstacle.TheVariants.{Budget, NoSteps}
use Rattle.ifs_prove.specs.declared.verdicts.Verdict.TheVariants.{Holds, Broken, Undecided, Meant}
use Rattle.ifs_prove.specs.Claiming.{ClaimHolds, WouldBreak}
use Rattle.ifs_prove.specs.Breaking.{IsBrokenBy}

-- What is known at an opening is nothing, unless it is named.
abbrev pub IsOpening : {Words : Type 0} → Policy → Option Words → Known → Type 0
IsOpening policy None known = known ≡ nothing_known (image_of policy)
IsOpening policy (Some words) known = Unit {0}

-- Steps from an opening on break a claim.
pub record IsBroken {Words : Type 0} (policy : Policy) (named : Option Words) (claim : Claim) : Type 0 where
  pub known : Known
  pub fits : IsKnownFor policy known
  pub opening : IsOpening policy named known
  pub begun : List Step
  pub ending : Ending
  pub broken : IsBrokenBy policy known begun ending claim

-- A claim says what is meant, and claims nothing.
abbrev pub IsMeant : Claim → Type 0
IsMeant (claims.MayFlap states) = Unit {0}
IsMeant _ = ⊥

-- Why a claim is not decided: some facts of an evaluation would break it, or the budget is used up.
abbrev pub IsOpenFor : Policy → Claim → Obstacle → Type 0
IsOpenFor policy claim Budget = Unit {0}
IsOpenFor policy claim NoSteps = WouldBreak policy claim

-- An answer to a claim is right: it holds, or steps break it, or it is not decided, or it claims nothing.
abbrev pub IsVerdictOf : Policy → Claim → Verdict → Type 0
IsVerdictOf policy claim Holds = ClaimHolds policy claim
IsVerdictOf policy claim (Broken broken) = IsBroken policy broken.known claim
IsVerdictOf policy claim (Undecided obstacle) = IsOpenFor policy claim obstacle
IsVerdictOf policy claim Meant = IsMeant claim

-- Each claim has its answer, in order.
abbrev pub AreVerdicts : Policy → List Stated → List Verdict → Type 0
AreVerdicts policy = AllZip (λ stated verdict. IsVerdictOf policy stated.claim verdict)
