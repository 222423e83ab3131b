-- The forms that speak of steps.
use Rattle.std.proofs.Common.{◌++◌, ◌∷◌, [], sym, subst}
use Rattle.std.specs.Bool.{OnTrue}
use Rattle.ifs_claim_parse.specs.declared.claim.Claim.{Claim}
use Rattle.ifs_claims.specs.Moves.{queued_by}
use Rattle.ifs_solver.specs.Situations.{situation_after}
use Rattle.ifs_prove.specs.Breaking.{IsBrokenAcross}
use Rattle.ifs_prove.proofs.replaying.breaks_by.Goals as goal

pub returns-in-NeverFrom : goal.returns-in-NeverFrom
returns-in-NeverFrom c = λ policy known begun h.
    subst (λ (claim : Claim). OnTrue c.moves.result (IsBrokenAcross claim c.args.step (situation_after policy known begun) (situation_after policy known (begun ++ c.args.step ∷ [])) (queued_by policy known begun c.args.step)))
    (sym c.in-NeverFrom.is) (rw c.as_slice-in-NeverFrom.ensures.value at rw c.as_slice.ensures.value at c.moves.ensures policy known begun h)

pub returns-in-NeverEntersWhile : goal.returns-in-NeverEntersWhile
returns-in-NeverEntersWhile c = λ policy known begun h.
    subst (λ (claim : Claim). OnTrue c.enters.result (IsBrokenAcross claim c.args.step (situation_after policy known begun) (situation_after policy known (begun ++ c.args.step ∷ [])) (queued_by policy known begun c.args.step)))
    (sym c.in-NeverEntersWhile.is) (rw c.as_slice-in-NeverEntersWhile.ensures.value at c.enters.ensures policy known begun h)

pub returns-in-NeverRuns : goal.returns-in-NeverRuns
returns-in-NeverRuns c = λ policy known begun h.
    subst (λ (claim : Claim). OnTrue c.runs.result (IsBrokenAcross claim c.args.step (situation_after policy known begun) (situation_after policy known (begun ++ c.args.step ∷ [])) (queued_by policy known begun c.args.step)))
    (sym c.in-NeverRuns.is) (rw c.as_slice-in-NeverRuns.ensures.value at c.runs.ensures policy known begun h)
