-- The forms that name several states or commands.
use Rattle.std.proofs.Common.{◌≡◌, IfOk, inr, sym, subst}
use Rattle.ifs_claim_parse.specs.declared.claim.Claim.{Claim}
use Rattle.ifs_claim_parse.specs.declared.claim.Claim.TheVariants.{NeverEnters}
use Rattle.ifs_solver.specs.Budgets.{IsUsedUp}
use Rattle.ifs_prove.specs.Claiming.{IsAmiss, IsToldOfClaim, IsUnanswered}
use Rattle.ifs_prove.proofs.Judged.{in_any_case, one_or_other, only_used}
use Rattle.ifs_solver.specs.declared.searching.Extent.TheVariants.{Undecided}
use Rattle.ifs_prove.proofs.judging.judge.Goals as goal

pub returns-in-NeverRests-clause-told : goal.returns-in-NeverRests-clause-told
returns-in-NeverRests-clause-told c = subst (λ (claim : Claim). IfOk c.never_any.result (IsToldOfClaim c.args.entered.now claim)) (sym c.in-NeverRests.is) (rw c.as_slice.ensures.value at c.never_any.ensures.told)

pub returns-in-NeverRests-clause-undecided : goal.returns-in-NeverRests-clause-undecided
returns-in-NeverRests-clause-undecided c =
    subst (λ (claim : Claim). IfOk c.never_any.result (λ told. told ≡ Undecided → IsUnanswered c.args.entered.now claim c.args.budget.now c.never_any.new.budget)) (sym c.in-NeverRests.is) (rw c.as_slice.ensures.value at c.never_any.ensures.undecided)

pub returns-in-RestsIn-clause-told : goal.returns-in-RestsIn-clause-told
returns-in-RestsIn-clause-told c = subst (λ (claim : Claim). IfOk c.rests_while.result (IsToldOfClaim c.args.entered.now claim)) (sym c.in-RestsIn.is) (rw c.as_slice-in-RestsIn.ensures.value at c.rests_while.ensures.told)

pub returns-in-RestsIn-clause-undecided : goal.returns-in-RestsIn-clause-undecided
returns-in-RestsIn-clause-undecided c = one_or_other (IsUsedUp c.args.budget.now c.rests_while.new.budget) (IsAmiss c.args.entered.now c.args.claim.now) c.rests_while.result c.rests_while.ensures.undecided

pub returns-in-NeverFrom-clause-told : goal.returns-in-NeverFrom-clause-told
returns-in-NeverFrom-clause-told c = subst (λ (claim : Claim). IfOk c.never_moves.result (IsToldOfClaim c.args.entered.now claim)) (sym c.in-NeverFrom.is) (rw c.as_slice-in-NeverFrom-2.ensures.value at rw c.as_slice-in-NeverFrom.ensures.value at c.never_moves.ensures.told)

pub returns-in-NeverFrom-clause-undecided : goal.returns-in-NeverFrom-clause-undecided
returns-in-NeverFrom-clause-undecided c =
    subst (λ (claim : Claim). IfOk c.never_moves.result (λ told. told ≡ Undecided → IsUnanswered c.args.entered.now claim c.args.budget.now c.never_moves.new.budget)) (sym c.in-NeverFrom.is) (rw c.as_slice-in-NeverFrom-2.ensures.value at rw c.as_slice-in-NeverFrom.ensures.value at c.never_moves.ensures.undecided)

pub returns-in-NeverEnters-clause-told : goal.returns-in-NeverEnters-clause-told
returns-in-NeverEnters-clause-told c = subst (λ (claim : Claim). IfOk c.never_any-in-NeverEnters.result (IsToldOfClaim c.args.entered.now claim)) (sym c.in-NeverEnters.is) (rw c.as_slice-in-NeverEnters.ensures.value at c.never_any-in-NeverEnters.ensures.told)

pub returns-in-NeverEnters-clause-undecided : goal.returns-in-NeverEnters-clause-undecided
returns-in-NeverEnters-clause-undecided c =
    subst (λ (claim : Claim). IfOk c.never_any-in-NeverEnters.result (λ told. told ≡ Undecided → IsUnanswered c.args.entered.now claim c.args.budget.now c.never_any-in-NeverEnters.new.budget)) (sym c.in-NeverEnters.is) (in_any_case c.never_any-in-NeverEnters.result (λ told. told ≡ Undecided → IsUnanswered c.args.entered.now (NeverEnters c.in-NeverEnters.states) c.args.budget.now c.never_any-in-NeverEnters.new.budget) (λ told e. inr tt))

pub returns-in-NeverEntersWhile-clause-told : goal.returns-in-NeverEntersWhile-clause-told
returns-in-NeverEntersWhile-clause-told c = subst (λ (claim : Claim). IfOk c.never_any-in-NeverEntersWhile.result (IsToldOfClaim c.args.entered.now claim)) (sym c.in-NeverEntersWhile.is) (rw c.as_slice-in-NeverEntersWhile.ensures.value at c.never_any-in-NeverEntersWhile.ensures.told)

pub returns-in-NeverEntersWhile-clause-undecided : goal.returns-in-NeverEntersWhile-clause-undecided
returns-in-NeverEntersWhile-clause-undecided c =
    only_used (IsUsedUp c.args.budget.now c.never_any-in-NeverEntersWhile.new.budget) (IsAmiss c.args.entered.now c.args.claim.now) c.in-NeverEntersWhile.states.items c.never_any-in-NeverEntersWhile.result
    (rw c.as_slice-in-NeverEntersWhile.ensures.value at c.never_any-in-NeverEntersWhile.ensures.undecided)

pub returns-in-NeverRuns-clause-told : goal.returns-in-NeverRuns-clause-told
returns-in-NeverRuns-clause-told c = subst (λ (claim : Claim). IfOk c.never_runs_any.result (IsToldOfClaim c.args.entered.now claim)) (sym c.in-NeverRuns.is) (rw c.as_slice-in-NeverRuns.ensures.value at c.never_runs_any.ensures.told)

pub returns-in-NeverRuns-clause-undecided : goal.returns-in-NeverRuns-clause-undecided
returns-in-NeverRuns-clause-undecided c = one_or_other (IsUsedUp c.args.budget.now c.never_runs_any.new.budget) (IsAmiss c.args.entered.now c.args.claim.now) c.never_runs_any.result c.never_runs_any.ensures.undecided

pub returns-in-NeverIn-clause-told : goal.returns-in-NeverIn-clause-told
returns-in-NeverIn-clause-told c = subst (λ (claim : Claim). IfOk c.never_any-in-NeverIn.result (IsToldOfClaim c.args.entered.now claim)) (sym c.in-NeverIn.is) (rw c.as_slice-in-NeverIn.ensures.value at c.never_any-in-NeverIn.ensures.told)

pub returns-in-NeverIn-clause-undecided : goal.returns-in-NeverIn-clause-undecided
returns-in-NeverIn-clause-undecided c =
    subst (λ (claim : Claim). IfOk c.never_any-in-NeverIn.result (λ told. told ≡ Undecided → IsUnanswered c.args.entered.now claim c.args.budget.now c.never_any-in-NeverIn.new.budget)) (sym c.in-NeverIn.is) (rw c.as_slice-in-NeverIn.ensures.value at c.never_any-in-NeverIn.ensures.undecided)

pub returns-in-RestsWithin-clause-undecided : goal.returns-in-RestsWithin-clause-undecided
returns-in-RestsWithin-clause-undecided c =
    one_or_other (IsUsedUp c.args.budget.now c.rests_within.new.budget) (IsAmiss c.args.entered.now c.args.claim.now) c.rests_within.result c.rests_within.ensures.undecided
