-- The guard is that of the premise.
use Rattle.std.proofs.Common.{IfOk, subst, sym}
use Rattle.ifs_claims.specs.Told.{IsToldOfEntryWhile, IsToldOfMoments, IsToldOfSettling}
use Rattle.ifs_solver.specs.Asking.{Guard}
use Rattle.ifs_prove.specs.declared.judging.Denied.{Denied}
use Rattle.ifs_prove.specs.inner.Judging.{IsToldOf}
use Rattle.ifs_prove.proofs.judging.never.Goals as goal

pub returns-in-Settling-clause-told : goal.returns-in-Settling-clause-told
returns-in-Settling-clause-told c =
    subst (λ (denied : Denied). IfOk c.never_settles.result (IsToldOf c.args.entered.now denied c.args.state)) (sym c.in-Settling.is)
    (subst (λ (guard : Guard). IfOk c.never_settles.result (IsToldOfSettling c.args.entered.now c.args.state guard)) c.guard_of.ensures c.never_settles.ensures.told)

pub returns-in-Moment-clause-told : goal.returns-in-Moment-clause-told
returns-in-Moment-clause-told c =
    subst (λ (denied : Denied). IfOk c.never_in.result (IsToldOf c.args.entered.now denied c.args.state)) (sym c.in-Moment.is)
    (subst (λ (guard : Guard). IfOk c.never_in.result (IsToldOfMoments c.args.entered.now c.args.state guard)) c.guard_of-in-Moment.ensures c.never_in.ensures.told)

pub returns-in-EntryWhile-clause-told : goal.returns-in-EntryWhile-clause-told
returns-in-EntryWhile-clause-told c =
    subst (λ (denied : Denied). IfOk c.never_enters_while.result (IsToldOf c.args.entered.now denied c.args.state)) (sym c.in-EntryWhile.is)
    (subst (λ (guard : Guard). IfOk c.never_enters_while.result (IsToldOfEntryWhile c.args.entered.now c.args.state guard)) c.guard_of-in-EntryWhile.ensures c.never_enters_while.ensures.told)
