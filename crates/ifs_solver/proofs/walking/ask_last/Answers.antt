-- Nothing follows.
use Rattle.std.proofs.Common.{sym, ap, subst}
use Rattle.ifs_solver.specs.Asking.{meets_all, IsExtentOf}
use Rattle.ifs_solver.specs.inner.Walking.{IsLastOf, others_of}
use Rattle.ifs_solver.proofs.Lasting.{last_alone}
use Rattle.ifs_solver.proofs.walking.ask_last.Goals as goal

pub returns-in_ok-extent-in-None-clause-last : goal.returns-in_ok-extent-in-None-clause-last
returns-in_ok-extent-in-None-clause-last c =
    subst (λ others. IsLastOf c.args.scope c.args.constraints.now.items others c.in_ok-extent-in-None.extent) (sym (ap others_of c.in-None.is))
    (last_alone c.args.scope c.args.constraints.now.items c.in_ok-extent-in-None.extent
    (subst (λ xs. IsExtentOf c.args.scope (meets_all xs) c.in_ok-extent-in-None.extent) c.as_slice.ensures.value c.in_ok-extent-in-None.ensures.extent))
