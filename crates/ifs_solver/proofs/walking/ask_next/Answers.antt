-- One more body.
use Rattle.std.proofs.Common.{sym, subst}
use Rattle.ifs_solver.specs.Places.{where_wishing}
use Rattle.ifs_solver.specs.inner.Paying.{IsPaidToo}
use Rattle.ifs_solver.specs.inner.Walking.{GoesOn}
use Rattle.ifs_solver.proofs.Lasting.{goes_on}
use Rattle.ifs_solver.proofs.Paying.{paid_too}
use Rattle.ifs_solver.proofs.walking.ask_next.Goals as goal

pub returns-clause-next : goal.returns-clause-next
returns-clause-next c =
    subst (GoesOn c.args.scope c.args.constraints.now.items (where_wishing c.args.part.now.body) c.args.extent) (sym c.either.ensures)
    (goes_on c.args.scope c.args.constraints.now.items _ c.args.extent c.in_ok-next.next (cc) c.in_ok-next.ensures.extent)

pub returns-clause-paid : goal.returns-clause-paid
returns-clause-paid c =
    subst (IsPaidToo c.args.budget.now c.ask_with.new.budget c.args.extent) (sym c.either.ensures)
    (paid_too c.args.budget.now c.ask_with.new.budget c.args.extent c.in_ok-next.next c.in_ok-next.ensures.paid)
