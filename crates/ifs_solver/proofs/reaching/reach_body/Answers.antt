-- A body is held back, or it is not, or that is open.
use Rattle.std.proofs.Common.{sym, ◌∙◌}
use Rattle.ifs_solver.specs.FactSets.{fact_set_of}
use Rattle.ifs_solver.specs.Reaching.{effects_of}
use Rattle.ifs_solver.proofs.Effecting.{held_reached, free_reached, open_body}
use Rattle.ifs_solver.proofs.reaching.reach_body.Goals as goal

pub returns-in-Known-true : goal.returns-in-Known-true
returns-in-Known-true c = held_reached (fact_set_of c.args.set.now) c.args.body.now (effects_of c.args.reached.now) cc

pub returns-in_ok-pending-in-Known-false : goal.returns-in_ok-pending-in-Known-false
returns-in_ok-pending-in-Known-false c =
    free_reached (fact_set_of c.args.set.now) c.args.body.now (effects_of c.args.reached.now) (effects_of c.reach.new.reached) c.in_ok-pending-in-Known-false.pending (cc) c.in_ok-pending-in-Known-false.ensures

pub returns-in-Open : goal.returns-in-Open
returns-in-Open c = open_body (fact_set_of c.args.set.now) c.args.body.now c.in-Open.branch (sym c.judge_held.ensures ∙ c.in-Open.is)
