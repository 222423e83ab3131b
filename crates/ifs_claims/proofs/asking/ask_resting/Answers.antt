-- The three lists together.
use Rattle.ifs_solver.specs.FactSets.{Within, fact_set_of}
use Rattle.ifs_claims.proofs.Staying.{resting_asked}
use Rattle.ifs_claims.proofs.asking.ask_resting.Goals as goal

pub returns : goal.returns
returns c =
    resting_asked (Within (fact_set_of c.args.bodies.set.now)) c.args.bodies.always c.args.bodies.own c.args.state c.args.guard c.in_ok-by_own.by_own c.in_ok-by_either.by_either c.in_ok-by_all.by_all c.in_ok-by_own.ensures
    c.in_ok-by_either.ensures c.in_ok-by_all.ensures
