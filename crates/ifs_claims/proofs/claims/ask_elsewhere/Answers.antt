-- One state.
use Rattle.ifs_claims.proofs.Elsewhere.{among_holds, elsewhere_said}
use Rattle.ifs_claims.proofs.claims.ask_elsewhere.Goals as goal
use Rattle.ifs_solver.specs.Asking.{guard_of}

pub returns-then-is_among : goal.returns-then-is_among
returns-then-is_among c = among_holds c.args.reachable.now c.args.states.now (guard_of c.args.guard) c.args.state c.if-is_among.ensures

pub returns : goal.returns
returns c = elsewhere_said c.args.reachable.now c.args.states.now (guard_of c.args.guard) c.args.state c.in_ok-extent.extent c.if-is_among.ensures c.in_ok-extent.ensures
