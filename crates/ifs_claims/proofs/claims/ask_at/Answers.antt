-- At an opening, at rest, and on arrival.
use Rattle.ifs_solver.specs.Asking.{guard_of}
use Rattle.ifs_claims.proofs.Truths.{moment_said, moment_staying}
use Rattle.ifs_claims.proofs.claims.ask_at.Goals as goal

pub returns-in-Somewhere : goal.returns-in-Somewhere
returns-in-Somewhere c =
    moment_staying c.args.reachable.now c.args.state (guard_of c.args.guard) c.in_ok-opening.opening c.in_ok-resting.resting c.either-staying.result c.in_ok-opening.ensures c.in_ok-resting.ensures c.either-staying.ensures
    c.in-Somewhere.is

pub returns : goal.returns
returns c =
    moment_said c.active_are_mentioned.ensures c.args.reachable.now c.args.state (guard_of c.args.guard) c.in_ok-opening.opening c.in_ok-resting.resting c.either-staying.result c.in_ok-arriving.arriving c.either.result
    c.in_ok-opening.ensures c.in_ok-resting.ensures c.either-staying.ensures c.in_ok-arriving.ensures c.either.ensures
