-- What the facts of one evaluation say of all steps.
use Rattle.ifs_claims.proofs.Leading.{move_never, move_never_to, move_told}
use Rattle.ifs_claims.proofs.claims.never_from.Goals as goal
use Rattle.ifs_claims.proofs.claims.never_from.Goals.{then-is_never-via-then-is_never, then-is_never-via-else-is_never+then-is_never-2}

pub returns-then-is_never-clause-told : goal.returns-then-is_never-clause-told
returns-then-is_never-clause-told c =
    elim c.then-is_never.branch [
      | then-is_never-via-then-is_never w ↦ move_never c.args.reachable.now c.args.previous c.args.next w.if-is_never.ensures
      | then-is_never-via-else-is_never+then-is_never-2 w ↦ move_never_to c.args.reachable.now c.args.previous c.args.next w.if-is_never-2.ensures
    ]

pub returns-clause-told : goal.returns-clause-told
returns-clause-told c =
    move_told c.args.reachable.now c.args.previous c.args.next c.in-Some.bodies.always.now c.in-Some.bodies.own.now c.in-Some.bodies.scope c.in_ok-extent.extent c.within.result c.in-Some.ensures.there c.if-previous-next.false c.in-Some.ensures.scope
    c.in_ok-extent.ensures c.within.ensures.told
