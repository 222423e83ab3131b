-- There are no more states.
use Rattle.std.proofs.Common.{arith}
use Rattle.ifs_claims.proofs.Walks.{goes_for_ever}
use Rattle.ifs_claims.proofs.known_changes.furthest.Goals as goal

pub returns-else-most-count-clause-exceeded : goal.returns-else-most-count-clause-exceeded
returns-else-most-count-clause-exceeded c =
    let policy = c.args.reachable.now in
    let fits = c.count.ensures.fits.count in
    λ would. goes_for_ever policy c.args.most 65535 (omega (arith, c.count.ensures.count, c.if-most-count.false, fits)) (omega (arith, c.ranges.most.fits)) would
