-- More changes than there are states are as many as one likes.
use Rattle.std.proofs.Common.{arith}
use Rattle.ifs_claims.proofs.Walks.{changes_more}
use Rattle.ifs_claims.proofs.changing.rests_within.Goals as goal

pub returns-clause-told : goal.returns-clause-told
returns-clause-told c =
    let same = c.count-count.ensures.fits.count in
    changes_more c.args.reachable.now c.count-count.result c.args.most c.in_ok-told.told (omega (arith, same, c.count-count.ensures.count)) (omega (arith, c.if-most-count.false)) c.in_ok-told.ensures.told
