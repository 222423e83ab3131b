-- What is the same at the back.
use Rattle.std.proofs.Common.{◌-◌, length}
use Rattle.ifs_compare.proofs.Middling.{back_same}
use Rattle.ifs_compare.proofs.middles.behind.Goals as goal

pub returns : goal.returns
returns c =
    let one = c.args.one.now in
    let other = c.args.other.now in
    back_same (length one - c.same_back-back.result) (length other - c.same_back-back.result) one other c.same_back-back.ensures.same
