-- What is the same at the front, and then at the back.
use Rattle.std.proofs.Common.{◌-◌, take, drop, length}
use Rattle.ifs_compare.proofs.Middling.{front_rest, both_middles}
use Rattle.ifs_compare.proofs.middles.middles_of.Goals as goal

pub returns : goal.returns
returns c =
    let one = c.args.one.now in
    let other = c.args.other.now in
    let front = c.same_front-front.result in
    both_middles one other (take (length one - front) (drop front one)) (take (length other - front) (drop front other)) c.behind.result.old.now c.behind.result.new.now
    (front_rest front one other c.same_front-front.ensures.same) c.behind.ensures
