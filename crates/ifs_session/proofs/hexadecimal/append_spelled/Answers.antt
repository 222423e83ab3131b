use Rattle.std.proofs.Common.{arith}
use Rattle.ifs_session.proofs.Spelling.{nothing_spelled, one_spelled, by_two, spelled_front}
use Rattle.ifs_session.proofs.hexadecimal.append_spelled.Goals as goal

pub loop-left-init : goal.loop-left-init
loop-left-init c = nothing_spelled _ _ c.requires

pub loop-left-preserved : goal.loop-left-preserved
loop-left-preserved c =
    rw c.in_ok-push.ensures.items (one_spelled _ _ c.in-Some-Some.high c.in-Some-Some.low _ c.loop-left.invariant (by_two c.loop-left.left.now c.in-len2-up.len_at_least)
    c.in-Some-Some.ensures c.in-Some-Some.ensures' (omega (arith, c.if-len-ge-BYTES.false)))

pub returns : goal.returns
returns c = spelled_front c.loop-left.invariant
