-- The statements from there on are the same.
use Rattle.std.proofs.Common.{◌≡◌, ◌-◌, drop, length}
use Rattle.ifs_compare.proofs.middles.same_back.Given as goal

abbrev pub invariant-loop-index : goal.invariant-loop-index
invariant-loop-index l = drop (length l.one - l.index) l.one ≡ drop (length l.other - l.index) l.other
