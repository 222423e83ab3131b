-- The commands so far are the same.
use Rattle.std.proofs.Common.{◌≡◌, take}
use Rattle.ifs_compare.proofs.looking.same_commands.Given as goal

abbrev pub invariant-loop-index : goal.invariant-loop-index
invariant-loop-index l = take l.index l.one ≡ take l.index l.other
