-- The texts so far are copied.
use Rattle.std.proofs.Common.{◌≡◌, take}
use Rattle.ifs_gen.proofs.generating.texts_of.Given as goal

abbrev pub invariant-loop-index : goal.invariant-loop-index
invariant-loop-index l = l.texts.items ≡ take l.index l.table
