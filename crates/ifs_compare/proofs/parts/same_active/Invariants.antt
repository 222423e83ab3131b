-- The tests so far are mentioned in both, or in neither.
use Rattle.ifs_compare.proofs.Masks.{AreSameBelow}
use Rattle.ifs_compare.proofs.parts.same_active.Given as goal

abbrev pub invariant-loop-index : goal.invariant-loop-index
invariant-loop-index l = AreSameBelow l.old.body l.new.body l.index
