use Rattle.ifs_verify.specs.inner.Passes.{LeastHeights, AreClear}
use Rattle.ifs_verify.proofs.stacks.check_stacks.Given as goal

abbrev pub invariant-loop-routine : goal.invariant-loop-routine
invariant-loop-routine l = record {
  found : LeastHeights l.image l.heights.items l.routine;
  clear : AreClear l.image l.brought.items;
}
