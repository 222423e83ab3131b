use Rattle.std.proofs.Common.{ℕ, ◌≤◌, slice_index}
use Rattle.ifs_verify.specs.inner.Passes.{Stands, AllHold}
use Rattle.ifs_verify.proofs.heights.height_of.Given as goal

abbrev pub invariant-loop-place : goal.invariant-loop-place
invariant-loop-place l = record {
  stands : Stands l.image l.routine l.place l.kinds l.brought.items;
  holds : AllHold l.image l.routine (slice_index l.heights) l.place l.height;
  least : (bound : ℕ) → AllHold l.image l.routine (slice_index l.heights) l.place bound → l.height ≤ bound;
}
