use Rattle.std.proofs.Common.{ℕ, ◌≡◌, ◌<◌, ◌≤◌, ◌+◌, Some, slice_index}
use Rattle.ifs_base.specs.declared.ids.RoutineId.{RoutineId}
use Rattle.ifs_base.specs.declared.op.Op.TheVariants.{Call}
use Rattle.ifs_image.specs.Code.{op_at}
use Rattle.ifs_verify.specs.inner.Passes.{HoldsDepth}
use Rattle.ifs_verify.proofs.depths.depth_of.Given as goal

abbrev pub invariant-loop-place : goal.invariant-loop-place
invariant-loop-place l = record {
  own : 1 ≤ l.depth;
  calls : (place : ℕ) (callee : RoutineId) → place < l.place → op_at l.image l.routine place ≡ Some (Call callee) → slice_index l.depths callee.0 + 1 ≤ l.depth;
  least : (bound : ℕ) → HoldsDepth l.image (slice_index l.depths) l.routine bound → l.depth ≤ bound;
}
