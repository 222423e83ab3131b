use Rattle.std.proofs.Common.{ℕ, ◌≡◌, ◌<◌, length}
use Rattle.ifs_verify.specs.Rules.{IsReached}
use Rattle.ifs_verify.specs.inner.Passes.{IsMarked, FollowsBelow}
use Rattle.ifs_verify.proofs.reach.check_reached_in.Given as goal

abbrev pub invariant-loop-place : goal.invariant-loop-place
invariant-loop-place l = record {
  long : length l.marks.items ≡ length l.code;
  follows : (k : ℕ) → IsMarked l.marks.items k → FollowsBelow l.image l.routine l.place k;
  marked : (k : ℕ) → k < length l.code → FollowsBelow l.image l.routine l.place k → IsMarked l.marks.items k;
  reached : (k : ℕ) → 0 < k → k < l.place → IsReached l.image l.routine k;
}
