-- The entries so far come before this one.
use Rattle.std.proofs.Common.{◌≡◌, ℕ, ◌<◌, true, get_or}
use Rattle.ifs_base.specs.declared.ids.TestId.{TestId}
use Rattle.ifs_sched.specs.Idle.{comes_before}
use Rattle.ifs_sched.proofs.order.place_of.Given as goal

abbrev pub invariant-loop-place : goal.invariant-loop-place
invariant-loop-place l = (k : ℕ) (d : ℕ × TestId) → k < l.place → comes_before (get_or l.entries k d) l.entry ≡ true
