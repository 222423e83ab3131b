-- The entries so far are due.
use Rattle.std.proofs.Common.{◌≡◌, ℕ, ◌<◌, nat_le, true, get_or}
use Rattle.ifs_base.specs.declared.ids.TestId.{TestId}
use Rattle.ifs_sched.proofs.order.due_count.Given as goal

abbrev pub invariant-loop-count : goal.invariant-loop-count
invariant-loop-count l = (k : ℕ) (d : ℕ × TestId) → k < l.count → nat_le (get_or l.entries k d).0 l.now ≡ true
