-- The idle tests, and the order in which they become due.
use Rattle.std.specs.Prelude.{ℕ, ◌≡◌, ◌≤◌, ◌↔◌, Bool, false, ◌&&◌, ◌||◌, ◌==◌, nat_lt, IsTrue, List, Option, Some, None, slice_get}
use Rattle.std.specs.List.{AllPairs, Contains}
use Rattle.ifs_base.specs.declared.ids.TestId.{TestId}
use Rattle.ifs_sched.specs.declared.timer.Status.{Status}
use Rattle.ifs_sched.specs.declared.timer.Status.TheVariants.{Idle}
use Rattle.ifs_sched.specs.declared.timer.Timer.{Timer}

-- Whether a status is idle with a due moment.
abbrev pub is_due_from : ℕ → Status → Bool
is_due_from moment (Idle due) = due == moment
is_due_from moment _ = false

-- Whether there is a test, and it is idle with a due moment.
abbrev pub waits_until : ℕ → Option Timer → Bool
waits_until moment None = false
waits_until moment (Some timer) = is_due_from moment timer.status

-- Whether an entry is an idle test with its due moment.
abbrev pub is_idle : List Timer → ℕ × TestId → Bool
is_idle tests entry = waits_until entry.0 (slice_get tests entry.1.0)

-- Whether an entry comes before another: at an earlier moment, or at the same one with a lower index.
abbrev pub comes_before : ℕ × TestId → ℕ × TestId → Bool
comes_before one other = nat_lt one.0 other.0 || (one.0 == other.0 && nat_lt one.1.0 other.1.0)

-- The entries are those of the idle tests, each once, by moment and then by index.
pub record AreIdle (tests : List Timer) (entries : List (ℕ × TestId)) : Type 0 where
  pub ascending : AllPairs (λ one other. IsTrue (comes_before one other)) entries
  pub each : (entry : ℕ × TestId) → Contains entries entry ↔ IsTrue (is_idle tests entry)

-- The least due moment of the idle tests, or none if no test is idle.
abbrev pub IsNextDue : List Timer → Option ℕ → Type 0
IsNextDue tests None = (entry : ℕ × TestId) → is_idle tests entry ≡ false
IsNextDue tests (Some due) =
    ((test : TestId) × IsTrue (is_idle tests (due, test)))
    × ((entry : ℕ × TestId) → IsTrue (is_idle tests entry) → due ≤ entry.0)
