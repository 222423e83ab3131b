-- One test: when it is due, and its changes.
use Rattle.std.specs.Prelude.{ℕ, ◌+◌, ◌-◌, ◌^◌, min, Bool, true, false, nat_le, ◌==◌, if◌then◌else◌}
use Rattle.ifs_sched.specs.declared.timer.Status.{Status}
use Rattle.ifs_sched.specs.declared.timer.Status.TheVariants.{Off, Idle, Running}
use Rattle.ifs_sched.specs.declared.timer.Timer.{Timer}

-- A test of a period that is off.
abbrev pub inactive : ℕ → Timer
inactive n = record { period = n; status = Off }

-- The status of a test after an entry. The first argument says whether the test is in the always set, the second whether it is in the state's own set.
abbrev pub entered_status : Bool → Bool → ℕ → Status → Status
entered_status true _ now Off = Idle now
entered_status true _ now status = status
entered_status false true now _ = Idle now
entered_status false false now _ = Off

-- Whether a status is due at a moment: an idle test is due from its due moment on.
abbrev pub is_due_status : ℕ → Status → Bool
is_due_status now (Idle due) = nat_le due now
is_due_status now _ = false

-- Whether a test is due at a moment.
abbrev pub is_due : ℕ → Timer → Bool
is_due now timer = is_due_status now timer.status

-- The moment at which a test that starts is due again. Moments end at 2^64 - 1.
abbrev pub due_again : ℕ → ℕ → ℕ
due_again now n = min (now + n) (2 ^ 64 - 1)

-- A test after its start at a moment under a run number.
abbrev pub started : ℕ → ℕ → Timer → Timer
started now run timer = record timer { status = Running run (due_again now timer.period) }

-- Whether a test runs.
abbrev pub is_running_status : Status → Bool
is_running_status (Running _ _) = true
is_running_status _ = false

-- Whether a test runs under a number.
abbrev pub is_run : ℕ → Status → Bool
is_run run (Running number due) = number == run
is_run run _ = false

-- The status after the end of a run: a test that runs under that number is idle, with the due moment that it has.
abbrev pub ended_status : ℕ → Status → Status
ended_status run (Running number due) = if number == run then Idle due else Running number due
ended_status run status = status

-- A test after the end of a run.
abbrev pub ended : ℕ → Timer → Timer
ended run timer = record timer { status = ended_status run timer.status }
