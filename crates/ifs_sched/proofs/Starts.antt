-- The starts of a tick.
use Rattle.std.proofs.Common.{ℕ, ◌+◌, ◌<◌, ◌≤◌, Bool, true, false, cond, List, [], ◌∷◌, Some, None, length, arith, All}
use Rattle.std.specs.List.{cons_option, enumerate_from, filter_map}
use Rattle.std.proofs.lemmas.List.Elements.{All-nil, All-cons}
use Rattle.ifs_sched.specs.declared.start.Start.{Start}
use Rattle.ifs_sched.specs.declared.timer.Timer.{Timer}
use Rattle.ifs_sched.specs.Schedule.{collect_by_index, run_number_at, start_of, starts_at}

-- A fact of a list and of what may be before it.
All-cons_option_if : (P : Start → Type 0) (b : Bool) (x : Start) (xs : List Start) → P x → All P xs
    → All P (cons_option (cond b (Some x) None) xs)
All-cons_option_if P true x xs p ps = All-cons P x xs p ps
All-cons_option_if P false x xs p ps = ps

-- The tests that start are tests of the schedule.
within_from : (now next limit : ℕ) (old : List Timer) (n : ℕ) (tests : List Timer) → n + length tests ≤ limit
    → All (λ start. start.test.0 < limit) (filter_map (λ p. start_of now next old p.0 p.1) (enumerate_from n tests))
within_from now next limit old n [] h = All-nil (λ start. start.test.0 < limit)
within_from now next limit old n (t ∷ ts) h =
    All-cons_option_if (λ start. start.test.0 < limit) (starts_at now next old n t) (record { test = record { 0 = n }; run = run_number_at now next old n }) _ (omega arith) (within_from now next limit old (n + 1) ts (omega arith))

-- The tests of all starts are tests of the schedule.
pub starts_within : (now next : ℕ) (tests : List Timer)
    → All (λ start. start.test.0 < length tests) (collect_by_index (start_of now next tests) tests)
starts_within now next tests = within_from now next (length tests) tests 0 tests (omega arith)
