-- The due tests as a mask, and a tick of all tests.
use Rattle.std.specs.Prelude.{ℕ, ◌≡◌, ◌+◌, ◌<◌, ◌^◌, min, Bool, List, map, length, slice_index_or}
use Rattle.std.specs.List.{range_with_len}
use Rattle.ifs_sched.specs.declared.start.Start.{Start}
use Rattle.ifs_sched.specs.declared.timer.Timer.{Timer}
use Rattle.ifs_sched.specs.Timer.{inactive, is_due}
use Rattle.ifs_sched.specs.Schedule.{any_by_index, collect_by_index, has_test, is_left_over, map_by_index}
use Rattle.ifs_sched.specs.Schedule.{run_number_at, start_of, ticked_test}

-- A mask has exactly the tests that are due at a moment. An index without a test counts as off.
abbrev pub IsDueSet : ℕ → List Timer → ℕ → Type 0
IsDueSet now tests mask = (test : ℕ) → test < 64 → has_test mask test ≡ is_due now (slice_index_or tests test (inactive 0))

-- The tests after a tick, its starts, whether a due test is left, and the number of the next run.
pub record IsTicked (now next : ℕ) (old new : List Timer) (starts : List Start) (exhausted : Bool) (number : ℕ) : Type 0 where
  pub tests_are : new ≡ map_by_index (ticked_test now next old) old
  pub starts_are : starts ≡ collect_by_index (start_of now next old) old
  pub exhausted_is : exhausted ≡ any_by_index (is_left_over now next old) old
  pub number_is : number ≡ min (run_number_at now next old (length old)) (2 ^ 64)
  pub numbered : map (λ start. start.run) starts ≡ range_with_len next (length starts)
  pub in_sequence : number ≡ next + length starts
