-- The schedule of external tests, and its changes.
use Rattle.std.specs.Prelude.{ℕ, ◌+◌, ◌^◌, min, Bool, false, not, ◌&&◌, ◌==◌, nat_lt, if◌then◌else◌}
use Rattle.std.specs.Prelude.{List, map, length, take, slice_get, count_by, Option, Some, None}
use Rattle.std.specs.List.{enumerate_from, filter_map, list_any}
use Rattle.std.specs.Int.{bit_at}
use Rattle.ifs_sched.specs.declared.start.Start.{Start}
use Rattle.ifs_sched.specs.declared.timer.Timer.{Timer}
use Rattle.ifs_sched.specs.Timer.{inactive, entered_status, is_due, started, is_running_status, is_run, ended}

-- A schedule: its present moment, the number of its next run (2 ^ 64 if none is left), and its tests by index.
pub record Timetable : Type 0 where
  pub present : ℕ
  pub next_run : ℕ
  pub tests : List Timer

-- The tests, each changed by a function of its index and itself.
abbrev pub map_by_index : (ℕ → Timer → Timer) → List Timer → List Timer
map_by_index f tests = map (λ p. f p.0 p.1) (enumerate_from 0 tests)

-- The starts that a function of index and test gives, by index.
abbrev pub collect_by_index : (ℕ → Timer → Option Start) → List Timer → List Start
collect_by_index f tests = filter_map (λ p. f p.0 p.1) (enumerate_from 0 tests)

-- Whether a condition of index and test holds for one of the tests.
abbrev pub any_by_index : (ℕ → Timer → Bool) → List Timer → Bool
any_by_index f tests = list_any (λ p. f p.0 p.1) (enumerate_from 0 tests)

-- A next run number as a number: 2 ^ 64 if there is none.
abbrev pub run_as_number : Option ℕ → ℕ
run_as_number None = 2 ^ 64
run_as_number (Some run) = run

-- A run number of a caller as a number: 2 ^ 64 for 0, which says that none is left.
abbrev pub run_from : ℕ → ℕ
run_from run = if run == 0 then 2 ^ 64 else run

-- A schedule at moment 0 with these periods and this first run number. All tests are off.
unfoldable pub all_off : List ℕ → ℕ → Timetable
all_off periods first_run = record { present = 0; next_run = run_from first_run; tests = map inactive periods }

-- Whether a mask has the test of an index: its bit of weight 2 ^ t is test t.
abbrev pub has_test : ℕ → ℕ → Bool
has_test mask t = bit_at mask t == 1

-- A test after the entry of a state.
abbrev pub entered_test : ℕ → ℕ → ℕ → ℕ → Timer → Timer
entered_test always own now t timer =
    record timer { status = entered_status (has_test always t) (has_test own t) now timer.status }

-- The schedule after the entry of a state at a moment, by the always set and the state's own set of tests.
unfoldable pub entered : ℕ → ℕ → ℕ → Timetable → Timetable
entered always own now s = record s { tests = map_by_index (entered_test always own now) s.tests }

-- The run number of the test of an index at a tick if it is due: the due tests get one sequence, by index.
abbrev pub run_number_at : ℕ → ℕ → List Timer → ℕ → ℕ
run_number_at now next tests t = next + count_by (is_due now) (take t tests)

-- Whether that number is left: the last one is 2^64 - 1.
abbrev pub has_number : ℕ → ℕ → List Timer → ℕ → Bool
has_number now next tests t = nat_lt (run_number_at now next tests t) (2 ^ 64)

-- Whether a test starts at a tick: it is due, and its number is left.
abbrev pub starts_at : ℕ → ℕ → List Timer → ℕ → Timer → Bool
starts_at now next tests t timer = is_due now timer && has_number now next tests t

-- Whether a due test does not start at a tick because its number is not left.
abbrev pub is_left_over : ℕ → ℕ → List Timer → ℕ → Timer → Bool
is_left_over now next tests t timer = is_due now timer && not (has_number now next tests t)

-- A test after a tick.
abbrev pub ticked_test : ℕ → ℕ → List Timer → ℕ → Timer → Timer
ticked_test now next tests t timer =
    if starts_at now next tests t timer then started now (run_number_at now next tests t) timer else timer

-- The start of a test at a tick, if it starts.
abbrev pub start_of : ℕ → ℕ → List Timer → ℕ → Timer → Option Start
start_of now next tests t timer =
    if starts_at now next tests t timer
    then Some (record { test = record { 0 = t }; run = run_number_at now next tests t })
    else None

-- The schedule after a tick at a moment.
unfoldable pub ticked : ℕ → Timetable → Timetable
ticked now s = record {
  present = now;
  next_run = min (run_number_at now s.next_run s.tests (length s.tests)) (2 ^ 64);
  tests = map_by_index (ticked_test now s.next_run s.tests) s.tests;
}

-- The starts of a tick at a moment, by index.
unfoldable pub starts : ℕ → Timetable → List Start
starts now s = collect_by_index (start_of now s.next_run s.tests) s.tests

-- Whether a tick at a moment leaves a due test because no number is left.
unfoldable pub is_exhausted : ℕ → Timetable → Bool
is_exhausted now s = any_by_index (is_left_over now s.next_run s.tests) s.tests

-- Whether there is a test, and it runs under a number.
abbrev pub runs_under : ℕ → Option Timer → Bool
runs_under run None = false
runs_under run (Some timer) = is_run run timer.status

-- Whether the test of an index runs under a number.
unfoldable pub is_running : ℕ → ℕ → Timetable → Bool
is_running test run s = runs_under run (slice_get s.tests test)

-- The schedule after the end of a run of a test: unchanged if the test does not run under that number.
unfoldable pub finished : ℕ → ℕ → Timetable → Timetable
finished test run s =
    record s { tests = map_by_index (λ t timer. if t == test then ended run timer else timer) s.tests }

-- The number of running tests.
unfoldable pub running_count : Timetable → ℕ
running_count s = count_by (λ timer. is_running_status timer.status) s.tests
