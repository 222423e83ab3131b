-- Starts of tests whose ends have not been reported, and programs that are past their limits.
use Rattle.std.specs.Prelude.{◌≡◌, ℕ, ◌+◌, ◌-◌, ◌==◌, ◌||◌, not, true, false, Bool, List, [], ◌∷◌}
use Rattle.std.specs.Prelude.{◌++◌, length, map, filter, drop, Option, Some, None}
use Rattle.std.specs.List.{flat_map}
use Rattle.ifs_base.specs.declared.ids.TestId.{TestId}
use Rattle.ifs_sched.specs.declared.start.Start.{Start}
use Rattle.ifs_host.specs.declared.runner.ProgramStatus.{ProgramStatus}
use Rattle.ifs_host.specs.declared.runner.ProgramStatus.TheVariants.{Runs}
use Rattle.ifs_host.specs.declared.runner.RunnerEvent.TheVariants.{Asked, Reaped}
use Rattle.ifs_host.specs.Runners.{RunnerLog, RunnerTells, asked_once, test_value, reached_limit}

-- A program that was started for a test, with its number.
abbrev pub Program : Type 0
Program = Start × ℕ

-- The programs that run, those that are past their limits and whose ends are not known, and the starts that failed, each in order.
pub record Waiting : Type 0 where
  pub running : List Program
  pub late : List Program
  pub failed : List Start

-- The state without starts.
abbrev pub none_waits : Waiting
none_waits = record { running = []; late = []; failed = [] }

-- The places that are taken. A program past its limit holds its place until its end is known.
abbrev pub places_taken : Waiting → ℕ
places_taken waiting = length waiting.running + length waiting.late

-- Whether a program of this test is among these.
abbrev pub runs_for : TestId → List Program → Bool
runs_for test [] = false
runs_for test (it ∷ rest) = (it.0.test.0 == test.0) || runs_for test rest

-- The state after a program was started.
abbrev pub with_running : Program → Waiting → Waiting
with_running program waiting =
    record { running = waiting.running ++ program ∷ []; late = waiting.late; failed = waiting.failed }

-- The starts of other tests.
abbrev pub of_others : Start → List Start → List Start
of_others start starts = filter (λ it. not (it.test.0 == start.test.0)) starts

-- The last 63 of these starts.
abbrev pub latest : List Start → List Start
latest starts = drop (length starts - 63) starts

-- The state after a start that failed: an earlier failed start of the same test goes, and of the others the latest 63 stay.
abbrev pub with_failed : Start → Waiting → Waiting
with_failed start waiting =
    record { running = waiting.running; late = waiting.late; failed = latest (of_others start waiting.failed) ++ start ∷ [] }

-- The runner looked at these programs in order, and each still runs.
abbrev pub all_run : List Program → RunnerLog
all_run programs = map (λ it. Asked it.1 Runs) programs

-- A program, if it stays.
abbrev pub if_stays : Bool → Program → List Program
if_stays true program = program ∷ []
if_stays false program = []

-- The first of the programs that has a value leaves the running ones. The runner looked at it and at those before it, in order, and the value is from its status. If it reached its limit, it is the last of those past their limits.
pub record IsFirstEnded (ended : Start × Bool) (running late running' late' : List Program) (told told' : Option RunnerLog) : Type 0 where
  pub front : List Program
  pub number : ℕ
  pub rest : List Program
  pub answer : ProgramStatus
  pub stood : running ≡ front ++ (ended.0, number) ∷ rest
  pub left : running' ≡ front ++ rest
  pub past_limit : late' ≡ late ++ if_stays (reached_limit answer) (ended.0, number)
  pub value : test_value answer ≡ Some ended.1
  pub log : RunnerTells (all_run front ++ asked_once number answer) told told'

-- Looks at programs past their limits: each with whether it was gone.
abbrev pub Looks : Type 0
Looks = List (Program × Bool)

-- The programs that were not gone.
abbrev pub not_gone : Looks → List Program
not_gone looks = flat_map (λ it. if_stays (not it.1) it.0) looks

-- The calls of the runner for these looks.
abbrev pub all_reaped : Looks → RunnerLog
all_reaped looks = map (λ it. Reaped it.0.1 it.1) looks

-- All programs still run. The runner looked at each in order, and then at each of those past their limits in order. Of those, the ones that were not gone stay.
pub record FindsNone (running late running' late' : List Program) (told told' : Option RunnerLog) : Type 0 where
  pub same : running' ≡ running
  pub looks : Looks
  pub each : map (λ it. it.0) looks ≡ late
  pub left : late' ≡ not_gone looks
  pub log : RunnerTells (all_run running ++ all_reaped looks) told told'

-- A start ends. It is the first that failed, with the value false and without a call of the runner. If none failed, it is the first whose program has ended or reached its limit.
abbrev pub EndsOne : Start × Bool → List Start → Waiting → Waiting → Option RunnerLog → Option RunnerLog → Type 0
EndsOne ended [] before after told told' =
    IsFirstEnded ended before.running before.late after.running after.late told told' × (after.failed ≡ [])
EndsOne ended (first ∷ rest) before after told told' =
    (ended ≡ (first, false)) × (after ≡ record { running = before.running; late = before.late; failed = rest }) × (told' ≡ told)

-- The result of asking for an ended start, the state, and the runner's log. The result is `None` only if no start failed and all programs still run.
abbrev pub Ends : Option (Start × Bool) → Waiting → Waiting → Option RunnerLog → Option RunnerLog → Type 0
Ends None before after told told' =
    (before.failed ≡ []) × (after.failed ≡ []) × FindsNone before.running before.late after.running after.late told told'
Ends (Some ended) before after told told' = EndsOne ended before.failed before after told told'
