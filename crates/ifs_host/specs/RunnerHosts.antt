-- A host over a runner: its starts, its runner's log, and how each call changes both.
use Rattle.std.specs.Prelude.{◌≡◌, ◌⊎◌, ◌<◌, ◌≤◌, ℕ, ℤ, Bool, List, [], ◌∷◌, Option, Some, None, Result}
use Rattle.ifs_base.specs.declared.ids.TestId.{TestId}
use Rattle.ifs_sched.specs.declared.start.Start.{Start}
use Rattle.ifs_host.specs.declared.runner.RunnerEvent.TheVariants.{Spawned}
use Rattle.ifs_host.specs.Runners.{RunnerLog, RunnerTells, ran_once}
use Rattle.ifs_host.specs.Children.{Waiting, places_taken, with_running, with_failed, Ends}

-- A host over a runner: its starts, and the runner's log.
pub record HostState : Type 0 where
  pub waiting : Waiting
  pub told : Option RunnerLog

-- The starts after the runner started a test's program, with its number, or failed to start it.
abbrev pub after_spawn : Start → Option ℕ → Waiting → Waiting
after_spawn start (Some number) waiting = with_running (start, number) waiting
after_spawn start None waiting = with_failed start waiting

-- A start finds no place: it fails, and the runner is not called. Programs past their limits hold places too.
pub record FindsNoPlace (start : Start) (before after : HostState) : Type 0 where
  pub full : 256 ≤ places_taken before.waiting
  pub waits : after.waiting ≡ with_failed start before.waiting
  pub log : after.told ≡ before.told

-- A start finds a place: the runner is called once to start the program of its text.
pub record FindsPlace (start : Start) (text : List ℕ) (before after : HostState) : Type 0 where
  pub number : Option ℕ
  pub place : places_taken before.waiting < 256
  pub waits : after.waiting ≡ after_spawn start number before.waiting
  pub log : RunnerTells (Spawned text number ∷ []) before.told after.told

-- The effect of the start of a test whose command has this text.
abbrev pub StartsTest : Start → List ℕ → HostState → HostState → Type 0
StartsTest start text before after = FindsNoPlace start before after ⊎ FindsPlace start text before after

-- The effect of a poll with this result: a test, the number of its run, and its value.
abbrev pub Polls : Option (TestId × ℕ × Bool) → HostState → HostState → Type 0
Polls None before after = Ends None before.waiting after.waiting before.told after.told
Polls (Some it) before after =
    Ends (Some (record { test = it.0; run = it.1 }, it.2)) before.waiting after.waiting before.told after.told

-- The effect of a run of a text with this result: the runner is called once, and its exit status is returned.
abbrev pub RunsOnce : {E : Type 0} → List ℕ → Result ℤ E → HostState → HostState → Type 0
RunsOnce text result before after = (after.waiting ≡ before.waiting) × RunnerTells (ran_once text result) before.told after.told
