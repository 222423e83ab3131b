-- Contracts of the functions that look at programs.
use Rattle.std.specs.Prelude.{◌≡◌, ℕ, suc, not, Bool, List, ◌∷◌, ◌++◌, length, map, take, drop, Option, Some}
use Rattle.ifs_sched.specs.declared.start.Start.{Start}
use Rattle.ifs_host.specs.declared.runner.ProgramStatus.{ProgramStatus}
use Rattle.ifs_host.specs.Runners.{RunnerLog, RunnerTells, asked_once, reaped_once, test_value, reached_limit}
use Rattle.ifs_host.specs.Children.{Program, all_run, if_stays, Looks, not_gone, all_reaped}

-- The first of the programs that has a value is at this index, with this status and value.
pub record IsFound (index : ℕ) (answer : ProgramStatus) (value : Bool) (running : List Program) (told told' : Option RunnerLog) : Type 0 where
  pub program : Program
  pub stood : running ≡ take index running ++ program ∷ drop (suc index) running
  pub value_is : test_value answer ≡ Some value
  pub log : RunnerTells (all_run (take index running) ++ asked_once program.1 answer) told told'

-- The program at an index, with this status, was taken out of those that run.
pub record Takes (index : ℕ) (answer : ProgramStatus) (start : Start) (running late running' late' : List Program) : Type 0 where
  pub number : ℕ
  pub stood : running ≡ take index running ++ (start, number) ∷ drop (suc index) running
  pub left : running' ≡ take index running ++ drop (suc index) running
  pub past_limit : late' ≡ late ++ if_stays (reached_limit answer) (start, number)

-- The runner looked at the first program. It is the last now, or it was gone.
pub record LooksAtFirst (before after : List Program) (told told' : Option RunnerLog) : Type 0 where
  pub program : Program
  pub rest : List Program
  pub gone : Bool
  pub stood : before ≡ program ∷ rest
  pub left : after ≡ rest ++ if_stays (not gone) program
  pub log : RunnerTells (reaped_once program.1 gone) told told'

-- The runner looked at so many of the programs, from the first on. Those that were not gone follow the others now.
pub record HasReaped (count : ℕ) (before after : List Program) (told told' : Option RunnerLog) : Type 0 where
  pub looks : Looks
  pub rest : List Program
  pub counted : length looks ≡ count
  pub stood : before ≡ map (λ it. it.0) looks ++ rest
  pub left : after ≡ rest ++ not_gone looks
  pub log : RunnerTells (all_reaped looks) told told'

-- The runner looked at all programs in order, and those that were not gone stay.
pub record AreReaped (before after : List Program) (told told' : Option RunnerLog) : Type 0 where
  pub looks : Looks
  pub each : map (λ it. it.0) looks ≡ before
  pub left : after ≡ not_gone looks
  pub log : RunnerTells (all_reaped looks) told told'
