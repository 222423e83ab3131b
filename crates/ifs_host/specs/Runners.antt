-- Runners, which start programs for a host: what they report of their calls.
use Rattle.std.specs.Prelude.{◌≡◌, ℕ, ℤ, Bool, true, false, List, [], ◌∷◌, ◌++◌, Option, Some, None, Result}
use Rattle.std.specs.Option.{option_map}
use Rattle.std.specs.Result.{result_ok}
use Rattle.ifs_host.specs.declared.runner.ProgramStatus.{ProgramStatus}
use Rattle.ifs_host.specs.declared.runner.ProgramStatus.TheVariants.{Runs, Succeeded, Failed, Late, Lost}
use Rattle.ifs_host.specs.declared.runner.RunnerEvent.{RunnerEvent}
use Rattle.ifs_host.specs.declared.runner.RunnerEvent.TheVariants.{Spawned, Asked, Reaped, Ran}

-- The calls of a runner with their results, in order: starts of programs, looks at programs within and after their limits, and runs of texts.
abbrev pub RunnerLog : Type 0
RunnerLog = List (RunnerEvent (List ℕ))

-- One start of the program of a text, which has a number if it was started.
abbrev pub spawned_once : {C E : Type 0} → (C → ℕ) → List ℕ → Result C E → RunnerLog
spawned_once number text result = Spawned text (option_map number (result_ok result)) ∷ []

-- One look at the program of a number.
abbrev pub asked_once : ℕ → ProgramStatus → RunnerLog
asked_once number answer = Asked number answer ∷ []

-- One look at the program of a number after its limit.
abbrev pub reaped_once : ℕ → Bool → RunnerLog
reaped_once number gone = Reaped number gone ∷ []

-- One run of a text, which has an exit status if it could be run.
abbrev pub ran_once : {E : Type 0} → List ℕ → Result ℤ E → RunnerLog
ran_once text result = Ran text (result_ok result) ∷ []

-- The log that a runner reports, before and after these calls. It may stop reporting its log for good.
abbrev pub RunnerTells : RunnerLog → Option RunnerLog → Option RunnerLog → Type 0
RunnerTells more told None = Unit {0}
RunnerTells more None (Some after) = ⊥
RunnerTells more (Some before) (Some after) = after ≡ before ++ more

-- The value of a test from the status of its program: none while that runs within its limit, and true only after success.
abbrev pub test_value : ProgramStatus → Option Bool
test_value Runs = None
test_value Succeeded = Some true
test_value Failed = Some false
test_value Late = Some false
test_value Lost = Some false

-- Whether a program with this status has reached its limit, and its end is not known yet.
abbrev pub reached_limit : ProgramStatus → Bool
reached_limit Runs = false
reached_limit Succeeded = false
reached_limit Failed = false
reached_limit Late = true
reached_limit Lost = false
