-- How the shell runs texts, and what its exit statuses mean.
use Rattle.std.specs.Prelude.{◌≡◌, ◌≢◌, ◌⊎◌, ℕ, ℤ, pos, ◌+ℤ◌, List, codes, Option, Some, None, unwrap_or}
use Rattle.std.specs.Process.{exit_code, exit_signal}
use Rattle.std.specs.declared.process.status.ExitStatus.{ExitStatus}
use Rattle.ifs_host.specs.declared.runner.ProgramStatus.{ProgramStatus}
use Rattle.ifs_host.specs.declared.runner.ProgramStatus.TheVariants.{Runs, Succeeded, Failed, Late}
use Rattle.ifs_host.specs.declared.shell.CommandEnd.{CommandEnd}
use Rattle.ifs_host.specs.declared.shell.CommandEnd.TheVariants.{InTime, Killed, Unended}

-- The program that runs texts.
abbrev pub shell : List ℕ
shell = codes "/bin/sh"

-- The option before the text.
abbrev pub dash_c : List ℕ
dash_c = codes "-c"

-- What the shell does first: it makes a process group of its own, if the system has `setsid`. Then it runs its second argument.
abbrev pub in_own_group : List ℕ
in_own_group = codes "command -v setsid >/dev/null && exec setsid /bin/sh -c \"$1\"; exec /bin/sh -c \"$1\""

-- The same for a test. Its standard output becomes a further descriptor, and what it prints is dropped.
abbrev pub in_watched_group : List ℕ
in_watched_group = codes "exec 3>&1 >/dev/null; command -v setsid >/dev/null && exec setsid /bin/sh -c \"$1\"; exec /bin/sh -c \"$1\""

-- The status of a program agrees with its exit status. While there is none, it runs or is past its limit. It succeeded exactly if its exit code is 0. A program that a signal ended has no exit code.
abbrev pub Agrees : ProgramStatus → Option ExitStatus → Type 0
Agrees answer None = (answer ≡ Runs) ⊎ (answer ≡ Late)
Agrees answer (Some status) =
    ((answer ≡ Succeeded) × (exit_code status ≡ Some (pos 0))) ⊎ ((answer ≡ Failed) × (exit_code status ≢ Some (pos 0)))

-- The number that a shell uses for the end of a program: its exit code, or 128 plus the signal.
abbrev pub shell_code : ExitStatus → ℤ
shell_code status = unwrap_or (exit_code status) (pos 128 +ℤ unwrap_or (exit_signal status) (pos 0))

-- The exit status of a command. One that was killed and whose end is not known has that of a program that SIGKILL ended.
abbrev pub ended_code : CommandEnd → ℤ
ended_code (InTime status) = shell_code status
ended_code (Killed status) = shell_code status
ended_code Unended = pos 137
