-- A host that returns results from a script, and its log.
use Rattle.std.specs.Prelude.{ℕ, ℤ, pos, Bool, true, false, List, [], ◌∷◌, Option, Some, None, Result, Ok}
use Rattle.ifs_session.specs.declared.host.HostFault.{HostFault}
use Rattle.ifs_session.specs.Hosts.{Ending, HostLog}

-- A scripted host: the results that are left for polls and for runs, its log, the capacity of the log, whether the log is complete, and the number of failed runs.
pub record Script : Type 0 where
  pub endings : List (Option Ending)
  pub statuses : List (Result ℤ HostFault)
  pub log : HostLog
  pub room : ℕ
  pub whole : Bool
  pub faults : ℕ

-- The log that it reports: its own, as long as that is complete.
abbrev pub told_whole : Bool → HostLog → Option HostLog
told_whole true log = Some log
told_whole false log = None

-- The next result of a poll: the first that is left, or no end of a test.
abbrev pub next_ending : List (Option Ending) → Option Ending
next_ending [] = None
next_ending (answer ∷ answers) = answer

-- The next result of a run: the first that is left, or the status 0.
abbrev pub next_status : List (Result ℤ HostFault) → Result ℤ HostFault
next_status [] = Ok (pos 0)
next_status (status ∷ statuses) = status
