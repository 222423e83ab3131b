-- Hosts, which run commands and tests: what they report of their events.
use Rattle.std.specs.Prelude.{◌≡◌, ℕ, Bool, List, [], ◌∷◌, ◌++◌, map, Option, Some, None, Result, MatchResult}
use Rattle.ifs_base.specs.declared.ids.TestId.{TestId}
use Rattle.ifs_session.specs.declared.host.Launch.{Launch as LaunchWith}
use Rattle.ifs_session.specs.declared.host.HostEvent.{HostEvent}
use Rattle.ifs_session.specs.declared.host.HostEvent.TheVariants.{Polled, Started, Ran}
use Rattle.ifs_session.specs.Device.{counted}

-- The end of a test's run: the test, the number of the run, and its value.
abbrev pub Ending : Type 0
Ending = TestId × ℕ × Bool

-- A test for a host to start, with the text of its command.
abbrev pub Launch : Type 0
Launch = LaunchWith (List ℕ)

-- One event at a host: a poll, the start of a test, or the run of a text.
abbrev pub Happening : Type 0
Happening = HostEvent (List ℕ)

-- The events of a host, in order.
abbrev pub HostLog : Type 0
HostLog = List Happening

-- The events of running texts, of starting tests, and of one poll.
abbrev pub ran : List (List ℕ) → HostLog
ran texts = map (λ text. Ran text) texts

abbrev pub launched : List Launch → HostLog
launched starts = map (λ start. Started start) starts

abbrev pub polled : Option Ending → HostLog
polled answer = Polled answer ∷ []

-- The log that a host reports, before and after these events. It may stop reporting its log for good.
abbrev pub Adds : HostLog → Option HostLog → Option HostLog → Type 0
Adds more told None = Unit {0}
Adds more None (Some after) = ⊥
Adds more (Some before) (Some after) = after ≡ before ++ more

-- The result of a run, with a host's number of failures before and after. It rises if the text could not be run.
abbrev pub RunCounts : {X E : Type 0} → Result X E → Option ℕ → Option ℕ → Type 0
RunCounts result faults faults' = MatchResult result (λ _. faults' ≡ faults) (λ _. faults' ≡ counted faults)
