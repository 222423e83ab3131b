-- Contracts of the functions that serve a connection.
use Rattle.std.specs.Prelude.{◌≡◌, ◌≢◌, ◌⊎◌, ℕ, Bool, true, false, nat_lt, ◌-◌, if◌then◌else◌, List, [], ◌++◌, Option, Some}
use Rattle.std.specs.Prelude.{None, Result, Ok, Err}
use Rattle.std.specs.Io.KnownBytes.{append_known}
use Rattle.ifs_image.specs.declared.parts.ImageParts.{ImageParts}
use Rattle.ifs_core.specs.declared.step.Reply.{Reply}
use Rattle.ifs_core.specs.declared.step.Step.{Step}
use Rattle.ifs_core.specs.Event.{Behaviour}
use Rattle.ifs_core.specs.Steps.{CoreState}
use Rattle.ifs_session.specs.declared.fault.SessionFault.{SessionFault}
use Rattle.ifs_session.specs.declared.fault.SessionFault.TheVariants.{ReadFailed, WriteFailed, TooMuchInput}
use Rattle.ifs_session.specs.declared.lines.Line.{Line}
use Rattle.ifs_session.specs.declared.request.RequestFault.TheVariants.{NoRequest, TooLong}
use Rattle.ifs_session.specs.declared.service.Break.{Break}
use Rattle.ifs_session.specs.declared.service.End.{End}
use Rattle.ifs_session.specs.declared.service.End.TheVariants.{Closed, Stop, Reload, Full, Fault}
use Rattle.ifs_session.specs.declared.service.Leave.{Leave}
use Rattle.ifs_session.specs.declared.service.Leave.TheVariants as leaves
use Rattle.ifs_session.specs.declared.service.ServedLine.{ServedLine}
use Rattle.ifs_session.specs.Device.{counted}
use Rattle.ifs_session.specs.Requests.{Asked, AFault, short_asked}
use Rattle.ifs_session.specs.Sessions.{Moment}
use Rattle.ifs_session.specs.Hosts.{HostLog, Adds, ran, launched}
use Rattle.ifs_session.specs.Accounts.{Account, Exchange, asks_of_hosts, client_asked, launches_told, attended}
use Rattle.ifs_session.specs.Accounts.{exchange_reply}
use Rattle.ifs_session.specs.Service.{leave_of, left_by}
use Rattle.ifs_session.specs.inner.Reading.{Intake, ReadsText, ReadsNothing, ReadFails, ReadsTooMuch}
use Rattle.ifs_session.specs.inner.Serving.{intake, OnlyReads, OnlyWrites}

-- What a client's line asks for, from its first 256 bytes.
abbrev pub kept_client_asked : Line → Asked
kept_client_asked line =
    if line.is_longer then AFault TooLong else
    if asks_of_hosts line.kept.items then AFault NoRequest else
    short_asked line.kept.items

-- The progress of a connection: the core's state, the steps made, and the host's log.
pub record Progress : Type 0 where
  pub state : CoreState
  pub steps : List Step
  pub told : Option HostLog

-- The progress is that of an account, which began with this log of the host.
pub record HasComeTo (origin : Option HostLog) (a : Account) (s : Progress) : Type 0 where
  pub state_is : s.state ≡ a.state
  pub steps_are : s.steps ≡ a.steps
  pub told_is : Adds a.log origin s.told

-- An action changes every account by this function.
abbrev pub Carries : (Account → Account) → Progress → Progress → Type 0
Carries f before after = (origin : Option HostLog) (a : Account) → HasComeTo origin a before → HasComeTo origin (f a) after

-- The last events of a host are the starts of a reply's tests, and after them runs of texts.
pub record HasFollowed (image : ImageParts) (reply : Reply) (told : Option HostLog) : Type 0 where
  pub earlier : Option HostLog
  pub texts : List (List ℕ)
  pub given : Adds (launched (launches_told image reply) ++ ran texts) earlier told

-- A point of a connection: its moment, the budget of bytes, the steps made, and the host's log.
pub record ConnectionPoint : Type 0 where
  pub moment : Moment
  pub budget : ℕ
  pub steps : List Step
  pub told : Option HostLog

-- The progress at a point of a connection, and its input.
abbrev pub progress_of : ConnectionPoint → Progress
progress_of p = record { state = p.moment.core.state; steps = p.steps; told = p.told }

abbrev pub taken_in : ConnectionPoint → Intake
taken_in p = intake p.moment p.budget

-- No step was made, and the host was not called.
pub record Idles (before after : ConnectionPoint) : Type 0 where
  pub steps : after.steps ≡ before.steps
  pub told : after.told ≡ before.told

-- A line was read and done, and it is followed by this.
pub record ServesExchange (b : Behaviour) (exchange : Exchange) (ended : Bool) (leave : Leave) (before after : ConnectionPoint) : Type 0 where
  pub read : ReadsText exchange.line ended (taken_in before) (taken_in after)
  pub image : after.moment.core.image ≡ before.moment.core.image
  pub attends : Carries (attended b before.moment.core.image exchange) (progress_of before) (progress_of after)
  pub asks : leave ≡ leave_of (client_asked exchange.line)

-- The line of an exchange was replied to.
pub record AnswersExchange (b : Behaviour) (exchange : Exchange) (before after : ConnectionPoint) : Type 0 where
  pub written : (origin : Option HostLog) (a : Account) → HasComeTo origin a (progress_of before)
      → after.moment.written ≡ append_known before.moment.written (exchange_reply b before.moment.core.image exchange a)
  pub same_faults : after.moment.write_faults ≡ before.moment.write_faults

-- The next line was not served, or not replied to, for this fault.
abbrev pub ExchangeFails : Behaviour → SessionFault → Bool → ConnectionPoint → ConnectionPoint → Type 0
ExchangeFails b ReadFailed stopped before after =
    (text : List ℕ) × ReadFails text (taken_in before) (taken_in after) × OnlyReads before.moment after.moment × Idles before after × (stopped ≡ false)
ExchangeFails b TooMuchInput stopped before after =
    (text : List ℕ) × (byte : ℕ) × ReadsTooMuch text byte (taken_in before) (taken_in after) × OnlyReads before.moment after.moment × Idles before after × (stopped ≡ false)
ExchangeFails b WriteFailed stopped before after =
    (after.moment.write_faults ≡ counted before.moment.write_faults)
    × ((OnlyWrites before.moment after.moment × Idles before after × (stopped ≡ false)) ⊎ ((exchange : Exchange) × (ended : Bool) × ServesExchange b exchange ended (left_by (Fault WriteFailed) stopped) before after))

-- The result of serving the next line, from one point to another.
abbrev pub ExchangeGives : Behaviour → Result (Option ServedLine) Break → ConnectionPoint → ConnectionPoint → Type 0
ExchangeGives b (Ok (Some line)) before after = (exchange : Exchange) × ServesExchange b exchange line.is_ended line.leave before after × AnswersExchange b exchange before after
ExchangeGives b (Ok None) before after = ReadsNothing (taken_in before) (taken_in after) × OnlyReads before.moment after.moment × Idles before after
ExchangeGives b (Err broken) before after = ExchangeFails b broken.fault broken.stopped before after

-- Whether the service ends.
abbrev pub stops_by : Leave → Bool
stops_by leaves.Stops = true
stops_by _ = false

-- The end after a line that is followed by this. If the connection goes on, it depends on whether there is too little room and on whether a newline ends the line.
abbrev pub end_by : Leave → Bool → Bool → Option End
end_by leaves.Stops full ended = Some Stop
end_by leaves.Reloads full ended = Some Reload
end_by leaves.Stays full ended = if full then Some Full else if ended then None else Some Closed

-- The same for a line that was served, from the number of steps made.
abbrev pub end_of : ServedLine → ℕ → Option End
end_of line steps = end_by line.leave (nat_lt (512 - steps) 65) line.is_ended

-- The result of flushing the writer at an end: that end, or a failed write, which a reload excludes.
abbrev pub FlushGives : End → End → Option (List ℕ) → Option (List ℕ) → Option ℕ → Option ℕ → Type 0
FlushGives end result written written' faults faults' =
    ((result ≡ end) × (written' ≡ append_known written []) × (faults' ≡ faults)) ⊎ ((end ≢ Reload) × (result ≡ Fault WriteFailed) × (faults' ≡ counted faults))
