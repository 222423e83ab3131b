-- Service: the result of a served connection, for each of its ends.
use Rattle.std.specs.Prelude.{◌≡◌, ◌≢◌, ℕ, ◌<◌, Bool, true, false, if◌then◌else◌, List, [], ◌∷◌, ◌++◌, length, map, All}
use Rattle.std.specs.Prelude.{Option, Some, None}
use Rattle.std.specs.List.{flat_map, filter_map}
use Rattle.std.specs.Io.KnownBytes.{append_known, Consumes, IsAtEnd}
use Rattle.ifs_image.specs.declared.parts.ImageParts.{ImageParts}
use Rattle.ifs_core.specs.declared.step.Step.{Step}
use Rattle.ifs_core.specs.declared.step.Step.TheVariants.{Link, Finished, Tick}
use Rattle.ifs_core.specs.declared.step.Reply.{Reply}
use Rattle.ifs_core.specs.declared.step.Reply.TheVariants.{Taken, Busy}
use Rattle.ifs_core.specs.Event.{Behaviour}
use Rattle.ifs_core.specs.Steps.{CoreState, replies, after_steps}
use Rattle.ifs_session.specs.declared.fault.SessionFault.TheVariants.{ReadFailed, WriteFailed, TooMuchInput}
use Rattle.ifs_session.specs.declared.service.End.{End}
use Rattle.ifs_session.specs.declared.service.End.TheVariants.{Closed, Stop, Reload, Full, Fault}
use Rattle.ifs_session.specs.declared.service.Leave.{Leave}
use Rattle.ifs_session.specs.declared.service.Leave.TheVariants as leaves
use Rattle.ifs_session.specs.Device.{counted}
use Rattle.ifs_session.specs.declared.host.HostEvent.TheVariants.{Polled, Started, Ran}
use Rattle.ifs_session.specs.Hosts.{Ending, Happening, HostLog, Adds, ran, launched}
use Rattle.ifs_session.specs.Lines.{input_lines, whole_lines}
use Rattle.ifs_session.specs.Replies.{command_text}
use Rattle.ifs_session.specs.Requests.{Asked, AStop, AReload}
use Rattle.ifs_session.specs.Sessions.{Moment, HasRead, EndsLine, EndsLines}
use Rattle.ifs_session.specs.Accounts.{Exchange, client_asked, step_asked, launches_told, account}

-- ---- the steps of a connection

-- The end of a test that a step reports.
abbrev pub ending_made : Step → Option Ending
ending_made (Finished test run value) = Some (test, run, value)
ending_made _ = None

-- A step that a client can ask for: it reports no end of a test and takes no command.
abbrev pub request_made : Step → Option Step
request_made (Link interface link) = Some (Link interface link)
request_made (Tick now) = Some (Tick now)
request_made _ = None

-- The text of the command that a reply returns.
abbrev pub text_taken : ImageParts → Reply → List (List ℕ)
text_taken image (Taken command) = command_text image command.0 ∷ []
text_taken image _ = []

-- The end of a test that a poll of the host returned.
abbrev pub ending_heard : Happening → Option Ending
ending_heard (Polled answer) = answer
ending_heard _ = None

-- The events of a host other than polls.
abbrev pub given_to_host : Happening → Option Happening
given_to_host (Polled answer) = None
given_to_host (Started launch) = Some (Started launch)
given_to_host (Ran text) = Some (Ran text)

-- The events of a host that a reply asks for: the starts of its tests, and the run of the command that it returns.
abbrev pub gives : ImageParts → Reply → HostLog
gives image reply = launched (launches_told image reply) ++ ran (text_taken image reply)

-- These steps lead from one state of a core to another, and the reply to none of them is `Busy`. Their ends of tests are those that the host reported, each once, in order. Their requests are those of the lines, in order. The host started their tests and ran their commands, in order, and nothing else. They leave the queue empty.
pub record ConnectionKeeps (b : Behaviour) (image : ImageParts) (lines : List (List ℕ)) (steps : List Step) (log : HostLog) (s s' : CoreState) : Type 0 where
  pub made : s' ≡ after_steps b image.budgets.commands steps s
  pub never_busy : All (λ reply. reply ≢ Busy) (replies b image.budgets.commands steps s)
  pub endings : filter_map ending_made steps ≡ filter_map ending_heard log
  pub requests : filter_map request_made steps ≡ filter_map (λ line. step_asked image (client_asked line)) lines
  pub given_in : filter_map given_to_host log ≡ flat_map (gives image) (replies b image.budgets.commands steps s)
  pub empty : s'.queue ≡ []

-- ---- the exchanges and the end of a connection

-- The lines of exchanges.
abbrev pub lines_in : List Exchange → List (List ℕ)
lines_in exchanges = map (λ exchange. exchange.line) exchanges

-- What follows a line: after `stop` the service ends, after `reload` the image is read again, and after any other line the connection goes on.
abbrev pub leave_of : Asked → Leave
leave_of AStop = leaves.Stops
leave_of AReload = leaves.Reloads
leave_of _ = leaves.Stays

-- A line is neither `stop` nor `reload`.
abbrev pub AsksNeither : List ℕ → Type 0
AsksNeither line = leave_of (client_asked line) ≡ leaves.Stays

-- The last of these lines is the one that is followed by this, and those before it are neither `stop` nor `reload`.
abbrev pub OnlyLastAsks : Leave → List (List ℕ) → Type 0
OnlyLastAsks leave lines = (earlier : List (List ℕ)) × (last : List ℕ) × (lines ≡ earlier ++ last ∷ []) × All AsksNeither earlier × (leave_of (client_asked last) ≡ leave)

-- What follows these lines: the connection goes on if none of them is `stop` or `reload`. Otherwise only the last of them is.
abbrev pub AskFor : Leave → List (List ℕ) → Type 0
AskFor leaves.Stays lines = All AsksNeither lines
AskFor leaves.Stops lines = OnlyLastAsks leaves.Stops lines
AskFor leaves.Reloads lines = OnlyLastAsks leaves.Reloads lines

-- What follows the lines of a connection, from its end and whether the service was stopped: a reload exactly if it ended with one.
abbrev pub left_by : End → Bool → Leave
left_by Reload stopped = leaves.Reloads
left_by _ stopped = if stopped then leaves.Stops else leaves.Stays

-- These exchanges were done from one moment to another, with the logs of the host before and after. Each of them left the queue empty.
pub record HasAttended (b : Behaviour) (exchanges : List Exchange) (steps : List Step) (told told' : Option HostLog) (before after : Moment) : Type 0 where
  pub image : after.core.image ≡ before.core.image
  pub state : after.core.state ≡ (account b before.core.image exchanges before.core.state).state
  pub steps_are : steps ≡ (account b before.core.image exchanges before.core.state).steps
  pub told_is : Adds (account b before.core.image exchanges before.core.state).log told told'
  pub keeps : ConnectionKeeps b before.core.image (lines_in exchanges) steps (account b before.core.image exchanges before.core.state).log before.core.state after.core.state
  pub each_empties : (front rest : List Exchange) → exchanges ≡ front ++ rest → (account b before.core.image front before.core.state).state.queue ≡ []

-- Each of these exchanges was replied to, in order, and nothing else was written.
pub record HasAnswered (b : Behaviour) (exchanges : List Exchange) (before after : Moment) : Type 0 where
  pub written : after.written ≡ append_known before.written (account b before.core.image exchanges before.core.state).said
  pub same_faults : after.write_faults ≡ before.write_faults

-- How a connection ends without a fault: at the end of input, with `stop`, with `reload`, or with room for fewer than 65 steps. Nothing was read after the last line.
abbrev pub EndsAs : End → Bool → List ℕ → List Step → Moment → Type 0
EndsAs Closed stopped input steps after = (stopped ≡ false) × IsAtEnd after.left
EndsAs Stop stopped input steps after = (stopped ≡ true) × EndsLine input after.left
EndsAs Reload stopped input steps after = (stopped ≡ false) × EndsLine input after.left
EndsAs Full stopped input steps after = (stopped ≡ false) × (447 < length steps) × EndsLines input after.left
EndsAs (Fault fault) stopped input steps after = ⊥

-- A connection has ended without a fault. Each line has an exchange, in order.
pub record ConnectionCompletes (b : Behaviour) (end : End) (stopped : Bool) (input : List ℕ) (exchanges : List Exchange) (steps : List Step) (told told' : Option HostLog) (before after : Moment) : Type 0 where
  pub read : HasRead input before after
  pub lines : input_lines input ≡ lines_in exchanges
  pub attended : HasAttended b exchanges steps told told' before after
  pub answered : HasAnswered b exchanges before after
  pub same_faults : after.read_faults ≡ before.read_faults
  pub asks : AskFor (left_by end stopped) (input_lines input)
  pub ends : EndsAs end stopped input steps after

-- A read failed. The whole lines before it were served.
pub record ConnectionBreaksReading (b : Behaviour) (stopped : Bool) (input : List ℕ) (exchanges : List Exchange) (steps : List Step) (told told' : Option HostLog) (before after : Moment) : Type 0 where
  pub read : HasRead input before after
  pub lines : whole_lines input ≡ lines_in exchanges
  pub attended : HasAttended b exchanges steps told told' before after
  pub answered : HasAnswered b exchanges before after
  pub one_fault : after.read_faults ≡ counted before.read_faults
  pub asks : AskFor (left_by (Fault ReadFailed) stopped) (whole_lines input)
  pub not_stopped : stopped ≡ false

-- A write failed. The lines that were read, each to its end, were done. Only the last may be `stop`, and none is `reload`.
pub record ConnectionBreaksWriting (b : Behaviour) (stopped : Bool) (input : List ℕ) (exchanges : List Exchange) (steps : List Step) (told told' : Option HostLog) (before after : Moment) : Type 0 where
  pub read : HasRead input before after
  pub whole : EndsLines input after.left
  pub lines : input_lines input ≡ lines_in exchanges
  pub attended : HasAttended b exchanges steps told told' before after
  pub same_faults : after.read_faults ≡ before.read_faults
  pub asks : AskFor (left_by (Fault WriteFailed) stopped) (input_lines input)
  pub one_fault : after.write_faults ≡ counted before.write_faults

-- A byte was read after the 16,777,216 bytes of a connection. The whole lines before it were served.
pub record ConnectionReadsPast (b : Behaviour) (stopped : Bool) (input : List ℕ) (byte : ℕ) (exchanges : List Exchange) (steps : List Step) (told told' : Option HostLog) (before after : Moment) : Type 0 where
  pub given : Consumes before.left after.left (input ++ byte ∷ [])
  pub full : length input ≡ 16777216
  pub lines : whole_lines input ≡ lines_in exchanges
  pub attended : HasAttended b exchanges steps told told' before after
  pub answered : HasAnswered b exchanges before after
  pub same_faults : after.read_faults ≡ before.read_faults
  pub asks : AskFor (left_by (Fault TooMuchInput) stopped) (whole_lines input)
  pub not_stopped : stopped ≡ false

-- The result of a connection: an input that was read, and an exchange for each of its lines.
abbrev pub ConnectionGives : Behaviour → End → Bool → List Step → Option HostLog → Option HostLog → Moment → Moment → Type 0
ConnectionGives b (Fault ReadFailed) stopped steps told told' before after =
    (input : List ℕ) × (exchanges : List Exchange) × ConnectionBreaksReading b stopped input exchanges steps told told' before after
ConnectionGives b (Fault WriteFailed) stopped steps told told' before after =
    (input : List ℕ) × (exchanges : List Exchange) × ConnectionBreaksWriting b stopped input exchanges steps told told' before after
ConnectionGives b (Fault TooMuchInput) stopped steps told told' before after =
    (input : List ℕ) × (byte : ℕ) × (exchanges : List Exchange) × ConnectionReadsPast b stopped input byte exchanges steps told told' before after
ConnectionGives b end stopped steps told told' before after =
    (input : List ℕ) × (exchanges : List Exchange) × ConnectionCompletes b end stopped input exchanges steps told told' before after
