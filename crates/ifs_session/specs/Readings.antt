-- Readings: what is read of a line that was written.
use Rattle.std.specs.Prelude.{ℕ, ◌≡◌, ◌<◌, ◌^◌, Bool, true, false, ◌||◌, List, length, codes}
use Rattle.ifs_base.specs.Words.{quoted}
use Rattle.ifs_image.specs.declared.parts.ImageParts.{ImageParts}
use Rattle.ifs_sched.specs.Schedule.{running_count}
use Rattle.ifs_core.specs.declared.step.Step.{Step}
use Rattle.ifs_core.specs.declared.step.Step.TheVariants.{Link, Finished, Tick, Take}
use Rattle.ifs_core.specs.declared.step.Record.{Record}
use Rattle.ifs_core.specs.declared.step.Reply.{Reply}
use Rattle.ifs_core.specs.declared.step.Reply.TheVariants.{Busy, Stale, Backwards, NoSuch}
use Rattle.ifs_core.specs.Steps.{CoreState}
use Rattle.ifs_session.specs.declared.reading.TraceLine.{TraceLine}
use Rattle.ifs_session.specs.declared.reading.StatusLine.{StatusLine}
use Rattle.ifs_session.specs.declared.request.RequestFault.{RequestFault}
use Rattle.ifs_session.specs.Requests.{starts_with}
use Rattle.ifs_session.specs.Replies.{state_name, reply_line, fault_line}
use Rattle.ifs_session.specs.Runs.{refused_line}

-- The numbers of a step are within their types.
abbrev pub IsStepInRange : Step → Type 0
IsStepInRange (Link interface link) = interface.0 < 2 ^ 16
IsStepInRange (Finished test run value) = (test.0 < 2 ^ 16) × (run < 2 ^ 64)
IsStepInRange (Tick now) = now < 2 ^ 64
IsStepInRange Take = Unit {0}

-- The numbers of a record are within their types.
pub record IsRecordInRange (r : Record) : Type 0 where
  pub step : IsStepInRange r.step
  pub cost : r.cost < 2 ^ 32
  pub queued : r.queued < 2 ^ 16

-- A line of a trace has what a record has, and the name of its state in quotes.
pub record SaysRecord (image : ImageParts) (r : Record) (line : TraceLine) : Type 0 where
  pub step : line.step ≡ r.step
  pub answer : line.answer ≡ r.answer
  pub state : line.state.now ≡ quoted (state_name image r.state.0)
  pub cost : line.cost ≡ r.cost
  pub queued : line.queued ≡ r.queued

-- The numbers that the status line has of a core are below 2 ^ 64.
pub record IsStatusInRange (s : CoreState) : Type 0 where
  pub queue : length s.queue < 2 ^ 64
  pub running : running_count s.position.schedule < 2 ^ 64
  pub present : s.position.schedule.present < 2 ^ 64

-- A status line has what a core has, and the name of its state in quotes.
pub record SaysStatus (image : ImageParts) (s : CoreState) (line : StatusLine) : Type 0 where
  pub state : line.state.now ≡ quoted (state_name image s.position.current.0)
  pub owed : line.is_owed ≡ s.position.owed
  pub queue : line.queue ≡ length s.queue
  pub running : line.running ≡ running_count s.position.schedule
  pub present : line.present ≡ s.position.schedule.present

-- A reply says by its first word that a line or an image was refused.
abbrev pub says_refused : List ℕ → Bool
says_refused reply = starts_with (codes "fault") reply || starts_with (codes "refused") reply

-- A reply says that a step was not done.
abbrev pub says_undone : List ℕ → Bool
says_undone reply =
    (starts_with (codes "busy") reply || starts_with (codes "backwards") reply) || (starts_with (codes "stale") reply || starts_with (codes "nosuch") reply)

-- A reply says that its request was not done.
abbrev pub says_not_done : List ℕ → Bool
says_not_done reply = says_refused reply || says_undone reply

-- A step was not done.
abbrev pub is_not_done : Reply → Bool
is_not_done Busy = true
is_not_done Stale = true
is_not_done Backwards = true
is_not_done NoSuch = true
is_not_done _ = false

-- The replies that say so are those to steps that were not done, those to lines that are no requests, and refusals.
pub record NotDoneIsSaid : Type 0 where
  pub steps : (image : ImageParts) (reply : Reply) → says_not_done (reply_line image reply) ≡ is_not_done reply
  pub faults : (fault : RequestFault) → says_not_done (fault_line fault) ≡ true
  pub refusals : (words : List ℕ) → says_not_done (refused_line words) ≡ true
