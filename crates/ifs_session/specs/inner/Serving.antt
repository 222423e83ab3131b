-- Contracts of the functions that serve a line.
use Rattle.std.specs.Prelude.{◌≡◌, ◌⊎◌, ℕ, ◌+◌, Bool, true, if◌then◌else◌, List, Option, Some, None, Result, Ok, Err}
use Rattle.std.specs.Prelude.{IfOk}
use Rattle.std.specs.Io.KnownBytes.{append_known}
use Rattle.ifs_image.specs.declared.parts.ImageParts.{ImageParts}
use Rattle.ifs_core.specs.Event.{Behaviour}
use Rattle.ifs_core.specs.Steps.{CoreState}
use Rattle.ifs_session.specs.declared.device.DeviceFault.{DeviceFault}
use Rattle.ifs_session.specs.declared.fault.SessionFault.{SessionFault}
use Rattle.ifs_session.specs.declared.fault.SessionFault.TheVariants.{ReadFailed, WriteFailed, TooMuchInput}
use Rattle.ifs_session.specs.declared.lines.Line.{Line}
use Rattle.ifs_session.specs.declared.request.RequestFault.TheVariants.{TooLong}
use Rattle.ifs_session.specs.declared.session.LineKind.{LineKind}
use Rattle.ifs_session.specs.declared.session.LineKind.TheVariants as kinds
use Rattle.ifs_session.specs.declared.session.Served.{Served}
use Rattle.ifs_session.specs.declared.session.Summary.{Summary}
use Rattle.ifs_session.specs.Device.{counted, PutGives}
use Rattle.ifs_session.specs.Requests.{Asked, AStop, AFault, short_asked, asked}
use Rattle.ifs_session.specs.Sessions.{Deed, deed, is_step, Moment}
use Rattle.ifs_session.specs.inner.Reading.{Intake, ReadsText, ReadsNothing, ReadFails, ReadsTooMuch}

-- What a line asks for, from its first 256 bytes.
abbrev pub kept_asked : Line → Asked
kept_asked line = if line.is_longer then AFault TooLong else short_asked line.kept.items

-- The kind of a line, from what it asks for.
abbrev pub kind_of : ImageParts → Asked → LineKind
kind_of image AStop = kinds.Stop
kind_of image a = if is_step image a then kinds.Step else kinds.Other

-- The result of serving a request: the core's state, the reply, and the kind of the line. If a write failed, the bytes written are not known.
abbrev pub ServeGives : Deed → LineKind → Result LineKind DeviceFault → CoreState → Option (List ℕ) → Option (List ℕ) → Option ℕ → Option ℕ → Type 0
ServeGives d kind result state written written' faults faults' =
    (state ≡ d.next) × PutGives result d.reply written written' faults faults' × IfOk result (λ k. k ≡ kind)

-- The input at a moment, with this budget of bytes.
abbrev pub intake : Moment → ℕ → Intake
intake now budget = record { left = now.left; faults = now.read_faults; budget = budget }

-- A line with this text was read from one moment to another, and its step was made, if it has one.
pub record MakesLine (b : Behaviour) (text : List ℕ) (ended : Bool) (before : Moment) (budget : ℕ) (after : Moment) (budget' : ℕ) : Type 0 where
  pub read : ReadsText text ended (intake before budget) (intake after budget')
  pub image : after.core.image ≡ before.core.image
  pub state : after.core.state ≡ (deed b before.core.image (asked text) before.core.state).next

-- The line was replied to.
pub record RepliesToLine (b : Behaviour) (text : List ℕ) (kind : LineKind) (before after : Moment) : Type 0 where
  pub written : after.written ≡ append_known before.written (deed b before.core.image (asked text) before.core.state).reply
  pub same_faults : after.write_faults ≡ before.write_faults
  pub kind_is : kind ≡ kind_of before.core.image (asked text)

-- Only the reader has changed.
pub record OnlyReads (before after : Moment) : Type 0 where
  pub core : after.core ≡ before.core
  pub written : after.written ≡ before.written
  pub same_faults : after.write_faults ≡ before.write_faults

-- Only the writer has changed.
pub record OnlyWrites (before after : Moment) : Type 0 where
  pub core : after.core ≡ before.core
  pub left : after.left ≡ before.left
  pub same_faults : after.read_faults ≡ before.read_faults

-- The result of serving the next line, from one moment and budget to another.
abbrev pub NextServed : Behaviour → Result (Option Served) SessionFault → Moment → ℕ → Moment → ℕ → Type 0
NextServed b (Ok (Some served)) before budget after budget' = (text : List ℕ) × MakesLine b text served.is_ended before budget after budget' × RepliesToLine b text served.kind before after
NextServed b (Ok None) before budget after budget' = ReadsNothing (intake before budget) (intake after budget') × OnlyReads before after
NextServed b (Err ReadFailed) before budget after budget' = (text : List ℕ) × ReadFails text (intake before budget) (intake after budget') × OnlyReads before after
NextServed b (Err TooMuchInput) before budget after budget' = (text : List ℕ) × (byte : ℕ) × ReadsTooMuch text byte (intake before budget) (intake after budget') × OnlyReads before after
NextServed b (Err WriteFailed) before budget after budget' =
    (after.write_faults ≡ counted before.write_faults) × (OnlyWrites before after ⊎ ((text : List ℕ) × (ended : Bool) × MakesLine b text ended before budget after budget'))

-- A summary with one more line of this kind.
abbrev pub with_request : LineKind → Summary → Summary
with_request kinds.Step s = record { requests = s.requests + 1; steps = s.steps + 1; stopped = s.stopped }
with_request kinds.Other s = record { requests = s.requests + 1; steps = s.steps; stopped = s.stopped }
with_request kinds.Stop s = record { requests = s.requests + 1; steps = s.steps; stopped = true }
