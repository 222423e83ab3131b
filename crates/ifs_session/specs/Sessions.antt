-- Session text: the replies to the lines of an input, and the core after them.
use Rattle.std.specs.Prelude.{◌≡◌, ◌⊎◌, ℕ, ◌≤◌, Bool, true, false, is_some, List, [], ◌∷◌, ◌++◌, length, count_by}
use Rattle.std.specs.Prelude.{Option, Some, None, Result, Ok, Err}
use Rattle.std.specs.Io.KnownBytes.{append_known, Consumes, IsAtEnd}
use Rattle.ifs_base.specs.declared.ids.IfaceId.{IfaceId}
use Rattle.ifs_base.specs.declared.op.LinkState.{LinkState}
use Rattle.ifs_image.specs.declared.parts.ImageParts.{ImageParts}
use Rattle.ifs_core.specs.declared.step.Step.{Step}
use Rattle.ifs_core.specs.declared.step.Step.TheVariants.{Link, Finished, Tick, Take}
use Rattle.ifs_core.specs.Event.{Behaviour}
use Rattle.ifs_core.specs.Steps.{CoreState, turn}
use Rattle.ifs_core.specs.Gateway.{OpenCore, interface_of}
use Rattle.ifs_session.specs.declared.fault.SessionFault.{SessionFault}
use Rattle.ifs_session.specs.declared.fault.SessionFault.TheVariants.{ReadFailed, WriteFailed, TooMuchInput}
use Rattle.ifs_session.specs.declared.request.RequestFault.TheVariants.{NoRequest, NoInterface}
use Rattle.ifs_session.specs.declared.session.Summary.{Summary}
use Rattle.ifs_session.specs.Device.{counted}
use Rattle.ifs_session.specs.Requests.{Asked, ALink, AResult, ATick, ATake, AQuestion, AStop, AReload}
use Rattle.ifs_session.specs.Requests.{AFault, asked}
use Rattle.ifs_session.specs.Questions.{reply_to}
use Rattle.ifs_session.specs.Replies.{reply_line, fault_line, bye_line}
use Rattle.ifs_session.specs.Lines.{input_lines, whole_lines}

-- The effect of a line: the bytes of its reply, and the state afterwards.
pub record Deed : Type 0 where
  pub reply : List ℕ
  pub next : CoreState

-- The effect of a step.
abbrev pub step_deed : Behaviour → ImageParts → Step → CoreState → Deed
step_deed b image step s =
    let t = turn b image.budgets.commands step s in
    record { reply = reply_line image t.reply; next = t.next }

-- Nothing changes, with this reply.
abbrev pub told : List ℕ → CoreState → Deed
told reply s = record { reply = reply; next = s }

-- The effect of a link state for an interface that may be missing from the table.
abbrev pub link_deed : Behaviour → ImageParts → LinkState → Option IfaceId → CoreState → Deed
link_deed b image link None s = told (fault_line NoInterface) s
link_deed b image link (Some interface) s = step_deed b image (Link interface link) s

-- The effect of a request. `reload` is not a request of a session, which does not read its image again.
abbrev pub deed : Behaviour → ImageParts → Asked → CoreState → Deed
deed b image (ALink name link) s = link_deed b image link (interface_of image.interfaces name) s
deed b image (AResult test run value) s = step_deed b image (Finished (record { 0 = test }) run value) s
deed b image (ATick moment) s = step_deed b image (Tick moment) s
deed b image ATake s = step_deed b image Take s
deed b image (AQuestion question) s = told (reply_to question image s) s
deed b image AStop s = told bye_line s
deed b image AReload s = told (fault_line NoRequest) s
deed b image (AFault fault) s = told (fault_line fault) s

-- The replies to lines, in order.
abbrev pub replies_to : Behaviour → ImageParts → List (List ℕ) → CoreState → List ℕ
replies_to b image [] s = []
replies_to b image (line ∷ lines) s = (deed b image (asked line) s).reply ++ replies_to b image lines (deed b image (asked line) s).next

-- The state after lines.
abbrev pub after_lines : Behaviour → ImageParts → List (List ℕ) → CoreState → CoreState
after_lines b image [] s = s
after_lines b image (line ∷ lines) s = after_lines b image lines (deed b image (asked line) s).next

-- Whether a request is a step of the core.
abbrev pub is_step : ImageParts → Asked → Bool
is_step image (ALink name link) = is_some (interface_of image.interfaces name)
is_step image (AResult test run value) = true
is_step image (ATick moment) = true
is_step image ATake = true
is_step image _ = false

-- Whether a request is `stop`.
abbrev pub is_stop : Asked → Bool
is_stop AStop = true
is_stop _ = false

-- None of these lines is `stop`.
abbrev pub NoneStops : List (List ℕ) → Type 0
NoneStops [] = Unit {0}
NoneStops (line ∷ lines) = (is_stop (asked line) ≡ false) × NoneStops lines

-- None of these lines except the last may be `stop`.
abbrev pub OnlyLastMayStop : List (List ℕ) → Type 0
OnlyLastMayStop [] = Unit {0}
OnlyLastMayStop (line ∷ []) = Unit {0}
OnlyLastMayStop (line ∷ next ∷ lines) = (is_stop (asked line) ≡ false) × OnlyLastMayStop (next ∷ lines)

-- A moment of a session: the core, the bytes left and the bytes written, and the numbers of failures. A device may not report its own.
pub record Moment : Type 0 where
  pub core : OpenCore
  pub left : Option (List ℕ)
  pub written : Option (List ℕ)
  pub read_faults : Option ℕ
  pub write_faults : Option ℕ

-- These bytes were read from one moment to another, at most as many as a session reads.
pub record HasRead (input : List ℕ) (before after : Moment) : Type 0 where
  pub given : Consumes before.left after.left input
  pub within : length input ≤ 16777216

-- The steps of these lines were made from one moment to another.
pub record HasServed (b : Behaviour) (lines : List (List ℕ)) (before after : Moment) : Type 0 where
  pub image : after.core.image ≡ before.core.image
  pub state : after.core.state ≡ after_lines b before.core.image lines before.core.state

-- Each of these lines was replied to, in order, and nothing else was written.
pub record HasReplied (b : Behaviour) (lines : List (List ℕ)) (before after : Moment) : Type 0 where
  pub written : after.written ≡ append_known before.written (replies_to b before.core.image lines before.core.state)
  pub same_faults : after.write_faults ≡ before.write_faults

-- The input read ends with a newline, or all input was read.
abbrev pub EndsLine : List ℕ → Option (List ℕ) → Type 0
EndsLine input left = ((front : List ℕ) × (input ≡ front ++ 10 ∷ [])) ⊎ IsAtEnd left

-- The input was read to the end of a line, if any of it was read.
abbrev pub EndsLines : List ℕ → Option (List ℕ) → Type 0
EndsLines input left = (input ≡ []) ⊎ EndsLine input left

-- How a session ends without a fault: at the end of input with no line `stop`, or with its last line, which alone is `stop`. Nothing was read after the newline of that line.
abbrev pub EndsWell : Bool → List ℕ → Moment → Type 0
EndsWell false input after = NoneStops (input_lines input) × IsAtEnd after.left
EndsWell true input after = (earlier : List (List ℕ)) × (stop : List ℕ) × (input_lines input ≡ earlier ++ stop ∷ []) × NoneStops earlier × (is_stop (asked stop) ≡ true) × EndsLine input after.left

-- A session has ended without a fault.
pub record Completes (b : Behaviour) (summary : Summary) (input : List ℕ) (before after : Moment) : Type 0 where
  pub read : HasRead input before after
  pub served : HasServed b (input_lines input) before after
  pub replied : HasReplied b (input_lines input) before after
  pub same_faults : after.read_faults ≡ before.read_faults
  pub requests : summary.requests ≡ length (input_lines input)
  pub steps : summary.steps ≡ count_by (λ line. is_step before.core.image (asked line)) (input_lines input)
  pub end : EndsWell summary.stopped input after

-- A read failed. The whole lines before it were served.
pub record BreaksReading (b : Behaviour) (input : List ℕ) (before after : Moment) : Type 0 where
  pub read : HasRead input before after
  pub served : HasServed b (whole_lines input) before after
  pub replied : HasReplied b (whole_lines input) before after
  pub one_fault : after.read_faults ≡ counted before.read_faults
  pub go_on : NoneStops (whole_lines input)

-- A write failed. The steps of the lines that were read, each to its end, were made.
pub record BreaksWriting (b : Behaviour) (input : List ℕ) (before after : Moment) : Type 0 where
  pub read : HasRead input before after
  pub whole : EndsLines input after.left
  pub served : HasServed b (input_lines input) before after
  pub same_faults : after.read_faults ≡ before.read_faults
  pub one_fault : after.write_faults ≡ counted before.write_faults
  pub go_on : OnlyLastMayStop (input_lines input)

-- A byte was read after the 16,777,216 bytes of a session. The whole lines before it were served.
pub record ReadsPast (b : Behaviour) (input : List ℕ) (byte : ℕ) (before after : Moment) : Type 0 where
  pub given : Consumes before.left after.left (input ++ byte ∷ [])
  pub full : length input ≡ 16777216
  pub served : HasServed b (whole_lines input) before after
  pub replied : HasReplied b (whole_lines input) before after
  pub same_faults : after.read_faults ≡ before.read_faults
  pub go_on : NoneStops (whole_lines input)

-- The result of a session: an input that was read, whose lines were served.
abbrev pub SessionGives : Behaviour → Result Summary SessionFault → Moment → Moment → Type 0
SessionGives b (Ok summary) before after = (input : List ℕ) × Completes b summary input before after
SessionGives b (Err ReadFailed) before after = (input : List ℕ) × BreaksReading b input before after
SessionGives b (Err WriteFailed) before after = (input : List ℕ) × BreaksWriting b input before after
SessionGives b (Err TooMuchInput) before after = (input : List ℕ) × (byte : ℕ) × ReadsPast b input byte before after
