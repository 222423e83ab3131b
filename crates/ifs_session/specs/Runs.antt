-- Runs of an image that is the first line of the input, in hexadecimal digits.
use Rattle.std.specs.Prelude.{◌≡◌, ◌≢◌, ◌⊎◌, ℕ, List, ◌++◌, codes, decimal, Result, Ok, Err}
use Rattle.std.specs.Io.KnownBytes.{append_known}
use Rattle.ifs_image.specs.Spelling.{Spells}
use Rattle.ifs_verify.specs.declared.fault.VerifyFault.{VerifyFault}
use Rattle.ifs_verify.specs.declared.fault.VerifyFault.TheVariants as faults
use Rattle.ifs_verify.specs.FaultWords.{verify_fault_words}
use Rattle.ifs_verify.specs.Accepted.{IsAccepted}
use Rattle.ifs_verify.specs.Refused.{IsRefusal, AreNotAccepted}
use Rattle.ifs_core.specs.Event.{Behaviour}
use Rattle.ifs_core.specs.Machine.{IsBehaviour}
use Rattle.ifs_core.specs.Gateway.{OpenCore, nothing_known, opened}
use Rattle.ifs_session.specs.declared.fault.SessionFault.{SessionFault}
use Rattle.ifs_session.specs.declared.fault.SessionFault.TheVariants.{ReadFailed, WriteFailed, TooMuchInput}
use Rattle.ifs_session.specs.declared.fault.RunFault.{RunFault}
use Rattle.ifs_session.specs.declared.fault.RunFault.TheVariants.{X1, Verify, Memory, Session}
use Rattle.ifs_session.specs.declared.refusal.Refusal.{Refusal}
use Rattle.ifs_session.specs.declared.refusal.Refusal.TheVariants as refusals
use Rattle.ifs_session.specs.declared.hexadecimal.HexFault.TheVariants as hex_faults
use Rattle.ifs_session.specs.declared.session.Summary.{Summary}
use Rattle.ifs_session.specs.Device.{counted, Feed, Sink, HoldsNothing}
use Rattle.ifs_session.specs.Hexadecimal.{HexGives}
use Rattle.ifs_session.specs.Sessions.{Moment, SessionGives}

-- The words of a refusal: its code and its place.
abbrev pub refusal_words : Refusal → List ℕ
refusal_words refusals.Broken = codes "X1"
refusal_words (refusals.NotAccepted fault) = verify_fault_words fault
refusal_words refusals.Memory = codes "V0"

-- The line of a refusal with these words.
abbrev pub refused_line : List ℕ → List ℕ
refused_line words = codes "refused " ++ words ++ codes "\n"

-- The fault of a run with this refusal.
abbrev pub run_fault : Refusal → RunFault
run_fault refusals.Broken = X1
run_fault (refusals.NotAccepted fault) = Verify fault
run_fault refusals.Memory = Memory

-- A core is the opening of the image that these bytes spell. The image is accepted.
pub record OpensImage (bytes : List ℕ) (core : OpenCore) : Type 0 where
  pub spelled : Spells bytes core.image
  pub accepted : IsAccepted core.image
  pub state_is : (b : Behaviour) → IsBehaviour core.image b → core.state ≡ opened b core.image (nothing_known core.image)

-- Why the first line is refused. It is invalid. Or the verifier rejects the bytes that it spells with this fault, or runs out of memory. Or an allocation failed while it was read or afterwards.
abbrev pub LineRefused : Refusal → Feed → Feed → Type 0
LineRefused refusals.Broken before after = HexGives (Err hex_faults.Broken) before after
LineRefused (refusals.NotAccepted fault) before after = (bytes : List ℕ) × HexGives (Ok bytes) before after × AreNotAccepted bytes fault × IsRefusal bytes fault
LineRefused refusals.Memory before after = HexGives (Err hex_faults.Memory) before after ⊎ ((bytes : List ℕ) × HexGives (Ok bytes) before after)

-- What a reader and a writer report.
pub record Streams : Type 0 where
  pub feed : Feed
  pub sink : Sink

-- The moment of a session with this core and these streams.
abbrev pub moment : OpenCore → Streams → Moment
moment core s = record { core = core; left = s.feed.left; written = s.sink.written; read_faults = s.feed.faults; write_faults = s.sink.faults }

-- The image of the first line was opened, nothing was written before that, and the session on its core had this result.
pub record Runs (result : Result Summary SessionFault) (before after : Streams) : Type 0 where
  pub opening : OpenCore
  pub ending : OpenCore
  pub start : Streams
  pub bytes : List ℕ
  pub line : HexGives (Ok bytes) before.feed start.feed
  pub opens : OpensImage bytes opening
  pub same_sink : start.sink ≡ before.sink
  pub session : (b : Behaviour) → IsBehaviour opening.image b → SessionGives b result (moment opening start) (moment ending after)
  pub out : result ≢ Err WriteFailed → HoldsNothing after.sink.held

-- The first line was refused. The line of the refusal was written and has gone out.
pub record Refuses (refusal : Refusal) (before after : Streams) : Type 0 where
  pub why : LineRefused refusal before.feed after.feed
  pub written : after.sink.written ≡ append_known before.sink.written (refused_line (refusal_words refusal))
  pub same_faults : after.sink.faults ≡ before.sink.faults
  pub out : HoldsNothing after.sink.held

-- A read failed in the first line, and nothing was written.
pub record CannotRead (before after : Streams) : Type 0 where
  pub why : HexGives (Err hex_faults.NotRead) before.feed after.feed
  pub same_sink : after.sink ≡ before.sink

-- The first line was refused, and the line of the refusal could not be written.
pub record CannotRefuse (before after : Streams) : Type 0 where
  pub refusal : Refusal
  pub why : LineRefused refusal before.feed after.feed
  pub one_fault : after.sink.faults ≡ counted before.sink.faults

-- The result of a run.
abbrev pub RunGives : Result Summary RunFault → Streams → Streams → Type 0
RunGives (Ok summary) before after = Runs (Ok summary) before after
RunGives (Err X1) before after = Refuses refusals.Broken before after
RunGives (Err (Verify fault)) before after = Refuses (refusals.NotAccepted fault) before after
RunGives (Err Memory) before after = Refuses refusals.Memory before after
RunGives (Err (Session ReadFailed)) before after = Runs (Err ReadFailed) before after ⊎ CannotRead before after
RunGives (Err (Session WriteFailed)) before after = Runs (Err WriteFailed) before after ⊎ CannotRefuse before after
RunGives (Err (Session TooMuchInput)) before after = Runs (Err TooMuchInput) before after
