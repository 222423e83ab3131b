-- Contracts of the functions that open the image of the first line, or refuse it.
use Rattle.std.specs.Prelude.{◌≡◌, ◌⊎◌, ℕ, List, Result, Ok, Err}
use Rattle.std.specs.Io.KnownBytes.{append_known}
use Rattle.ifs_verify.specs.Refused.{IsRefusal, AreNotAccepted}
use Rattle.ifs_core.specs.Gateway.{OpenCore}
use Rattle.ifs_session.specs.declared.fault.SessionFault.TheVariants.{WriteFailed}
use Rattle.ifs_session.specs.declared.fault.RunFault.{RunFault}
use Rattle.ifs_session.specs.declared.fault.RunFault.TheVariants.{Session}
use Rattle.ifs_session.specs.declared.refusal.Refusal.{Refusal}
use Rattle.ifs_session.specs.declared.refusal.Refusal.TheVariants.{Broken, NotAccepted, Memory}
use Rattle.ifs_session.specs.declared.running.Unopened.{Unopened}
use Rattle.ifs_session.specs.declared.running.Unopened.TheVariants.{Refused, NotRead}
use Rattle.ifs_session.specs.declared.hexadecimal.HexFault.TheVariants as hex_faults
use Rattle.ifs_session.specs.Device.{counted, Feed, Sink, HoldsNothing}
use Rattle.ifs_session.specs.Hexadecimal.{HexGives}
use Rattle.ifs_session.specs.Runs.{refusal_words, refused_line, run_fault, LineRefused, OpensImage}

-- The result of a refusal: its fault, after its line was written and flushed, or the fault of a failed write.
abbrev pub RefuseGives : Refusal → RunFault → Sink → Sink → Type 0
RefuseGives refusal result before after =
    ((result ≡ run_fault refusal) × (after.written ≡ append_known before.written (refused_line (refusal_words refusal))) × (after.faults ≡ before.faults) × HoldsNothing after.held)
    ⊎ ((result ≡ Session WriteFailed) × (after.faults ≡ counted before.faults))

-- The result of opening the image that bytes spell: a core, or why there is none.
abbrev pub ImageGives : List ℕ → Result OpenCore Refusal → Type 0
ImageGives bytes (Ok core) = OpensImage bytes core
ImageGives bytes (Err (NotAccepted fault)) = AreNotAccepted bytes fault × IsRefusal bytes fault
ImageGives bytes (Err Memory) = Unit {0}
ImageGives bytes (Err Broken) = ⊥

-- The result of reading the first line: the bytes that it spells, or why there are none.
abbrev pub LineGives : Result (List ℕ) Unopened → Feed → Feed → Type 0
LineGives (Ok bytes) before after = HexGives (Ok bytes) before after
LineGives (Err (Refused refusal)) before after = LineRefused refusal before after
LineGives (Err NotRead) before after = HexGives (Err hex_faults.NotRead) before after
