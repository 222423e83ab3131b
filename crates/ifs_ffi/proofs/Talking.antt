-- A session over memory, of a reader and a writer that are new.
use Rattle.std.proofs.Common.{ℕ, ◌≡◌, List, [], Some, None, Ok, subst}
use Rattle.ifs_core.specs.Event.{Behaviour}
use Rattle.ifs_core.specs.Gateway.{OpenCore}
use Rattle.ifs_core.specs.Machine.{IsBehaviour}
use Rattle.ifs_session.specs.declared.session.Summary.{Summary}
use Rattle.ifs_session.specs.Memory.{Input, Output}
use Rattle.ifs_session.specs.Sessions.{Moment, SessionGives}
use Rattle.ifs_ffi.specs.Sessions.{Talks}

-- A session went from this reader and this writer to a moment.
abbrev pub Goes : OpenCore → Input → Output → Summary → Moment → Type 0
Goes core reader writer summary after = (b : Behaviour) → IsBehaviour core.image b → SessionGives b (Ok summary)
    (record { core = core; left = Some reader.left; written = Some writer.written; read_faults = Some reader.faults; write_faults = Some writer.faults }) after

pub talked : (core : OpenCore) (requests replies : List ℕ) (reader : Input) (writer : Output) (summary : Summary) (after : Moment)
    → reader ≡ record { left = requests; faults = 0; fails_after = None } → writer ≡ record { written = []; capacity = 0; faults = 0; fails_after = None }
    → Goes core reader writer summary after → after.written ≡ Some replies → Talks core requests replies
talked core requests replies reader writer summary after new_reader new_writer goes replied = record {
  summary = summary;
  after = after;
  session = subst (λ it. Goes core (record { left = requests; faults = 0; fails_after = None }) it summary after) new_writer
      (subst (λ it. Goes core it writer summary after) new_reader goes);
  replied = replied;
}
