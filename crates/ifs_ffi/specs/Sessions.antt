-- Sessions of the library: request lines in one text, and the replies in another.
use Rattle.std.specs.Prelude.{ℕ, ◌≡◌, List, [], Some, Ok}
use Rattle.ifs_core.specs.Event.{Behaviour}
use Rattle.ifs_core.specs.Gateway.{OpenCore}
use Rattle.ifs_core.specs.Machine.{IsBehaviour}
use Rattle.ifs_session.specs.declared.session.Summary.{Summary}
use Rattle.ifs_session.specs.Runs.{OpensImage}
use Rattle.ifs_session.specs.Sessions.{Moment, SessionGives}

-- The moment before a session: nothing is read or written, and no read or write failed.
abbrev pub beginning : OpenCore → List ℕ → Moment
beginning core requests = record { core = core; left = Some requests; written = Some []; read_faults = Some 0; write_faults = Some 0 }

-- A session on a core served these request lines, and these are its replies.
pub record Talks (core : OpenCore) (requests replies : List ℕ) : Type 0 where
  pub summary : Summary
  pub after : Moment
  pub session : (b : Behaviour) → IsBehaviour core.image b → SessionGives b (Ok summary) (beginning core requests) after
  pub replied : after.written ≡ Some replies

-- The bytes spell an accepted image, and these are the replies of a session from its opening on.
pub record IsSession (image requests replies : List ℕ) : Type 0 where
  pub opening : OpenCore
  pub opens : OpensImage image opening
  pub talks : Talks opening requests replies
