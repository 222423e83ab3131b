-- The view of a core, and the invariant of each core.
use Rattle.std.specs.Prelude.{◌≡◌}
use Rattle.ifs_core.specs.declared.gateway.Core.TheInside.{Inside}
use Rattle.ifs_core.specs.Gateway.{OpenCore, IsStateOf, position_of}
use Rattle.ifs_core.specs.Steps.{CoreState}

-- The state of a core's run.
abbrev pub state_in : Inside → CoreState
state_in core = record { position = position_of core.position; queue = core.queue.items; trace = core.trace.items }

-- The view of a core: its image and the state of its run.
abbrev pub core_of : Inside → OpenCore
core_of core = record { image = core.verified; state = state_in core }

-- The state is one of the image's run, and the trace keeps 256 records.
pub record IsConsistent (core : Inside) : Type 0 where
  pub state : IsStateOf core.verified (state_in core)
  pub trace : core.trace.capacity ≡ 256
