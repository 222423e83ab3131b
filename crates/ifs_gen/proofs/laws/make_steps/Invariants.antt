-- The core made the steps so far, with these replies.
use Rattle.std.proofs.Common.{◌≡◌, take}
use Rattle.ifs_gen.specs.CompiledCore.{LeadsTo}
use Rattle.ifs_gen.proofs.laws.make_steps.Given as goal

abbrev pub invariant-loop-step : goal.invariant-loop-step
invariant-loop-step l = record {
  image : l.core.image ≡ l.initial.core.image;
  leads : LeadsTo l.initial.core.image (take l.step-index l.steps) l.replies.items l.initial.core.state l.core.state;
}
