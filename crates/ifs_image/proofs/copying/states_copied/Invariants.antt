use Rattle.std.proofs.Common.{◌≡◌, take}
use Rattle.ifs_image.proofs.copying.states_copied.Given as goal

abbrev pub invariant-loop-state : goal.invariant-loop-state
invariant-loop-state l = l.copied.items ≡ take l.state-index l.states
