use Rattle.std.proofs.Common.{ℕ, ◌<◌, length}
use Rattle.ifs_image.specs.Code.{code_of}
use Rattle.ifs_verify.specs.Rules.{IsReached}
use Rattle.ifs_verify.proofs.reach.check_reached.Given as goal

abbrev pub invariant-loop-routine : goal.invariant-loop-routine
invariant-loop-routine l = (routine : ℕ) → routine < l.routine → (to : ℕ) → 0 < to → to < length (code_of l.image routine) → IsReached l.image routine to
