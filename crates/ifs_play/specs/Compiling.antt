-- The image of a policy, and its stated limits.
use Rattle.std.specs.Prelude.{ℕ, ◌≡◌, List}
use Rattle.ifs_image.specs.declared.parts.Budgets.{Budgets}
use Rattle.ifs_gen.specs.Compiled.{IsWritten}
use Rattle.ifs_gen.specs.PlainSizes.{room_of}
use Rattle.ifs_gen.specs.Refused.{PassesFirst}
use Rattle.ifs_gen.specs.declared.fault.GenFault.{GenFault}
use Rattle.ifs_gen.specs.Trees.{Policy}

-- These bytes are the image of a policy, and an event of it queues at most as many commands as these limits say.
pub record IsImageOf (policy : Policy) (bytes : List ℕ) (budgets : Budgets) : Type 0 where
  pub written : IsWritten policy bytes
  pub room : budgets.commands ≡ room_of policy

-- The code of a policy exceeds a limit.
abbrev pub ExceedsALimit : Policy → Type 0
ExceedsALimit policy = (fault : GenFault) × PassesFirst policy fault
