-- Steps that a core has made.
use Rattle.std.specs.Prelude.{◌≡◌, List}
use Rattle.ifs_core.specs.declared.step.Step.{Step}
use Rattle.ifs_core.specs.Event.{Behaviour}
use Rattle.ifs_core.specs.Machine.{IsBehaviour}
use Rattle.ifs_core.specs.Gateway.{Known, IsKnownOf, OpenCore, opened}
use Rattle.ifs_core.specs.Steps.{after_steps}
use Rattle.ifs_gen.specs.PlainSizes.{room_of, CodeFits}
use Rattle.ifs_gen.specs.PolicyImage.{image_of}
use Rattle.ifs_gen.specs.Trees.{Policy}
use Rattle.ifs_policy.specs.Fits.{PolicyFits}

-- A core was opened with this knowledge on the image of a policy, and has made these steps.
pub record HasMade (policy : Policy) (known : Known) (steps : List Step) (core : OpenCore) : Type 0 where
  pub fits : PolicyFits policy
  pub code : CodeFits policy
  pub links : IsKnownOf (image_of policy) known
  pub behaviour : (b : Behaviour) × IsBehaviour (image_of policy) b
  pub image : core.image ≡ image_of policy
  pub state : (b : Behaviour) → IsBehaviour (image_of policy) b → core.state ≡ after_steps b (room_of policy) steps (opened b (image_of policy) known)
