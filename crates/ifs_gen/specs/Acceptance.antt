-- The verifier accepts the image of a policy, with the least budgets.
use Rattle.std.specs.Prelude.{◌≤◌}
use Rattle.ifs_image.specs.declared.parts.Budgets.{Budgets}
use Rattle.ifs_image.specs.Limits.{Fits}
use Rattle.ifs_verify.specs.Accepted.{IsAccepted}
use Rattle.ifs_gen.specs.Trees.{Policy}
use Rattle.ifs_gen.specs.PlainSizes.{CodeFits}
use Rattle.ifs_gen.specs.PolicyImage.{image_with, least_budgets, image_of}
use Rattle.ifs_policy.specs.Fits.{PolicyFits}

-- If the plain code of a policy keeps the limits, its image keeps them and is accepted.
abbrev pub ImageIsAccepted : Type 0
ImageIsAccepted = (policy : Policy) → PolicyFits policy → CodeFits policy → IsAccepted (image_of policy) × Fits (image_of policy)

-- No part of these budgets is greater than that of the others.
pub record AreNoGreater (budgets others : Budgets) : Type 0 where
  pub stack : budgets.stack ≤ others.stack
  pub frames : budgets.frames ≤ others.frames
  pub cost : budgets.cost ≤ others.cost
  pub commands : budgets.commands ≤ others.commands

-- The code of the image is accepted with no lower budgets than those of the image.
abbrev pub BudgetsAreLeast : Type 0
BudgetsAreLeast = (policy : Policy) → PolicyFits policy → (budgets : Budgets) → IsAccepted (image_with budgets policy) → AreNoGreater (least_budgets policy) budgets
