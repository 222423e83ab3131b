use Rattle.std.proofs.Common.{◌≡◌, All}
use Rattle.ifs_core.specs.Machine.{KeepsBudgets}
use Rattle.ifs_core.specs.Steps.{cost_told, commands_told}
use Rattle.ifs_image_tests.proofs.steps.lent.replies.Given as goal

abbrev pub invariant-loop-step : goal.invariant-loop-step
invariant-loop-step l = record {
  image : l.core.image ≡ l.fn.core.image;
  within : All (λ reply. KeepsBudgets l.fn.core.image (commands_told reply) (cost_told reply)) l.replies.items;
}
