-- The core has made the steps so far.
use Rattle.std.proofs.Common.{List, ◌++◌, take}
use Rattle.ifs_core.specs.declared.step.Step.{Step}
use Rattle.ifs_core.specs.Gateway.{Known}
use Rattle.ifs_gen.specs.Trees.{Policy}
use Rattle.ifs_play.specs.Made.{HasMade}
use Rattle.ifs_play.proofs.making.make_steps.Given as goal

abbrev pub invariant-loop-step : goal.invariant-loop-step
invariant-loop-step l = (policy : Policy) (known : Known) (begun : List Step) → HasMade policy known begun l.fn.core → HasMade policy known (begun ++ take l.step-index l.steps) l.core
