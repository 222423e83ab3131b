-- The core has made the steps so far, which have entered these states.
use Rattle.std.proofs.Common.{◌≡◌, List, ◌++◌, take}
use Rattle.ifs_core.specs.declared.step.Step.{Step}
use Rattle.ifs_core.specs.Gateway.{Known}
use Rattle.ifs_gen.specs.Trees.{Policy}
use Rattle.ifs_play.specs.Made.{HasMade}
use Rattle.ifs_lint.specs.Rounds.{entered}
use Rattle.ifs_lint.proofs.going.entered_by.Given as goal

abbrev pub invariant-loop-step : goal.invariant-loop-step
invariant-loop-step l = record {
  made : (policy : Policy) (known : Known) (begun : List Step) → HasMade policy known begun l.fn.core → HasMade policy known (begun ++ take l.step-index l.steps) l.core;
  entered : (policy : Policy) (known : Known) (begun : List Step) → HasMade policy known begun l.fn.core → l.states.items ≡ entered policy known begun (take l.step-index l.steps);
}
