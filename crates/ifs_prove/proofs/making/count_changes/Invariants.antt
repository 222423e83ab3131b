-- The core has made the steps so far, which have changed the state so often.
use Rattle.std.proofs.Common.{◌≡◌, ◌≤◌, List, ◌++◌, take}
use Rattle.ifs_claims.specs.Changes.{changes}
use Rattle.ifs_core.specs.declared.step.Step.{Step}
use Rattle.ifs_core.specs.Gateway.{Known}
use Rattle.ifs_gen.specs.Trees.{Policy}
use Rattle.ifs_play.specs.Made.{HasMade}
use Rattle.ifs_prove.proofs.making.count_changes.Given as goal

abbrev pub invariant-loop-step : goal.invariant-loop-step
invariant-loop-step l = record {
  within : l.count ≤ l.step-index;
  made : (policy : Policy) (known : Known) (begun : List Step) → HasMade policy known begun l.fn.core → HasMade policy known (begun ++ take l.step-index l.steps) l.core;
  counts : (policy : Policy) (known : Known) (begun : List Step) → HasMade policy known begun l.fn.core → l.count ≡ changes policy known begun (take l.step-index l.steps);
}
