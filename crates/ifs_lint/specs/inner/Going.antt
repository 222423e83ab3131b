-- Rounds in the world of the links that are, and rounds that were found.
use Rattle.std.specs.Prelude.{Bool, List, IfSome}
use Rattle.std.specs.List.{All}
use Rattle.ifs_base.specs.declared.ids.StateId.{StateId}
use Rattle.ifs_core.specs.declared.step.Step.{Step}
use Rattle.ifs_core.specs.Gateway.{Known}
use Rattle.ifs_gen.specs.Compiled.{IsWritten}
use Rattle.ifs_gen.specs.Trees.{Policy}
use Rattle.ifs_solver.specs.Situations.{situation_after}
use Rattle.ifs_lint.specs.declared.flaps.Flap.{Flap}
use Rattle.ifs_lint.specs.declared.going.Compiled.{Compiled}
use Rattle.ifs_lint.specs.Rounds.{GoTwice, IsRound}

-- Further steps go a round twice, where the links stay as they are and the tests have these results.
abbrev pub GoTwiceWith : Policy → Known → List Step → List Step → List Bool → List StateId → Type 0
GoTwiceWith policy known begun steps results = GoTwice policy known begun steps (record { links = (situation_after policy known begun).facts.links; results = results })

-- The image is that of the policy, if there is one.
abbrev pub IsCompiled : Compiled → Type 0
IsCompiled compiled = IfSome compiled.image (λ image. IsWritten compiled.policy.now image.now)

-- The policy goes each round that was found.
abbrev pub AreRounds : Policy → List Flap → Type 0
AreRounds policy = All (λ flap. IsRound policy flap.states.items)
