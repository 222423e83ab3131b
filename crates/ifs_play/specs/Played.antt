-- Simulations: a core with the steps that are kept of it.
use Rattle.std.specs.Prelude.{List}
use Rattle.ifs_core.specs.declared.step.Step.{Step}
use Rattle.ifs_core.specs.Gateway.{Known, OpenCore}
use Rattle.ifs_gen.specs.Trees.{Policy}
use Rattle.ifs_play.specs.Made.{HasMade}

-- What clauses see of a simulation.
pub record Played : Type 0 where
  pub core : OpenCore
  pub steps : List Step

-- From an opening with this knowledge, the steps that are kept lead to where the core is.
abbrev pub HasPlayed : Policy → Known → Played → Type 0
HasPlayed policy known played = HasMade policy known played.steps played.core

-- If the steps that were kept before led to where the core was, those that are kept now lead to where it is.
abbrev pub GoesOn : Played → Played → Type 0
GoesOn before after = (policy : Policy) (known : Known) → HasPlayed policy known before → HasPlayed policy known after
