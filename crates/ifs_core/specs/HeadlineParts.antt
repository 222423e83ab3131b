-- Parts of the headline: the handler runs of an event, and behaviours that agree.
use Rattle.std.specs.Prelude.{ℕ, ◌≡◌, List, Some}
use Rattle.ifs_base.specs.Facts.{Facts}
use Rattle.ifs_base.specs.declared.ids.StateId.{StateId}
use Rattle.ifs_image.specs.declared.parts.ImageParts.{ImageParts}
use Rattle.ifs_base.specs.Effects.{Effects, nothing_yet, followed}
use Rattle.ifs_machine.specs.Run.{RunsTo, StaysWithin}
use Rattle.ifs_core.specs.declared.step.Step.{Step}
use Rattle.ifs_core.specs.declared.step.Step.TheVariants.{Link, Finished}
use Rattle.ifs_core.specs.Event.{Handler, AlwaysInit, AlwaysBody, Init, Body, Behaviour, Position, change_of, entering}
use Rattle.ifs_core.specs.Machine.{routine_of}
use Rattle.ifs_core.specs.Gateway.{Known, opening_of, opened}
use Rattle.ifs_core.specs.Steps.{with_link, with_value, with_run_over, replies, after_steps}

-- A handler's run on the machine ends without a trap, with the cost and the effects of the behaviour.
pub record IsRun (image : ImageParts) (b : Behaviour) (handler : Handler) (facts : Facts) (before : Effects) : Type 0 where
  pub routine : ℕ
  pub is : routine_of image handler ≡ Some routine
  pub ends : RunsTo image facts routine before (b.cost handler facts) (followed before (b.answer handler facts))

-- A handler's run is within the stated stack and frames after each row.
abbrev pub IsWithinBudgets : ImageParts → Handler → Facts → Effects → Type 0
IsWithinBudgets image handler facts before = (routine : ℕ) → routine_of image handler ≡ Some routine → StaysWithin image facts routine before

-- The effects of an evaluation after the always body.
abbrev pub after_always : Behaviour → Position → Effects
after_always b p = followed nothing_yet (b.answer AlwaysBody p.facts)

-- The effects of an evaluation after both bodies.
abbrev pub after_bodies : Behaviour → Position → Effects
after_bodies b p = followed (after_always b p) (b.answer (Body p.current.0) p.facts)

-- A fact of each handler run of an evaluation: of the always body, of the current state's body, and of the init of an entered state.
pub record EachRun (Holds : Handler → Facts → Effects → Type 0) (b : Behaviour) (p : Position) : Type 0 where
  pub always : Holds AlwaysBody p.facts nothing_yet
  pub body : Holds (Body p.current.0) p.facts (after_always b p)
  pub init : (next : StateId) → change_of p.current (after_bodies b p).wish ≡ Some next → Holds (Init next.0) (entering b next p).facts (after_bodies b p)

-- A fact of both handler runs of the opening: of the always init and of the initial state's init.
pub record BothRuns (Holds : Handler → Facts → Effects → Type 0) (b : Behaviour) (image : ImageParts) (known : Known) : Type 0 where
  pub always : Holds AlwaysInit (opening_of b image known).position.facts nothing_yet
  pub init : Holds (Init image.initial.0) (opening_of b image known).position.facts (followed nothing_yet (b.answer AlwaysInit (opening_of b image known).position.facts))

-- The position from which a step evaluates, if it does: after the change of its fact.
abbrev pub changed_by : Step → Position → Position
changed_by (Link interface link) p = with_link interface.0 link p
changed_by (Finished test run value) p = with_value test.0 value (with_run_over test.0 run p)
changed_by _ p = p

-- Two behaviours have the same opening, and for a list of steps the same replies and the same state afterwards.
pub record RunAlike (image : ImageParts) (known : Known) (a b : Behaviour) (steps : List Step) : Type 0 where
  pub opening : opening_of a image known ≡ opening_of b image known
  pub replies : replies a image.budgets.commands steps (opened a image known) ≡ replies b image.budgets.commands steps (opened b image known)
  pub state : after_steps a image.budgets.commands steps (opened a image known) ≡ after_steps b image.budgets.commands steps (opened b image known)
