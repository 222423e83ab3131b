-- A core that has made steps is where the policy's run is.
use Rattle.std.proofs.Common.{◌≡◌, List, [], ap, ◌∙◌, subst}
use Rattle.ifs_base.specs.declared.ids.StateId.{StateId}
use Rattle.ifs_claims.specs.Claims.{CoresAreInSituations}
use Rattle.ifs_claims.specs.Moves.{queued_by}
use Rattle.ifs_core.specs.declared.step.Step.{Step}
use Rattle.ifs_core.specs.declared.step.Reply.{Reply}
use Rattle.ifs_core.specs.Gateway.{Known, OpenCore}
use Rattle.ifs_core.specs.Steps.{turn, commands_told}
use Rattle.ifs_gen.specs.Events.{policy_opened}
use Rattle.ifs_gen.specs.PlainSizes.{room_of}
use Rattle.ifs_gen.specs.Trees.{Policy}
use Rattle.ifs_solver.specs.Situations.{Situation, situation_of, situation_after, IsKnownFor}
use Rattle.ifs_play.specs.Made.{HasMade}
use Rattle.ifs_play.proofs.Made.{IsMadeBy, made_by}

module _ (policy : Policy) (known : Known) (begun : List Step) where
  -- The core is in the situation of the policy.
  pub in_situation : CoresAreInSituations → (core : OpenCore) → HasMade policy known begun core → situation_of core.state.position ≡ situation_after policy known begun
  in_situation law core h =
      let b = h.behaviour.0 in
      ap (λ s. situation_of s.position) (h.state b h.behaviour.1) ∙ (law policy h.fits h.code b h.behaviour.1 known h.links).situation begun

  pub state_is : CoresAreInSituations → (core : OpenCore) → HasMade policy known begun core → (state : StateId) → state ≡ core.state.position.current → state ≡ (situation_after policy known begun).current
  state_is law core h state is = is ∙ ap (λ s. s.current) (in_situation law core h)

  pub known_for : CoresAreInSituations → (core : OpenCore) → HasMade policy known begun core → IsKnownFor policy known
  known_for law core h = (law policy h.fits h.code h.behaviour.0 h.behaviour.1 known h.links).known_for

  -- A step of it queues what the policy queues.
  pub queued_is : CoresAreInSituations → (before : OpenCore) (step : Step) (reply : Reply) (after : OpenCore) → IsMadeBy before step reply after → HasMade policy known begun before
      → commands_told reply ≡ queued_by policy known begun step
  queued_is law before step reply after made h =
      let b = h.behaviour.0 in
      let is = h.behaviour.1 in
      ap commands_told ((made_by policy before step reply after h.image made b is).replied ∙ ap (λ s. (turn b (room_of policy) step s).reply) (h.state b is))
      ∙ (law policy h.fits h.code b is known h.links).queued begun step

  -- What is so of its situation is so of the policy's.
  pub so_there : CoresAreInSituations → (core : OpenCore) → HasMade policy known begun core → (P : Situation → Type 0) → P (situation_of core.state.position) → P (situation_after policy known begun)
  so_there law core h P p = subst P (in_situation law core h) p

-- The opening queues what the policy's does.
pub opening_is : CoresAreInSituations → (policy : Policy) (known : Known) (core : OpenCore) → HasMade policy known [] core → core.state.queue ≡ (policy_opened policy known).queue
opening_is law policy known core h =
    let b = h.behaviour.0 in
    ap (λ s. s.queue) (h.state b h.behaviour.1) ∙ (law policy h.fits h.code b h.behaviour.1 known h.links).opening
