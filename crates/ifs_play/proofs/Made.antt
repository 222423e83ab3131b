-- Steps that a core has made, one by one.
use Rattle.std.proofs.Common.{◌≡◌, ℕ, ◌+◌, ◌<◌, ◌≤◌, List, [], ◌∷◌, ◌++◌, length, get_or, take, refl, sym, ap, ◌∙◌, subst, append_assoc}
use Rattle.std.proofs.lemmas.List.{take_more, take_all, append-nil}
use Rattle.ifs_core.specs.declared.step.Step.{Step}
use Rattle.ifs_core.specs.declared.step.Reply.{Reply}
use Rattle.ifs_core.specs.Event.{Behaviour}
use Rattle.ifs_core.specs.Machine.{IsBehaviour}
use Rattle.ifs_core.specs.Gateway.{Known, OpenCore, opened}
use Rattle.ifs_core.specs.Steps.{CoreState, Makes, turn, after_steps}
use Rattle.ifs_gen.specs.PlainSizes.{room_of}
use Rattle.ifs_gen.specs.PolicyImage.{image_of}
use Rattle.ifs_gen.specs.Trees.{Policy}
use Rattle.ifs_play.specs.Made.{HasMade}

steps_after : (b : Behaviour) (room : ℕ) (steps : List Step) (step : Step) (s : CoreState) → after_steps b room (steps ++ step ∷ []) s ≡ (turn b room step (after_steps b room steps s)).next
steps_after b room [] step s = refl
steps_after b room (first ∷ steps) step s = steps_after b room steps step (turn b room first s).next

-- The contract of a step.
abbrev pub IsMadeBy : OpenCore → Step → Reply → OpenCore → Type 0
IsMadeBy before step reply after = (b : Behaviour) → IsBehaviour before.image b → Makes (turn b before.image.budgets.commands step before.state) reply after.state

-- The same of the policy's image.
pub made_by : (policy : Policy) (before : OpenCore) (step : Step) (reply : Reply) (after : OpenCore) → before.image ≡ image_of policy → IsMadeBy before step reply after
    → (b : Behaviour) → IsBehaviour (image_of policy) b → Makes (turn b (room_of policy) step before.state) reply after.state
made_by policy before step reply after is made = subst (λ i. (b : Behaviour) → IsBehaviour i b → Makes (turn b i.budgets.commands step before.state) reply after.state) is made

module _ (policy : Policy) (known : Known) (begun : List Step) where
  -- One more step.
  pub made_one : (before : OpenCore) (step : Step) (reply : Reply) (after : OpenCore) → after.image ≡ before.image → IsMadeBy before step reply after → HasMade policy known begun before
      → HasMade policy known (begun ++ step ∷ []) after
  made_one before step reply after same made h = record {
    fits = h.fits;
    code = h.code;
    links = h.links;
    behaviour = h.behaviour;
    image = same ∙ h.image;
    state = λ b is.
        (made_by policy before step reply after h.image made b is).came_to
        ∙ ap (λ s. (turn b (room_of policy) step s).next) (h.state b is)
        ∙ sym (steps_after b (room_of policy) begun step (opened b (image_of policy) known));
  }

  -- A step that changed nothing.
  pub none_more : (before after : OpenCore) → after.image ≡ before.image → after.state ≡ before.state → HasMade policy known begun before → HasMade policy known begun after
  none_more before after image state h = record {
    fits = h.fits;
    code = h.code;
    links = h.links;
    behaviour = h.behaviour;
    image = image ∙ h.image;
    state = λ b is. state ∙ h.state b is;
  }

  -- The steps of a list, one by one.
  pub none_made : (steps : List Step) (core : OpenCore) → HasMade policy known begun core → HasMade policy known (begun ++ take 0 steps) core
  none_made steps core h = subst (λ ss. HasMade policy known ss core) (sym (append-nil begun)) h

  pub more_made : (steps : List Step) (i : ℕ) (d : Step) (core : OpenCore) → i < length steps → HasMade policy known ((begun ++ take i steps) ++ get_or steps i d ∷ []) core
      → HasMade policy known (begun ++ take (i + 1) steps) core
  more_made steps i d core lt h =
      subst (λ ss. HasMade policy known ss core) (append_assoc begun (take i steps) (get_or steps i d ∷ []) ∙ ap (λ ss. begun ++ ss) (sym (take_more steps i d lt))) h

  pub all_made : (steps : List Step) (i : ℕ) (core : OpenCore) → length steps ≤ i → HasMade policy known (begun ++ take i steps) core → HasMade policy known (begun ++ steps) core
  all_made steps i core all h = subst (λ ss. HasMade policy known (begun ++ ss) core) (take_all i steps all) h
