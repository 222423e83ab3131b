-- A core that is opened on the image of a text runs the text's policy.
use Rattle.std.proofs.Common.{◌≡◌, ℕ, ◌+◌, List, [], ◌∷◌, ◌++◌, map}
use Rattle.std.proofs.Common.{take, Some, refl, sym, ap, ◌∙◌, subst}
use Rattle.std.specs.Prelude.{slice_get}
use Rattle.ifs_image.specs.declared.parts.ImageParts.{ImageParts}
use Rattle.ifs_image.specs.Spelling.{Spells}
use Rattle.ifs_core.specs.declared.step.Step.{Step}
use Rattle.ifs_core.specs.declared.step.Reply.{Reply}
use Rattle.ifs_core.specs.Event.{Behaviour}
use Rattle.ifs_core.specs.Machine.{IsBehaviour}
use Rattle.ifs_core.specs.Gateway.{OpenCore, Known, IsKnownOf, opened}
use Rattle.ifs_core.specs.Steps.{CoreState, Makes, turn, replies, after_steps}
use Rattle.ifs_core.specs.Headline.{IsKept}
use Rattle.ifs_gen.specs.Trees.{Policy}
use Rattle.ifs_gen.specs.PlainSizes.{room_of}
use Rattle.ifs_gen.specs.PolicyImage.{image_of}
use Rattle.ifs_gen.specs.Events.{RunsAsPolicy, reply_without_cost, state_without_costs}
use Rattle.ifs_gen.specs.Compiled.{HasNamesOf, IsCompiled}
use Rattle.ifs_gen.specs.CompiledCore.{LeadsTo, IsRunOf, RunsText}
use Rattle.ifs_gen.proofs.Copying.{take_next}

-- The replies and the state after steps are those of a behaviour of the image.
record IsRunBy (b : Behaviour) (room : ℕ) (steps : List Step) (replied : List Reply) (before after : CoreState) : Type 0 where
  replies_are : replied ≡ replies b room steps before
  came_to : after ≡ after_steps b room steps before

run_by : (image : ImageParts) (b : Behaviour) → IsBehaviour image b → (steps : List Step) (replied : List Reply) (before after : CoreState)
    → LeadsTo image steps replied before after → IsRunBy b image.budgets.commands steps replied before after
run_by image b is [] [] before after leads = record { replies_are = refl; came_to = leads }
run_by image b is [] (reply ∷ replied) before after leads = absurd leads
run_by image b is (step ∷ steps) [] before after leads = absurd leads
run_by image b is (step ∷ steps) (reply ∷ replied) before after leads =
    let made = leads.1 b is in
    let rest = run_by image b is steps replied leads.0 after leads.2 in
    let room = image.budgets.commands in
    record {
      replies_are =
          ap (λ (r : Reply). r ∷ replied) made.replied
          ∙ ap (λ (rs : List Reply). (turn b room step before).reply ∷ rs)
          (rest.replies_are ∙ ap (λ (s : CoreState). replies b room steps s) made.came_to);
      came_to = rest.came_to ∙ ap (λ (s : CoreState). after_steps b room steps s) made.came_to;
    }

-- A run like that of the policy, from its opening, is a run of the policy.
run_of : (policy : Policy) (known : Known) (b : Behaviour) (steps : List Step) (replied : List Reply) (before after : CoreState) → before ≡ opened b (image_of policy) known
    → IsRunBy b (room_of policy) steps replied before after → RunsAsPolicy policy known b steps → IsRunOf policy known steps replied after
run_of policy known b steps replied before after is run as_policy = record {
  replies_are = ap (map reply_without_cost) (run.replies_are ∙ ap (λ (s : CoreState). replies b (room_of policy) steps s) is) ∙ as_policy.replies;
  state_is = ap state_without_costs (run.came_to ∙ ap (λ (s : CoreState). after_steps b (room_of policy) steps s) is) ∙ as_policy.state;
}

-- One more step.
lead_on : (image : ImageParts) (steps : List Step) (replied : List Reply) (before after next : CoreState) (step : Step) (reply : Reply)
    → LeadsTo image steps replied before after → ((b : Behaviour) → IsBehaviour image b → Makes (turn b image.budgets.commands step after) reply next)
    → LeadsTo image (steps ++ step ∷ []) (replied ++ reply ∷ []) before next
lead_on image [] [] before after next step reply leads made =
    (next, subst (λ (s : CoreState). (b : Behaviour) → IsBehaviour image b → Makes (turn b image.budgets.commands step s) reply next) leads made, refl)
lead_on image [] (r ∷ replied) before after next step reply leads made = absurd leads
lead_on image (s ∷ steps) [] before after next step reply leads made = absurd leads
lead_on image (s ∷ steps) (r ∷ replied) before after next step reply leads made =
    (leads.0, leads.1, lead_on image steps replied leads.0 after next step reply leads.2 made)

-- The steps of a list, one by one.
pub lead_next : (image : ImageParts) (steps : List Step) (i : ℕ) (replied replied' : List Reply) (before after next : CoreState) (step : Step) (reply : Reply)
    → slice_get steps i ≡ Some step → replied' ≡ replied ++ reply ∷ [] → LeadsTo image (take i steps) replied before after
    → ((b : Behaviour) → IsBehaviour image b → Makes (turn b image.budgets.commands step after) reply next)
    → LeadsTo image (take (i + 1) steps) replied' before next
lead_next image steps i replied replied' before after next step reply at more leads made =
    subst (λ (ss : List Step). LeadsTo image ss replied' before next) (sym (take_next steps i step at))
    (subst (λ (rs : List Reply). LeadsTo image (take i steps ++ step ∷ []) rs before next) (sym more)
    (lead_on image (take i steps) replied before after next step reply leads made))

module _ (text : List ℕ) (defs : List (List ℕ × List ℕ)) (bytes : List ℕ) (is : IsCompiled text defs bytes) where
  opened_on : (core : OpenCore) (known : Known) → core.image ≡ image_of is.policy → IsKept core.image → IsKnownOf core.image known
      → ((b : Behaviour) → IsBehaviour core.image b → core.state ≡ opened b core.image known) → RunsText text defs known core
  opened_on core known same kept links state =
      let policy = is.policy in
      let found = is.means.behaviour in
      let b = found.0 in
      let own : IsBehaviour core.image b = subst (λ (i : ImageParts). IsBehaviour i b) (sym same) found.1 in
      let start : core.state ≡ opened b (image_of policy) known = state b own ∙ ap (λ (i : ImageParts). opened b i known) same in
      let fits : IsKnownOf (image_of policy) known = subst (λ (i : ImageParts). IsKnownOf i known) same links in
      record {
        policy = policy;
        of_text = is.of_text;
        one = is.one;
        code = is.code;
        image_is = same;
        kept = kept;
        names = subst (HasNamesOf policy) (sym same) is.means.names;
        room = ap (λ (i : ImageParts). i.budgets.commands) same ∙ is.means.room;
        opening = ap state_without_costs start ∙ (is.means.runs b found.1 known fits []).opening;
        runs = λ steps replied after leads.
            run_of policy known b steps replied core.state after start
            (run_by (image_of policy) b found.1 steps replied core.state after (subst (λ (i : ImageParts). LeadsTo i steps replied core.state after) same leads))
            (is.means.runs b found.1 known fits steps);
      }

  pub runs_text : (image : ImageParts) → Spells bytes image → (core : OpenCore) (known : Known) → core.image ≡ image → IsKept core.image → IsKnownOf core.image known
      → ((b : Behaviour) → IsBehaviour image b → core.state ≡ opened b image known) → RunsText text defs known core
  runs_text image spelled core known of_image kept links state =
      opened_on core known (of_image ∙ is.means.only image spelled) kept links
      (subst (λ (i : ImageParts). (b : Behaviour) → IsBehaviour i b → core.state ≡ opened b i known) (sym of_image) state)
