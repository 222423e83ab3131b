-- Cores that are opened on the image of a policy.
use Rattle.std.proofs.Common.{◌≡◌, ◌≤◌, ℕ, eqb, List, [], ◌∷◌, ◌++◌, map, refl, sym, ap, ◌∙◌, subst}
use Rattle.ifs_core.specs.declared.step.Step.{Step}
use Rattle.ifs_core.specs.declared.step.Reply.{Reply}
use Rattle.ifs_core.specs.declared.step.Reply.TheVariants.{Done, Same, Ticked, Taken, Empty, Busy, Stale, Backwards, NoSuch}
use Rattle.ifs_core.specs.Event.{Behaviour}
use Rattle.ifs_core.specs.Gateway.{opened}
use Rattle.ifs_core.specs.Steps.{CoreState, commands_told, turn, replies, after_steps}
use Rattle.ifs_gen.specs.PlainSizes.{room_of}
use Rattle.ifs_gen.specs.PolicyImage.{image_of}
use Rattle.ifs_gen.specs.Events.{behaviour_of, policy_opened, reply_without_cost, ImageMeansPolicy}
use Rattle.ifs_solver.specs.Situations.{Situation, situation_of, situation_after}
use Rattle.ifs_solver.specs.Asking.{is_met}
use Rattle.ifs_claims.specs.Claims.{CoresAreInSituations, ClaimsCarryOver, IsNoRest, IsFalseIn, IsUnsettled, IsRestIn, queues, situation_of_core}
use Rattle.ifs_claims.specs.Changes.{AgreesWith, counted, changes_of, ChangesCarryOver}
use Rattle.ifs_claims.specs.Moves.{seen}

-- The last of some replies.
last_from : {X : Type 0} → X → List X → X
last_from x [] = x
last_from x (y ∷ ys) = last_from y ys

last_mapped : {X Y : Type 0} (f : X → Y) (x : X) (xs : List X) → last_from (f x) (map f xs) ≡ f (last_from x xs)
unfolding last_from
last_mapped f x [] = refl
last_mapped f x (y ∷ ys) = last_mapped f y ys

last_reply : (b : Behaviour) (room : ℕ) (reply : Reply) (steps : List Step) (step : Step) (s : CoreState) → last_from reply (replies b room (steps ++ step ∷ []) s) ≡ (turn b room step (after_steps b room steps s)).reply
unfolding last_from
last_reply b room reply [] step s = refl
last_reply b room reply (first ∷ steps) step s = last_reply b room (turn b room first s).reply steps step (turn b room first s).next

same_commands : (reply : Reply) → commands_told (reply_without_cost reply) ≡ commands_told reply
same_commands (Done state queued cost) = refl
same_commands (Ticked evaluated state queued cost starts exhausted) = refl
same_commands Same = refl
same_commands (Taken command) = refl
same_commands Empty = refl
same_commands Busy = refl
same_commands Stale = refl
same_commands Backwards = refl
same_commands NoSuch = refl

-- Two runs with the same replies, apart from costs, queue the same commands.
same_queued : (a b : Behaviour) (room : ℕ) (steps : List Step) (step : Step) (s t : CoreState) → map reply_without_cost (replies a room (steps ++ step ∷ []) s) ≡ replies b room (steps ++ step ∷ []) t
    → commands_told (turn a room step (after_steps a room steps s)).reply ≡ commands_told (turn b room step (after_steps b room steps t)).reply
same_queued a b room steps step s t same =
    let all = steps ++ step ∷ [] in
    sym (same_commands (turn a room step (after_steps a room steps s)).reply)
    ∙ ap (λ r. commands_told (reply_without_cost r)) (sym (last_reply a room Same steps step s))
    ∙ ap commands_told (sym (last_mapped reply_without_cost Same (replies a room all s)))
    ∙ ap (λ rs. commands_told (last_from Same rs)) same
    ∙ ap commands_told (last_reply b room Same steps step t)

pub cores_are_in_situations : ImageMeansPolicy → CoresAreInSituations
cores_are_in_situations means policy fits code b is known known_is = record {
  known_for = known_is;
  situation = λ steps. ap (λ s. situation_of s.position) (means policy fits code b is known known_is steps).state;
  opening = ap (λ s. s.queue) (means policy fits code b is known known_is []).opening;
  queued = λ steps step.
      same_queued b (behaviour_of policy) (room_of policy) steps step (opened b (image_of policy) known) (policy_opened policy known) (means policy fits code b is known known_is (steps ++ step ∷ [])).replies;
}

pub claims_carry_over : ImageMeansPolicy → ClaimsCarryOver
claims_carry_over means policy fits code b is known known_is =
    let core = cores_are_in_situations means policy fits code b is known known_is in
    record {
      never_rests = λ state guard claim steps. subst (IsNoRest state guard) (sym (core.situation steps)) (claim known core.known_for steps);
      never_in = λ state guard claim steps. subst (IsFalseIn state guard) (sym (core.situation steps)) (claim known core.known_for steps);
      never_settles = λ state guard claim steps. subst (IsUnsettled policy state guard) (sym (core.situation steps)) (claim known core.known_for steps);
      rests_in = λ states guard claim steps. subst (IsRestIn policy states guard) (sym (core.situation steps)) (claim known core.known_for steps);
      never_enters = λ state claim steps at. claim known core.known_for steps (ap (λ s. s.current) (sym (core.situation steps)) ∙ at);
      never_from = λ state next claim steps step at to.
          claim known core.known_for steps step (ap (λ s. s.current) (sym (core.situation steps)) ∙ at) (ap (λ s. s.current) (sym (core.situation (steps ++ step ∷ []))) ∙ to);
      never_enters_while = λ next guard claim steps step elsewhere to.
          ap (λ s. is_met (seen step s.facts) guard) (core.situation steps)
          ∙ claim known core.known_for steps step (λ at. elsewhere (ap (λ s. s.current) (core.situation steps) ∙ at)) (ap (λ s. s.current) (sym (core.situation (steps ++ step ∷ []))) ∙ to);
      never_runs = λ command guard claim. record {
        opening = λ e. ap (λ s. is_met s.facts guard) (core.situation []) ∙ claim.opening known core.known_for (ap (queues command) (sym core.opening) ∙ e);
        step = λ steps step e. ap (λ s. is_met (seen step s.facts) guard) (core.situation steps) ∙ claim.step known core.known_for steps step (ap (queues command) (sym (core.queued steps step)) ∙ e);
      };
    }

-- Runs through the same situations change the state as often.
same_changes : (one other : List Step → Situation) → ((steps : List Step) → one steps ≡ other steps) → (begun steps : List Step) → changes_of one begun steps ≡ changes_of other begun steps
same_changes one other same begun [] = refl
same_changes one other same begun (step ∷ steps) =
    let next = begun ++ step ∷ [] in
    ap (λ s. counted (eqb s.current.0 (one begun).current.0) (changes_of one next steps)) (same next)
    ∙ ap (λ s. counted (eqb (other next).current.0 s.current.0) (changes_of one next steps)) (same begun)
    ∙ ap (counted (eqb (other next).current.0 (other begun).current.0)) (same_changes one other same next steps)

pub changes_carry_over : ImageMeansPolicy → ChangesCarryOver
changes_carry_over means policy fits code b is known known_is most claim begun world agrees steps keeps =
    let core = cores_are_in_situations means policy fits code b is known known_is in
    subst (λ n. n ≤ most) (sym (same_changes (situation_of_core policy b known) (situation_after policy known) core.situation begun steps))
    (claim known core.known_for begun world (subst (λ s. AgreesWith policy world s.facts) (core.situation begun) agrees) steps keeps)
