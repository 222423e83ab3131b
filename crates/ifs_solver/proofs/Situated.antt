-- What holds in each situation that steps lead to.
use Rattle.std.proofs.Common.{◌≡◌, ℕ, ◌+◌, Bool, true, false, not, List, [], ◌∷◌, ◌++◌, length, map, Option, Some, None, refl, sym, ◌∙◌, subst}
use Rattle.std.specs.Prelude.{slice_get, nat_lt, IsTrue, if◌then◌else◌}
use Rattle.std.specs.List.{enumerate_from}
use Rattle.std.proofs.lemmas.List.{length-map, length-set}
use Rattle.std.proofs.lemmas.List.FromFn.{length-enumerate_from}
use Rattle.std.proofs.lemmas.Bool.{true≢false}
use Rattle.ifs_base.specs.Facts.{Facts, is_link}
use Rattle.ifs_base.specs.Effects.{later_wish}
use Rattle.ifs_base.specs.declared.ids.CommandId.{CommandId}
use Rattle.ifs_base.specs.declared.ids.StateId.{StateId}
use Rattle.ifs_base.specs.declared.op.LinkState.{LinkState}
use Rattle.ifs_sched.specs.Schedule.{is_running}
use Rattle.ifs_core.specs.declared.step.Step.{Step}
use Rattle.ifs_core.specs.declared.step.Step.TheVariants.{Link, Finished, Tick, Take}
use Rattle.ifs_core.specs.declared.step.Reply.TheVariants.{Busy, Stale, Backwards}
use Rattle.ifs_core.specs.Event.{AlwaysBody, Body, Position, change_of, kept_values, with_change, evaluation}
use Rattle.ifs_core.specs.Gateway.{Known}
use Rattle.ifs_core.specs.Steps.{CoreState, Turn, unchanged, same, done, ticked_after, no_event, lacks_room, with_link, with_value, with_run_over, has_value, changing}
use Rattle.ifs_core.specs.Steps.{at_position, LinkSeen, RunEnded, link_turn, finished_turn, tick_turn, take_turn, turn, after_steps}
use Rattle.ifs_gen.specs.Trees.{Policy}
use Rattle.ifs_gen.specs.PlainSizes.{room_of}
use Rattle.ifs_gen.specs.Events.{behaviour_of, policy_opened, ImageMeansPolicy}
use Rattle.ifs_solver.specs.FactSets.{AreFactsOf, scope_of}
use Rattle.ifs_solver.specs.Situations.{Situation, situation_of, IsKnownFor, HoldsAfterSteps, leads_to, entered_by, evaluated, ClosedHolds, IsAtRest, RestsStay, AreEntered, EnteredByWishes, HoldsOfImages}

-- A fact of situations that openings have, and that each evaluation gives again, whatever the facts are.
pub record IsKept (policy : Policy) (P : Situation → Type 0) : Type 0 where
  pub opening : (known : Known) → IsKnownFor policy known → P (situation_of (policy_opened policy known).position)
  pub evaluation : (s : Situation) → P s → (facts : Facts) → AreFactsOf (scope_of policy) facts → P (evaluated policy facts s.current)

-- It holds at a position, whose facts are those of the policy.
record Stands (policy : Policy) (P : Situation → Type 0) (p : Position) : Type 0 where
  holds : P (situation_of p)
  facts : AreFactsOf (scope_of policy) p.facts

length_kept : (always : ℕ) (values : List (Option Bool)) → length (kept_values always values) ≡ length values
length_kept always values = length-map (enumerate_from 0 values) _ ∙ length-enumerate_from 0 values

module _ (policy : Policy) (P : Situation → Type 0) (kept : IsKept policy P) where
  -- An evaluation.
  evaluation_is : (p : Position) (o : Option StateId) (commands : List CommandId) (cost : ℕ)
      → situation_of (with_change (behaviour_of policy) o (record { position = record p { owed = false }; commands = commands; cost = cost })).position ≡ entered_by policy p.facts p.current o
  evaluation_is p None commands cost = refl
  evaluation_is p (Some next) commands cost = refl

  evaluation_facts : (p : Position) (o : Option StateId) (commands : List CommandId) (cost : ℕ) → AreFactsOf (scope_of policy) p.facts
      → AreFactsOf (scope_of policy) (with_change (behaviour_of policy) o (record { position = record p { owed = false }; commands = commands; cost = cost })).position.facts
  evaluation_facts p None commands cost are = are
  evaluation_facts p (Some next) commands cost are = record { links = are.links; tests = length_kept (behaviour_of policy).always p.facts.tests ∙ are.tests }

  -- An evaluation at a position with other facts.
  evaluation_stands : (s : Situation) (p : Position) → P s → p.current ≡ s.current → AreFactsOf (scope_of policy) p.facts → Stands policy P (evaluation (behaviour_of policy) p).position
  evaluation_stands s p h same_current are =
      let b = behaviour_of policy in
      let always = b.answer AlwaysBody p.facts in
      let own = b.answer (Body p.current.0) p.facts in
      let o = change_of p.current (later_wish always.wish own.wish) in
      let commands = always.commands ++ own.commands in
      let cost = b.cost AlwaysBody p.facts + b.cost (Body p.current.0) p.facts in
      record {
        holds = subst P (sym (evaluation_is p o commands cost)) (subst (λ state. P (evaluated policy p.facts state)) (sym same_current) (kept.evaluation s h p.facts are));
        facts = evaluation_facts p o commands cost are;
      }

  either : (c : Bool) (x y : Turn) → Stands policy P x.next.position → Stands policy P y.next.position → Stands policy P (if c then x else y).next.position
  either true x y h k = h
  either false x y h k = k

  module _ (s : CoreState) (stands : Stands policy P s.position) where
    changing_stands : (step : Step) (p : Position) → p.current ≡ s.position.current → AreFactsOf (scope_of policy) p.facts
        → Stands policy P (changing (behaviour_of policy) (room_of policy) step p s).next.position
    changing_stands step p same_current are =
        let e = evaluation_stands (situation_of s.position) p stands.holds same_current are in
        either (lacks_room (room_of policy) s) (unchanged Busy s) (done step (evaluation (behaviour_of policy) p) s) stands (record { holds = e.holds; facts = e.facts })

    link_stands : (seen : LinkSeen) (o : Option LinkState) → Stands policy P (link_turn (behaviour_of policy) (room_of policy) seen o s).next.position
    link_stands seen None = stands
    link_stands seen (Some before) =
        let step = Link seen.interface seen.link in
        let p = with_link seen.interface.0 seen.link s.position in
        let are : AreFactsOf (scope_of policy) p.facts = record { links = length-set s.position.facts.links seen.interface.0 seen.link ∙ stands.facts.links; tests = stands.facts.tests } in
        either (is_link before seen.link) (same step s) (changing (behaviour_of policy) (room_of policy) step p s) (record { holds = stands.holds; facts = stands.facts }) (changing_stands step p refl are)

    finished_stands : (ended : RunEnded) (o : Option (Option Bool)) → Stands policy P (finished_turn (behaviour_of policy) (room_of policy) ended o s).next.position
    finished_stands ended None = stands
    finished_stands ended (Some before) =
        let step = Finished ended.test ended.run ended.value in
        let over = with_run_over ended.test.0 ended.run s.position in
        let p = with_value ended.test.0 ended.value over in
        let are : AreFactsOf (scope_of policy) p.facts = record { links = stands.facts.links; tests = length-set s.position.facts.tests ended.test.0 (Some ended.value) ∙ stands.facts.tests } in
        let changed = changing (behaviour_of policy) (room_of policy) step p s in
        let unmoved = same step (at_position over s) in
        either (not (is_running ended.test.0 ended.run s.position.schedule)) (unchanged Stale s) (if has_value ended.value before then unmoved else changed) stands
        (either (has_value ended.value before) unmoved changed (record { holds = stands.holds; facts = stands.facts }) (changing_stands step p refl are))

    tick_stands : (now : ℕ) → Stands policy P (tick_turn (behaviour_of policy) (room_of policy) now s).next.position
    tick_stands now =
        let p = s.position in
        let e = evaluation (behaviour_of policy) p in
        let stood = evaluation_stands (situation_of p) p stands.holds refl stands.facts in
        let evaluates = ticked_after now true e s in
        let rests = ticked_after now false (no_event p) s in
        let owed = if lacks_room (room_of policy) s then unchanged Busy s else evaluates in
        either (nat_lt now p.schedule.present) (unchanged Backwards s) (if p.owed then owed else rests) stands
        (either p.owed owed rests (either (lacks_room (room_of policy) s) (unchanged Busy s) evaluates stands (record { holds = stood.holds; facts = stood.facts })) (record { holds = stands.holds; facts = stands.facts }))

    take_stands : (queue : List CommandId) → Stands policy P (take_turn queue s).next.position
    take_stands [] = stands
    take_stands (command ∷ commands) = record { holds = stands.holds; facts = stands.facts }

    turn_stands : (step : Step) → Stands policy P (turn (behaviour_of policy) (room_of policy) step s).next.position
    turn_stands (Link interface link) = link_stands (record { interface = interface; link = link }) (slice_get s.position.facts.links interface.0)
    turn_stands (Finished test run value) = finished_stands (record { test = test; run = run; value = value }) (slice_get s.position.facts.tests test.0)
    turn_stands (Tick now) = tick_stands now
    turn_stands Take = take_stands s.queue

  steps_stand : (steps : List Step) (s : CoreState) → Stands policy P s.position → Stands policy P (after_steps (behaviour_of policy) (room_of policy) steps s).position
  steps_stand [] s h = h
  steps_stand (step ∷ steps) s h = steps_stand steps (turn (behaviour_of policy) (room_of policy) step s).next (turn_stands s h step)

  opening_stands : (known : Known) → IsKnownFor policy known → Stands policy P (policy_opened policy known).position
  opening_stands known fits = record {
    holds = kept.opening known fits;
    facts = record { links = fits; tests = length-map (map (λ test. test.period) policy.tables.tests) _ ∙ length-map policy.tables.tests _ };
  }

  kept_holds : HoldsAfterSteps policy P
  kept_holds known fits steps = (steps_stand steps (policy_opened policy known) (opening_stands known fits)).holds

pub closed_holds : ClosedHolds
closed_holds policy set closed known fits steps = kept_holds policy (λ s. IsTrue (set s)) (record { opening = closed.opening; evaluation = closed.evaluation }) known fits steps

-- After an evaluation that leads to no other state, another one does not either.
rest_of : (policy : Policy) (facts : Facts) (state : StateId) (o : Option StateId) → leads_to policy facts state ≡ o → IsAtRest policy (entered_by policy facts state o)
rest_of policy facts state None e owed = e
rest_of policy facts state (Some next) e owed = absurd (true≢false owed)

pub rests_stay : RestsStay
rests_stay policy known fits steps =
    kept_holds policy (IsAtRest policy)
    (record { opening = λ known fits owed. absurd (true≢false owed); evaluation = λ s h facts are. rest_of policy facts s.current (leads_to policy facts s.current) refl }) known fits steps

-- The state after an evaluation.
state_of_evaluation : (policy : Policy) (states : StateId → Bool) → AreEntered policy states → (facts : Facts) → AreFactsOf (scope_of policy) facts → (state : StateId) → IsTrue (states state) → (o : Option StateId)
    → leads_to policy facts state ≡ o → IsTrue (states (entered_by policy facts state o).current)
state_of_evaluation policy states entered facts are state h None e = h
state_of_evaluation policy states entered facts are state h (Some next) e = entered.next state next facts h are e

pub entered_by_wishes : EnteredByWishes
entered_by_wishes policy states entered known fits steps =
    kept_holds policy (λ s. IsTrue (states s.current))
    (record { opening = λ known fits. entered.initial; evaluation = λ s h facts are. state_of_evaluation policy states entered facts are s.current h (leads_to policy facts s.current) refl }) known fits steps

pub holds_of_images : ImageMeansPolicy → HoldsOfImages
holds_of_images means policy fits code set holds b is known known_is steps =
    let runs = means policy fits code b is known known_is steps in
    subst (λ s. IsTrue (set (situation_of s.position))) (sym runs.state) (holds known known_is steps)
