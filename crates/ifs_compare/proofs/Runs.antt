-- Policies that do the same have the same run.
use Rattle.std.proofs.Common.{◌≡◌, ℕ, zero, suc, ◌+◌, ◌<◌, Bool, true, false, not, List, [], ◌∷◌, ◌++◌, length, map, Option, Some, None, refl, sym, ap, ◌∙◌, subst, arith}
use Rattle.std.specs.Prelude.{slice_get, nat_lt, if◌then◌else◌}
use Rattle.std.specs.List.{enumerate_from}
use Rattle.std.proofs.lemmas.List.{length-map, length-set}
use Rattle.std.proofs.lemmas.List.FromFn.{length-enumerate_from}
use Rattle.std.proofs.lemmas.Option.{none-some, slice_get_within}
use Rattle.ifs_base.specs.Facts.{Facts, is_link}
use Rattle.ifs_base.specs.Effects.{Effects, followed}
use Rattle.ifs_base.specs.declared.ids.CommandId.{CommandId}
use Rattle.ifs_base.specs.declared.ids.StateId.{StateId}
use Rattle.ifs_base.specs.declared.op.LinkState.{LinkState}
use Rattle.ifs_sched.specs.Schedule.{is_running, entered, all_off}
use Rattle.ifs_core.specs.declared.step.Step.{Step}
use Rattle.ifs_core.specs.declared.step.Step.TheVariants.{Link, Finished, Tick, Take}
use Rattle.ifs_core.specs.declared.step.Reply.TheVariants.{Busy, Stale, Backwards}
use Rattle.ifs_core.specs.Event.{Handler, AlwaysInit, AlwaysBody, Init, Body, Behaviour, Position, Event, opening, opening_position, kept_values, entering, with_change, evaluation}
use Rattle.ifs_core.specs.Gateway.{Known}
use Rattle.ifs_core.specs.Steps.{CoreState, Turn, unchanged, same, done, ticked_after, no_event, lacks_room, with_link, with_value, with_run_over, has_value, changing}
use Rattle.ifs_core.specs.Steps.{at_position, LinkSeen, RunEnded, link_turn, finished_turn, tick_turn, take_turn, turn, replies, after_steps}
use Rattle.ifs_gen.specs.Trees.{Part, Policy, External}
use Rattle.ifs_gen.specs.PlainSizes.{mask_of_part, room_of}
use Rattle.ifs_gen.specs.Events.{behaviour_of, policy_opened, yield_in, mask_of_state, ImageMeansPolicy}
use Rattle.ifs_policy.specs.Meaning.{init_yield, body_yield}
use Rattle.ifs_solver.specs.declared.fact_sets.Scope.{Scope}
use Rattle.ifs_solver.specs.FactSets.{AreFactsOf, scope_of}
use Rattle.ifs_solver.specs.Situations.{IsKnownFor}
use Rattle.ifs_solver.specs.Reaching.{settled}
use Rattle.ifs_compare.specs.Alike.{AreStatesAlike, AreAlike, HaveSameRun, AlikeRunTheSame, AlikeCoresReplyTheSame}
use Rattle.ifs_compare.proofs.Wishes.{leads_within}

-- What an evaluation in a state does, by a behaviour.
abbrev evaluated_by : Behaviour → StateId → Facts → Effects
evaluated_by b state facts = settled state (followed (b.answer AlwaysBody facts) (b.answer (Body state.0) facts))

-- On all facts of so many links and tests, two behaviours run the same inits, and evaluations in so many states do the same and lead to such states.
record AreLike (scope : Scope) (count : ℕ) (a b : Behaviour) : Type 0 where
  opening : (facts : Facts) → AreFactsOf scope facts → (a.answer AlwaysInit facts).commands ≡ (b.answer AlwaysInit facts).commands
  init : (k : ℕ) (facts : Facts) → AreFactsOf scope facts → (a.answer (Init k) facts).commands ≡ (b.answer (Init k) facts).commands
  evaluation : (state : StateId) (facts : Facts) → state.0 < count → AreFactsOf scope facts → evaluated_by a state facts ≡ evaluated_by b state facts
  leads : (state next : StateId) (facts : Facts) → state.0 < count → AreFactsOf scope facts → (evaluated_by b state facts).wish ≡ Some next → next.0 < count
  cost : (handler : Handler) (facts : Facts) → a.cost handler facts ≡ b.cost handler facts
  always : a.always ≡ b.always
  active : (k : ℕ) → a.active k ≡ b.active k

-- A position has facts of so many links and tests, and one of so many states.
record IsPlace (scope : Scope) (count : ℕ) (p : Position) : Type 0 where
  facts : AreFactsOf scope p.facts
  state : p.current.0 < count

-- Facts of a policy stay such when a state is entered.
length_kept : (always : ℕ) (values : List (Option Bool)) → length (kept_values always values) ≡ length values
length_kept always values = length-map (enumerate_from 0 values) _ ∙ length-enumerate_from 0 values

module _ (scope : Scope) (count : ℕ) (a b : Behaviour) (like : AreLike scope count a b) where
  -- The entry of a state, by the masks.
  abbrev entry : ℕ → ℕ → StateId → Position → Position
  entry always active next p = record {
    facts = record { links = p.facts.links; tests = kept_values always p.facts.tests };
    current = next;
    owed = true;
    schedule = entered always active p.schedule.present p.schedule;
  }

  entering_like : (next : StateId) (p : Position) → entering a next p ≡ entering b next p
  entering_like next p = ap (λ m. entry m (a.active next.0) next p) like.always ∙ ap (λ m. entry b.always m next p) (like.active next.0)

  -- An event in which a handler runs after others.
  abbrev event_after : Event → Position → List CommandId → ℕ → Event
  event_after e p commands cost = record { position = p; commands = e.commands ++ commands; cost = e.cost + cost }

  change_like : (o : Option StateId) (e : Event) → AreFactsOf scope e.position.facts → with_change a o e ≡ with_change b o e
  change_like None e are = refl
  change_like (Some next) e are =
      let q = entering b next e.position in
      let kept : AreFactsOf scope q.facts = record { links = are.links; tests = length_kept b.always e.position.facts.tests ∙ are.tests } in
      ap (λ p. event_after e p (a.answer (Init next.0) p.facts).commands (a.cost (Init next.0) p.facts)) (entering_like next e.position)
      ∙ ap (λ xs. event_after e q xs (a.cost (Init next.0) q.facts)) (like.init next.0 q.facts kept)
      ∙ ap (λ n. event_after e q (b.answer (Init next.0) q.facts).commands n) (like.cost (Init next.0) q.facts)

  -- An evaluation, by what it does.
  abbrev bodies_by : Position → Effects → ℕ → ℕ → Event
  bodies_by p does cost more = record { position = record p { owed = false }; commands = does.commands; cost = cost + more }

  abbrev evaluated_with : Behaviour → Position → Effects → ℕ → ℕ → Event
  evaluated_with x p does cost more = with_change x does.wish (bodies_by p does cost more)

  evaluation_like : (p : Position) → IsPlace scope count p → evaluation a p ≡ evaluation b p
  evaluation_like p is =
      let does = evaluated_by b p.current p.facts in
      ap (λ e. evaluated_with a p e (a.cost AlwaysBody p.facts) (a.cost (Body p.current.0) p.facts)) (like.evaluation p.current p.facts is.state is.facts)
      ∙ ap (λ n. evaluated_with a p does n (a.cost (Body p.current.0) p.facts)) (like.cost AlwaysBody p.facts)
      ∙ ap (λ n. evaluated_with a p does (b.cost AlwaysBody p.facts) n) (like.cost (Body p.current.0) p.facts)
      ∙ change_like does.wish (bodies_by p does (b.cost AlwaysBody p.facts) (b.cost (Body p.current.0) p.facts)) is.facts

  change_place : (o : Option StateId) (e : Event) → IsPlace scope count e.position → ((next : StateId) → o ≡ Some next → next.0 < count) → IsPlace scope count (with_change b o e).position
  change_place None e is leads = is
  change_place (Some next) e is leads = record {
    facts = record { links = is.facts.links; tests = length_kept b.always e.position.facts.tests ∙ is.facts.tests };
    state = leads next refl;
  }

  evaluation_place : (p : Position) → IsPlace scope count p → IsPlace scope count (evaluation b p).position
  evaluation_place p is =
      let does = evaluated_by b p.current p.facts in
      change_place does.wish (bodies_by p does (b.cost AlwaysBody p.facts) (b.cost (Body p.current.0) p.facts)) (record { facts = is.facts; state = is.state })
      (λ next e. like.leads p.current next p.facts is.state is.facts e)

  -- A turn is the same, and leaves facts and a state of the policy.
  record IsLikeTurn (x y : Turn) : Type 0 where
    same : x ≡ y
    place : IsPlace scope count y.next.position

  either : (c : Bool) (x y z w : Turn) → IsLikeTurn x y → IsLikeTurn z w → IsLikeTurn (if c then x else z) (if c then y else w)
  either true x y z w h k = h
  either false x y z w h k = k

  module _ (room : ℕ) (s : CoreState) (is : IsPlace scope count s.position) where
    stays : (t : Turn) → IsPlace scope count t.next.position → IsLikeTurn t t
    stays t h = record { same = refl; place = h }

    changing_like : (step : Step) (p : Position) → IsPlace scope count p → IsLikeTurn (changing a room step p s) (changing b room step p s)
    changing_like step p h =
        either (lacks_room room s) (unchanged Busy s) (unchanged Busy s) (done step (evaluation a p) s) (done step (evaluation b p) s) (stays (unchanged Busy s) is)
        (record { same = ap (λ e. done step e s) (evaluation_like p h); place = evaluation_place p h })

    link_like : (seen : LinkSeen) (o : Option LinkState) → IsLikeTurn (link_turn a room seen o s) (link_turn b room seen o s)
    link_like seen None = stays _ is
    link_like seen (Some before) =
        let step = Link seen.interface seen.link in
        let p = with_link seen.interface.0 seen.link s.position in
        either (is_link before seen.link) (same step s) (same step s) (changing a room step p s) (changing b room step p s) (stays (same step s) is)
        (changing_like step p (record { facts = record { links = length-set s.position.facts.links seen.interface.0 seen.link ∙ is.facts.links; tests = is.facts.tests }; state = is.state }))

    finished_like : (ended : RunEnded) (o : Option (Option Bool)) → IsLikeTurn (finished_turn a room ended o s) (finished_turn b room ended o s)
    finished_like ended None = stays _ is
    finished_like ended (Some before) =
        let step = Finished ended.test ended.run ended.value in
        let over = with_run_over ended.test.0 ended.run s.position in
        let p = with_value ended.test.0 ended.value over in
        let unmoved = same step (at_position over s) in
        let here = changing a room step p s in
        let there = changing b room step p s in
        either (not (is_running ended.test.0 ended.run s.position.schedule)) (unchanged Stale s) (unchanged Stale s) (if has_value ended.value before then unmoved else here)
        (if has_value ended.value before then unmoved else there) (stays (unchanged Stale s) is)
        (either (has_value ended.value before) unmoved unmoved here there (stays unmoved (record { facts = is.facts; state = is.state }))
        (changing_like step p (record { facts = record { links = is.facts.links; tests = length-set s.position.facts.tests ended.test.0 (Some ended.value) ∙ is.facts.tests }; state = is.state })))

    tick_like : (now : ℕ) → IsLikeTurn (tick_turn a room now s) (tick_turn b room now s)
    tick_like now =
        let p = s.position in
        let here = ticked_after now true (evaluation a p) s in
        let there = ticked_after now true (evaluation b p) s in
        let rests = ticked_after now false (no_event p) s in
        let owed_here = if lacks_room room s then unchanged Busy s else here in
        let owed_there = if lacks_room room s then unchanged Busy s else there in
        either (nat_lt now p.schedule.present) (unchanged Backwards s) (unchanged Backwards s) (if p.owed then owed_here else rests) (if p.owed then owed_there else rests) (stays (unchanged Backwards s) is)
        (either p.owed owed_here owed_there rests rests
        (either (lacks_room room s) (unchanged Busy s) (unchanged Busy s) here there (stays (unchanged Busy s) is)
        (let after = evaluation_place p is in record { same = ap (λ e. ticked_after now true e s) (evaluation_like p is); place = record { facts = after.facts; state = after.state } }))
        (stays rests (record { facts = is.facts; state = is.state })))

    take_like : (queue : List CommandId) → IsLikeTurn (take_turn queue s) (take_turn queue s)
    take_like [] = stays _ is
    take_like (command ∷ commands) = stays _ is

    turn_like : (step : Step) → IsLikeTurn (turn a room step s) (turn b room step s)
    turn_like (Link interface link) = link_like (record { interface = interface; link = link }) (slice_get s.position.facts.links interface.0)
    turn_like (Finished test run value) = finished_like (record { test = test; run = run; value = value }) (slice_get s.position.facts.tests test.0)
    turn_like (Tick now) = tick_like now
    turn_like Take = take_like s.queue

  -- All steps.
  replies_like : (room : ℕ) (steps : List Step) (s : CoreState) → IsPlace scope count s.position → replies a room steps s ≡ replies b room steps s
  replies_like room [] s is = refl
  replies_like room (step ∷ steps) s is =
      let t = turn_like room s is step in
      ap (λ x. x.reply ∷ replies a room steps x.next) t.same
      ∙ ap (λ rs. (turn b room step s).reply ∷ rs) (replies_like room steps (turn b room step s).next t.place)

  steps_like : (room : ℕ) (steps : List Step) (s : CoreState) → IsPlace scope count s.position → after_steps a room steps s ≡ after_steps b room steps s
  steps_like room [] s is = refl
  steps_like room (step ∷ steps) s is =
      let t = turn_like room s is step in
      ap (λ x. after_steps a room steps x.next) t.same ∙ steps_like room steps (turn b room step s).next t.place

  -- The opening, by the masks.
  abbrev first_position : ℕ → ℕ → List LinkState → List ℕ → ℕ → StateId → Position
  first_position always active links periods first_run initial = record {
    facts = record { links = links; tests = map (λ _. None) periods };
    current = initial;
    owed = true;
    schedule = entered always active 0 (all_off periods first_run);
  }

  position_like : (links : List LinkState) (periods : List ℕ) (first_run : ℕ) (initial : StateId) → opening_position a links periods first_run initial ≡ opening_position b links periods first_run initial
  position_like links periods first_run initial =
      ap (λ m. first_position m (a.active initial.0) links periods first_run initial) like.always ∙ ap (λ m. first_position b.always m links periods first_run initial) (like.active initial.0)

  abbrev opened_by : Position → List CommandId → List CommandId → ℕ → ℕ → Event
  opened_by p always own cost more = record { position = p; commands = always ++ own; cost = cost + more }

  opening_like : (links : List LinkState) (periods : List ℕ) (first_run : ℕ) (initial : StateId) → AreFactsOf scope (opening_position b links periods first_run initial).facts
      → opening a links periods first_run initial ≡ opening b links periods first_run initial
  opening_like links periods first_run initial are =
      let p = opening_position b links periods first_run initial in
      let always = (b.answer AlwaysInit p.facts).commands in
      let own = (b.answer (Init initial.0) p.facts).commands in
      ap (λ x. opened_by x (a.answer AlwaysInit x.facts).commands (a.answer (Init initial.0) x.facts).commands (a.cost AlwaysInit x.facts) (a.cost (Init initial.0) x.facts)) (position_like links periods first_run initial)
      ∙ ap (λ xs. opened_by p xs (a.answer (Init initial.0) p.facts).commands (a.cost AlwaysInit p.facts) (a.cost (Init initial.0) p.facts)) (like.opening p.facts are)
      ∙ ap (λ xs. opened_by p always xs (a.cost AlwaysInit p.facts) (a.cost (Init initial.0) p.facts)) (like.init initial.0 p.facts are)
      ∙ ap (λ n. opened_by p always own n (a.cost (Init initial.0) p.facts)) (like.cost AlwaysInit p.facts)
      ∙ ap (λ n. opened_by p always own (b.cost AlwaysInit p.facts) n) (like.cost (Init initial.0) p.facts)

-- A list of the same length has a member at the same places.
there : {X : Type 0} (xs : List X) (k : ℕ) → k < length xs → slice_get xs k ≡ None → ⊥
there [] k lt e = omega (arith, lt)
there (x ∷ xs) zero lt e = none-some x (sym e)
there (x ∷ xs) (suc k) lt e = there xs k (omega (arith, lt)) e

only_one : {X : Type 0} (xs ys : List X) → length xs ≡ length ys → (k : ℕ) (x : X) → slice_get xs k ≡ Some x → slice_get ys k ≡ None → ⊥
only_one xs ys same k x e f = let within = slice_get_within xs k x e in there ys k (omega (arith, within, same)) f

-- What a state does that both policies have, or neither.
module _ (scope : Scope) (always of_other : Part) (old new : List Part) (alike : AreStatesAlike scope always of_other old new) where
  pub inits_like : (facts : Facts) → AreFactsOf scope facts → (k : ℕ) (o p : Option Part) → slice_get old k ≡ o → slice_get new k ≡ p
      → (yield_in (λ part. init_yield facts part.init) o).commands ≡ (yield_in (λ part. init_yield facts part.init) p).commands
  inits_like facts are k None None e f = refl
  inits_like facts are k None (Some other) e f = absurd (only_one new old (sym alike.count) k other f e)
  inits_like facts are k (Some one) None e f = absurd (only_one old new alike.count k one e f)
  inits_like facts are k (Some one) (Some other) e f = ap (λ x. x.commands) ((alike.each (record { 0 = k }) one other e f).part.init facts are)

  pub evaluations_like : (facts : Facts) → AreFactsOf scope facts → (state : StateId) → state.0 < length old → (o p : Option Part) → slice_get old state.0 ≡ o → slice_get new state.0 ≡ p
      → settled state (followed (body_yield facts always.body) (yield_in (λ part. body_yield facts part.body) o)) ≡ settled state (followed (body_yield facts of_other.body) (yield_in (λ part. body_yield facts part.body) p))
  evaluations_like facts are state lt None p e f = absurd (there old state.0 lt e)
  evaluations_like facts are state lt (Some one) None e f = absurd (only_one old new alike.count state.0 one e f)
  evaluations_like facts are state lt (Some one) (Some other) e f = (alike.each state one other e f).evaluation facts are

  masks_like : (k : ℕ) (o p : Option Part) → slice_get old k ≡ o → slice_get new k ≡ p → mask_of_state scope.tests o ≡ mask_of_state scope.tests p
  masks_like k None None e f = refl
  masks_like k None (Some other) e f = absurd (only_one new old (sym alike.count) k other f e)
  masks_like k (Some one) None e f = absurd (only_one old new alike.count k one e f)
  masks_like k (Some one) (Some other) e f = (alike.each (record { 0 = k }) one other e f).part.active

-- The behaviours of policies that do the same.
module _ (old new : Policy) (alike : AreAlike old new) where
  evaluation_same : (state : StateId) (facts : Facts) → state.0 < length old.states → AreFactsOf (scope_of old) facts → evaluated_by (behaviour_of old) state facts ≡ evaluated_by (behaviour_of new) state facts
  evaluation_same state facts lt are =
      evaluations_like (scope_of old) old.always new.always old.states new.states alike.states facts are state lt (slice_get old.states state.0) (slice_get new.states state.0) refl refl

  behaviours_like : AreLike (scope_of old) (length old.states) (behaviour_of old) (behaviour_of new)
  behaviours_like = record {
    opening = λ facts are. ap (λ x. x.commands) (alike.always.init facts are);
    init = λ k facts are.
        inits_like (scope_of old) old.always new.always old.states new.states alike.states facts are k (slice_get old.states k) (slice_get new.states k) refl refl;
    evaluation = evaluation_same;
    leads = λ state next facts lt are e. leads_within old facts state next alike.fits (ap (λ x. x.wish) (evaluation_same state facts lt are) ∙ e);
    cost = λ handler facts. refl;
    always = alike.always.active ∙ ap (λ t. mask_of_part (length t.tests) new.always) alike.tables;
    active = λ k.
        masks_like (scope_of old) old.always new.always old.states new.states alike.states k (slice_get old.states k) (slice_get new.states k) refl refl
        ∙ ap (λ t. mask_of_state (length t.tests) (slice_get new.states k)) alike.tables;
  }

  -- What both openings are.
  abbrev opened_with : Behaviour → Known → List External → StateId → CoreState
  opened_with b known tests initial =
      let e = opening b known.links (map (λ test. test.period) tests) known.first_run initial in
      record { position = e.position; queue = e.commands; trace = [] }

  module _ (known : Known) (fits : IsKnownFor old known) where
    opened_place : IsPlace (scope_of old) (length old.states) (policy_opened old known).position
    opened_place = record {
      facts = record { links = fits; tests = length-map (map (λ test. test.period) old.tables.tests) _ ∙ length-map old.tables.tests _ };
      state = subst (λ n. old.initial.0 < n) (sym alike.fits.count) alike.fits.initial;
    }

    abbrev state_by : Event → CoreState
    state_by e = record { position = e.position; queue = e.commands; trace = [] }

    opened_like : policy_opened old known ≡ policy_opened new known
    opened_like =
        ap state_by (opening_like (scope_of old) (length old.states) (behaviour_of old) (behaviour_of new) behaviours_like known.links (map (λ test. test.period) old.tables.tests) known.first_run old.initial opened_place.facts)
        ∙ ap (λ t. opened_with (behaviour_of new) known t.tests old.initial) alike.tables
        ∙ ap (λ i. opened_with (behaviour_of new) known new.tables.tests i) alike.initial

    same_run : (room : ℕ) (steps : List Step) → HaveSameRun old new known room steps
    same_run room steps = record {
      replies =
          replies_like (scope_of old) (length old.states) (behaviour_of old) (behaviour_of new) behaviours_like room steps (policy_opened old known) opened_place
          ∙ ap (λ s. replies (behaviour_of new) room steps s) opened_like;
      state =
          steps_like (scope_of old) (length old.states) (behaviour_of old) (behaviour_of new) behaviours_like room steps (policy_opened old known) opened_place
          ∙ ap (λ s. after_steps (behaviour_of new) room steps s) opened_like;
    }

pub alike_run_the_same : AlikeRunTheSame
alike_run_the_same old new alike known fits room steps = same_run old new alike known fits room steps

pub alike_cores_reply_the_same : ImageMeansPolicy → AlikeCoresReplyTheSame
alike_cores_reply_the_same means old new old_fits old_code new_fits new_code alike room a b a_is b_is known known_is steps =
    (means old old_fits old_code a a_is known known_is steps).replies
    ∙ (same_run old new alike known known_is (room_of old) steps).replies
    ∙ ap (λ r. replies (behaviour_of new) r steps (policy_opened new known)) room
    ∙ sym (means new new_fits new_code b b_is known (known_is ∙ ap (λ t. length t.interfaces) alike.tables) steps).replies
