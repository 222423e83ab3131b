-- What stays after any steps, and what one step does.
use Rattle.std.proofs.Common.{◌≡◌, ℕ, zero, suc, ◌+◌, ◌<◌, ◌⊎◌, inl, inr, ⊎_elim, Bool, true, false, not, ◌&&◌, List, [], ◌∷◌, ◌++◌, length, map, Option, Some, None, eqb, refl, sym, ap, ◌∙◌, subst, append_assoc, arith}
use Rattle.std.specs.Prelude.{slice_get, is_some, nat_lt, if◌then◌else◌}
use Rattle.std.specs.List.{enumerate_from}
use Rattle.std.proofs.lemmas.Bool.{false≢true, eqb-true, eq-eqb}
use Rattle.std.proofs.lemmas.Option.{none-some, same_Some, slice_get_within, get_or_from_slice_get}
use Rattle.std.proofs.lemmas.List.{length-map, length-set, append-nil}
use Rattle.std.proofs.lemmas.List.FromFn.{length-enumerate_from}
use Rattle.ifs_base.specs.Facts.{Facts, is_link}
use Rattle.ifs_base.specs.Effects.{Effects, nothing_yet, later_wish}
use Rattle.ifs_base.specs.declared.ids.CommandId.{CommandId}
use Rattle.ifs_base.specs.declared.ids.IfaceId.{IfaceId}
use Rattle.ifs_base.specs.declared.ids.TestId.{TestId}
use Rattle.ifs_base.specs.declared.ids.StateId.{StateId}
use Rattle.ifs_base.specs.declared.op.LinkState.{LinkState}
use Rattle.ifs_sched.specs.Schedule.{is_running}
use Rattle.ifs_core.specs.declared.step.Step.{Step}
use Rattle.ifs_core.specs.declared.step.Step.TheVariants.{Link, Finished, Tick, Take}
use Rattle.ifs_core.specs.declared.step.Reply.TheVariants.{Busy, Stale, Backwards}
use Rattle.ifs_core.specs.Event.{AlwaysBody, Body, Behaviour, Position, change_of, kept_values, with_change, evaluation}
use Rattle.ifs_core.specs.Gateway.{Known}
use Rattle.ifs_core.specs.Steps.{CoreState, Turn, unchanged, same, done, ticked_after, no_event, lacks_room, with_link, with_value, with_run_over, has_value, changing, commands_told}
use Rattle.ifs_core.specs.Steps.{at_position, link_turn, finished_turn, tick_turn, take_turn, turn, after_steps}
use Rattle.ifs_gen.specs.Trees.{Part, Policy}
use Rattle.ifs_gen.specs.PlainSizes.{room_of}
use Rattle.ifs_gen.specs.Events.{behaviour_of, policy_opened, yield_in}
use Rattle.ifs_parse.specs.Trees.{Done, RunThen, SetStateThen, IfThen}
use Rattle.ifs_policy.specs.Meaning.{Block, body_yield, is_held, reached, truth}
use Rattle.ifs_policy.specs.Fits.{Sizes, sizes_of, BlockFits, HandlersFit, PolicyFits}
use Rattle.ifs_solver.specs.FactSets.{AreFactsOf, scope_of}
use Rattle.ifs_solver.specs.Situations.{Situation, situation_of, situation_after, IsKnownFor, leads_to, wish_of, entered_by, evaluated}
use Rattle.ifs_solver.proofs.Situated.{closed_holds, entered_by_wishes}
use Rattle.ifs_claims.specs.Moves.{FactsStay, IsThere, StatesStay, LeadsBy, seen, with_init, commands_of, IsStepFrom, IsEvaluatedBy, IsFreshIn, OwedAreFresh, state_after, queued_by, StepsEvaluate}
use Rattle.ifs_claims.specs.Moves.{IsOneStep, StepsEvaluateOnce}

-- Facts of a policy, as a test.
abbrev has_places : Policy → Situation → Bool
has_places policy s = eqb (length s.facts.links) (length policy.tables.interfaces) && eqb (length s.facts.tests) (length policy.tables.tests)

both : (a b : Bool) → a ≡ true → b ≡ true → (a && b) ≡ true
both true b e f = f
both false b e f = e

first_of : (a b : Bool) → (a && b) ≡ true → a ≡ true
first_of true b e = refl
first_of false b e = e

second_of : (a b : Bool) → (a && b) ≡ true → b ≡ true
second_of true b e = e
second_of false b e = absurd (false≢true e)

has_places_of : (policy : Policy) (s : Situation) → AreFactsOf (scope_of policy) s.facts → has_places policy s ≡ true
has_places_of policy s are =
    both (eqb (length s.facts.links) (length policy.tables.interfaces)) (eqb (length s.facts.tests) (length policy.tables.tests))
    (eq-eqb (length s.facts.links) (length policy.tables.interfaces) are.links) (eq-eqb (length s.facts.tests) (length policy.tables.tests) are.tests)

facts_of_places : (policy : Policy) (s : Situation) → has_places policy s ≡ true → AreFactsOf (scope_of policy) s.facts
facts_of_places policy s e =
    let a = eqb (length s.facts.links) (length policy.tables.interfaces) in
    let b = eqb (length s.facts.tests) (length policy.tables.tests) in
    record { links = eqb-true (length s.facts.links) (length policy.tables.interfaces) (first_of a b e); tests = eqb-true (length s.facts.tests) (length policy.tables.tests) (second_of a b e) }

pub length_kept : (always : ℕ) (values : List (Option Bool)) → length (kept_values always values) ≡ length values
length_kept always values = length-map (enumerate_from 0 values) _ ∙ length-enumerate_from 0 values

evaluated_facts : (policy : Policy) (facts : Facts) (state : StateId) (o : Option StateId) → AreFactsOf (scope_of policy) facts → AreFactsOf (scope_of policy) (entered_by policy facts state o).facts
evaluated_facts policy facts state None are = are
evaluated_facts policy facts state (Some next) are = record { links = are.links; tests = length_kept (behaviour_of policy).always facts.tests ∙ are.tests }

pub facts_stay : FactsStay
facts_stay policy known fits steps =
    facts_of_places policy (situation_after policy known steps) (closed_holds policy (has_places policy) (record {
      opening = λ k is. has_places_of policy (situation_of (policy_opened policy k).position) (record { links = is; tests = length-map (map (λ test. test.period) policy.tables.tests) _ ∙ length-map policy.tables.tests _ });
      evaluation = λ s h facts are. has_places_of policy (entered_by policy facts s.current (leads_to policy facts s.current)) (evaluated_facts policy facts s.current (leads_to policy facts s.current) are);
    }) known fits steps)

-- The wishes of a policy are for states that it has.
later_fits : (n : ℕ) (before after : Option StateId) (next : StateId) → (before ≡ Some next → next.0 < n) → (after ≡ Some next → next.0 < n) → later_wish before after ≡ Some next → next.0 < n
later_fits n before None next f g e = f e
later_fits n before (Some state) next f g e = g e

chosen_fits : (n : ℕ) (c : Bool) (effects : Effects) (next : StateId) → (effects.wish ≡ Some next → next.0 < n) → (if c then effects else nothing_yet).wish ≡ Some next → next.0 < n
chosen_fits n true effects next f e = f e
chosen_fits n false effects next f e = absurd (none-some next e)

held_fits : (n : ℕ) (c : Bool) (effects : Effects) (next : StateId) → (effects.wish ≡ Some next → next.0 < n) → (if c then nothing_yet else effects).wish ≡ Some next → next.0 < n
held_fits n true effects next f e = absurd (none-some next e)
held_fits n false effects next f e = f e

no_before : (after : Option StateId) → later_wish None after ≡ after
no_before None = refl
no_before (Some state) = refl

reached_fits : (sizes : Sizes) (facts : Facts) (block : Block) (next : StateId) → BlockFits sizes block → (reached facts block).wish ≡ Some next → next.0 < sizes.states
reached_fits sizes facts Done next fits e = absurd (none-some next e)
reached_fits sizes facts (RunThen command rest) next fits e = reached_fits sizes facts rest next fits.1 (sym (no_before (reached facts rest).wish) ∙ e)
reached_fits sizes facts (SetStateThen state rest) next fits e =
    later_fits sizes.states (Some state) (reached facts rest).wish next (λ h. subst (λ s. s.0 < sizes.states) (same_Some state next h) fits.0) (λ h. reached_fits sizes facts rest next fits.1 h) e
reached_fits sizes facts (IfThen condition inner rest) next fits e =
    later_fits sizes.states (if truth facts condition then reached facts inner else nothing_yet).wish (reached facts rest).wish next
    (λ h. chosen_fits sizes.states (truth facts condition) (reached facts inner) next (λ k. reached_fits sizes facts inner next fits.1 k) h) (λ h. reached_fits sizes facts rest next fits.2 h) e

yield_fits : (sizes : Sizes) (facts : Facts) (body : Block) (next : StateId) → BlockFits sizes body → (body_yield facts body).wish ≡ Some next → next.0 < sizes.states
yield_fits sizes facts body next fits e = held_fits sizes.states (is_held facts body) (reached facts body) next (λ h. reached_fits sizes facts body next fits h) e

own_fits : (policy : Policy) (facts : Facts) (state next : StateId) (o : Option Part) → PolicyFits policy → slice_get policy.states state.0 ≡ o → (yield_in (λ part. body_yield facts part.body) o).wish ≡ Some next
    → next.0 < length policy.tables.states
own_fits policy facts state next None fits at e = absurd (none-some next e)
own_fits policy facts state next (Some part) fits at e =
    let within = slice_get_within policy.states state.0 part at in
    let there = subst (HandlersFit (sizes_of policy.tables)) (get_or_from_slice_get policy.states state.0 part part at) (fits.states state.0 part within) in
    yield_fits (sizes_of policy.tables) facts part.body next there.body e

wish_fits : (policy : Policy) (facts : Facts) (state next : StateId) → PolicyFits policy → wish_of policy facts state ≡ Some next → next.0 < length policy.tables.states
wish_fits policy facts state next fits e =
    later_fits (length policy.tables.states) (body_yield facts policy.always.body).wish (yield_in (λ part. body_yield facts part.body) (slice_get policy.states state.0)).wish next
    (λ h. yield_fits (sizes_of policy.tables) facts policy.always.body next fits.always.body h) (λ h. own_fits policy facts state next (slice_get policy.states state.0) fits refl h) e

-- Where an evaluation leads is its wish.
pub leads_wish : (state next : StateId) (wish : Option StateId) → change_of state wish ≡ Some next → wish ≡ Some next
leads_wish state next None e = absurd (none-some next e)
leads_wish state next (Some other) e = changed (eqb other.0 state.0) e
  where
    changed : (c : Bool) → (if c then None else Some other) ≡ Some next → Some other ≡ Some next
    changed true h = absurd (none-some next h)
    changed false h = h

-- The states that a policy has, as a test.
abbrev has_state : Policy → StateId → Bool
has_state policy state = is_some (slice_get policy.states state.0)

there_below : {X : Type 0} (xs : List X) (i : ℕ) → i < length xs → is_some (slice_get xs i) ≡ true
there_below [] i lt = absurd (omega (arith, lt))
there_below (x ∷ xs) zero lt = refl
there_below (x ∷ xs) (suc i) lt = there_below xs i (omega (arith, lt))

has_below : (policy : Policy) (state : StateId) → PolicyFits policy → state.0 < length policy.tables.states → has_state policy state ≡ true
has_below policy state fits lt = let count = fits.count in there_below policy.states state.0 (omega (arith, lt, count))

there_of : (policy : Policy) (state : StateId) (o : Option Part) → slice_get policy.states state.0 ≡ o → is_some o ≡ true → IsThere policy state
there_of policy state None at e = absurd (false≢true e)
there_of policy state (Some part) at e = (part, at)

pub states_stay : StatesStay
states_stay policy policy_fits known fits steps =
    there_of policy _ _ refl (entered_by_wishes policy (has_state policy) (record {
      initial = has_below policy policy.initial policy_fits policy_fits.initial;
      next = λ state next facts h are leads. has_below policy next policy_fits (wish_fits policy facts state next policy_fits (leads_wish state next (wish_of policy facts state) leads));
    }) known fits steps)

-- One step.
module _ (policy : Policy) (s : CoreState) (are : AreFactsOf (scope_of policy) s.position.facts) where
  abbrev Comes : Step → Turn → Type 0
  Comes step t = IsOneStep policy step (situation_of s.position) (situation_of t.next.position) (commands_told t.reply)

  change_queues : (p : Position) (o : Option StateId) (commands : List CommandId) (cost : ℕ)
      → (with_change (behaviour_of policy) o (record { position = record p { owed = false }; commands = commands; cost = cost })).commands ≡ with_init policy p.facts o commands
  change_queues p None commands cost = refl
  change_queues p (Some next) commands cost = refl

  evaluation_queues : (p : Position) → p.current ≡ s.position.current → (evaluation (behaviour_of policy) p).commands ≡ commands_of policy p.facts s.position.current
  evaluation_queues p same_state =
      let b = behaviour_of policy in
      let always = b.answer AlwaysBody p.facts in
      let own = b.answer (Body p.current.0) p.facts in
      change_queues p (change_of p.current (later_wish always.wish own.wish)) (always.commands ++ own.commands) (b.cost AlwaysBody p.facts + b.cost (Body p.current.0) p.facts)
      ∙ ap (commands_of policy p.facts) same_state

  evaluation_is : (p : Position) (o : Option StateId) (commands : List CommandId) (cost : ℕ)
      → situation_of (with_change (behaviour_of policy) o (record { position = record p { owed = false }; commands = commands; cost = cost })).position ≡ entered_by policy p.facts p.current o
  evaluation_is p None commands cost = refl
  evaluation_is p (Some next) commands cost = refl

  evaluation_leaves : (p : Position) → p.current ≡ s.position.current → situation_of (evaluation (behaviour_of policy) p).position ≡ evaluated policy p.facts s.position.current
  evaluation_leaves p same_state =
      let b = behaviour_of policy in
      let always = b.answer AlwaysBody p.facts in
      let own = b.answer (Body p.current.0) p.facts in
      evaluation_is p (change_of p.current (later_wish always.wish own.wish)) (always.commands ++ own.commands) (b.cost AlwaysBody p.facts + b.cost (Body p.current.0) p.facts)
      ∙ ap (evaluated policy p.facts) same_state

  stays : (step : Step) (t : Turn) → situation_of t.next.position ≡ situation_of s.position → commands_told t.reply ≡ [] → Comes step t
  stays step t same_situation none = inl (record { situation = same_situation; queued = none })

  either : (step : Step) (c : Bool) (x y : Turn) → Comes step x → Comes step y → Comes step (if c then x else y)
  either step true x y h k = h
  either step false x y h k = k

  changing_comes : (step : Step) (p : Position) → p.current ≡ s.position.current → p.facts ≡ seen step s.position.facts → AreFactsOf (scope_of policy) p.facts
      → Comes step (changing (behaviour_of policy) (room_of policy) step p s)
  changing_comes step p same_state facts_is facts =
      let e = evaluation (behaviour_of policy) p in
      either step (lacks_room (room_of policy) s) (unchanged Busy s) (done step e s) (stays step (unchanged Busy s) refl refl)
      (inr (record {
        are = subst (AreFactsOf (scope_of policy)) facts_is facts;
        situation = evaluation_leaves p same_state ∙ ap (λ f. evaluated policy f s.position.current) facts_is;
        queued = evaluation_queues p same_state ∙ ap (λ f. commands_of policy f s.position.current) facts_is;
      }))

  link_comes : (interface : IfaceId) (link : LinkState) (o : Option LinkState) → Comes (Link interface link) (link_turn (behaviour_of policy) (room_of policy) (record { interface = interface; link = link }) o s)
  link_comes interface link None = inl (record { situation = refl; queued = refl })
  link_comes interface link (Some before) =
      let step = Link interface link in
      let p = with_link interface.0 link s.position in
      either step (is_link before link) (same step s) (changing (behaviour_of policy) (room_of policy) step p s) (stays step (same step s) refl refl)
      (changing_comes step p refl refl (record { links = length-set s.position.facts.links interface.0 link ∙ are.links; tests = are.tests }))

  finished_comes : (test : TestId) (run : ℕ) (value : Bool) (o : Option (Option Bool))
      → Comes (Finished test run value) (finished_turn (behaviour_of policy) (room_of policy) (record { test = test; run = run; value = value }) o s)
  finished_comes test run value None = inl (record { situation = refl; queued = refl })
  finished_comes test run value (Some before) =
      let step = Finished test run value in
      let over = with_run_over test.0 run s.position in
      let p = with_value test.0 value over in
      let changed = changing (behaviour_of policy) (room_of policy) step p s in
      let unmoved = same step (at_position over s) in
      either step (not (is_running test.0 run s.position.schedule)) (unchanged Stale s) (if has_value value before then unmoved else changed) (stays step (unchanged Stale s) refl refl)
      (either step (has_value value before) unmoved changed (stays step unmoved refl refl)
      (changing_comes step p refl refl (record { links = are.links; tests = length-set s.position.facts.tests test.0 (Some value) ∙ are.tests })))

  tick_comes : (now : ℕ) → Comes (Tick now) (tick_turn (behaviour_of policy) (room_of policy) now s)
  tick_comes now =
      let step = Tick now in
      let p = s.position in
      let evaluates = ticked_after now true (evaluation (behaviour_of policy) p) s in
      let rests = ticked_after now false (no_event p) s in
      let owed = if lacks_room (room_of policy) s then unchanged Busy s else evaluates in
      either step (nat_lt now p.schedule.present) (unchanged Backwards s) (if p.owed then owed else rests) (stays step (unchanged Backwards s) refl refl)
      (either step p.owed owed rests
      (either step (lacks_room (room_of policy) s) (unchanged Busy s) evaluates (stays step (unchanged Busy s) refl refl)
      (inr (record { are = are; situation = evaluation_leaves p refl; queued = evaluation_queues p refl })))
      (stays step rests refl refl))

  take_comes : (queue : List CommandId) → Comes Take (take_turn queue s)
  take_comes [] = inl (record { situation = refl; queued = refl })
  take_comes (command ∷ commands) = inl (record { situation = refl; queued = refl })

  turn_comes : (step : Step) → Comes step (turn (behaviour_of policy) (room_of policy) step s)
  turn_comes (Link interface link) = link_comes interface link (slice_get s.position.facts.links interface.0)
  turn_comes (Finished test run value) = finished_comes test run value (slice_get s.position.facts.tests test.0)
  turn_comes (Tick now) = tick_comes now
  turn_comes Take = take_comes s.queue

pub one_more : (b : Behaviour) (room : ℕ) (steps : List Step) (step : Step) (s : CoreState) → after_steps b room (steps ++ step ∷ []) s ≡ (turn b room step (after_steps b room steps s)).next
one_more b room [] step s = refl
one_more b room (first ∷ steps) step s = one_more b room steps step (turn b room first s).next

pub steps_evaluate_once : StepsEvaluateOnce
steps_evaluate_once policy known fits steps step =
    let s = state_after policy known steps in
    subst (λ next. IsOneStep policy step (situation_of s.position) (situation_of next.position) (queued_by policy known steps step))
    (sym (one_more (behaviour_of policy) (room_of policy) steps step (policy_opened policy known))) (turn_comes policy s (facts_stay policy known fits steps) step)

-- The same of the situation, the state and the queue, each for itself.
state_by : (policy : Policy) (facts : Facts) (state : StateId) (o : Option StateId) → AreFactsOf (scope_of policy) facts → leads_to policy facts state ≡ o
    → ((entered_by policy facts state o).current ≡ state) ⊎ LeadsBy policy facts state (entered_by policy facts state o).current
state_by policy facts state None are leads = inl refl
state_by policy facts state (Some next) are leads = inr (record { are = are; leads = leads })

evaluated_by : (policy : Policy) (step : Step) (before after : Situation) (commands : List CommandId) → IsOneStep policy step before after commands → IsEvaluatedBy policy step before after commands
evaluated_by policy step before after commands (inl quiet) =
    record { situation = inl quiet.situation; state = inl (ap (λ x. x.current) quiet.situation); queued = inl quiet.queued }
evaluated_by policy step before after commands (inr comes) =
    let facts = seen step before.facts in
    record {
      situation = inr (comes.are, comes.situation);
      state = subst (IsStepFrom policy step before) (sym comes.situation) (state_by policy facts before.current (leads_to policy facts before.current) comes.are refl);
      queued = inr (comes.are, comes.queued);
    }

pub steps_evaluate : StepsEvaluate
steps_evaluate policy known fits steps step =
    evaluated_by policy step (situation_after policy known steps) (situation_after policy known (steps ++ step ∷ [])) (queued_by policy known steps step) (steps_evaluate_once policy known fits steps step)

-- All steps, the last one at each turn.
pub by_last : (Q : List Step → Type 0) → ((steps : List Step) (step : Step) → Q steps → Q (steps ++ step ∷ [])) → (begun rest : List Step) → Q begun → Q (begun ++ rest)
by_last Q next begun [] h = subst Q (sym (append-nil begun)) h
by_last Q next begun (step ∷ rest) h = subst Q (append_assoc begun (step ∷ []) rest) (by_last Q next (begun ++ step ∷ []) rest (next begun step h))

-- Where an evaluation is owed.
entered_fresh : (policy : Policy) (known : Known) (fits : IsKnownFor policy known) (steps : List Step) (facts : Facts) → AreFactsOf (scope_of policy) facts → (o : Option StateId)
    → leads_to policy facts (situation_after policy known steps).current ≡ o → (entered_by policy facts (situation_after policy known steps).current o).owed ≡ true
    → IsFreshIn policy (entered_by policy facts (situation_after policy known steps).current o)
entered_fresh policy known fits steps facts are None leads owed = absurd (false≢true owed)
entered_fresh policy known fits steps facts are (Some next) leads owed = record { known = known; fits = fits; steps = steps; facts = facts; are = are; leads = leads; links = refl; kept = refl }

abbrev IsFreshOrFirst : Policy → Situation → Type 0
IsFreshOrFirst policy s = s.owed ≡ true → (s.current ≡ policy.initial) ⊎ IsFreshIn policy s

pub owed_are_fresh : OwedAreFresh
owed_are_fresh policy known fits steps =
    by_last (λ done. IsFreshOrFirst policy (situation_after policy known done))
    (λ done step h.
    let before = situation_after policy known done in
    let facts = seen step before.facts in
    ⊎_elim (λ same. subst (IsFreshOrFirst policy) (sym same) h)
    (λ come. subst (IsFreshOrFirst policy) (sym come.1) (λ owed. inr (entered_fresh policy known fits done facts come.0 (leads_to policy facts before.current) refl owed)))
    (steps_evaluate policy known fits done step).situation)
    [] steps (λ owed. inl refl)
